use Rattle.std.specs.Io.KnownBytes.{Keeps}
use Rattle.streams.proofs.byte_output.AnyByteOutput.write.Given as goal

abbrev pub invariant-tries : goal.invariant-tries
invariant-tries g l = Keeps (g.W.Write.contents l.initial.self) (g.W.Write.contents l.self)
