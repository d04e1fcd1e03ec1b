use Rattle.std.specs.Io.KnownBytes.{Keeps}
use Rattle.streams.proofs.byte_input.AnyByteInput.read.Given as goal

abbrev pub invariant-tries : goal.invariant-tries
invariant-tries g l = Keeps (g.R.Read.remaining l.initial.self) (g.R.Read.remaining l.self)
