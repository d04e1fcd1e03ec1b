-- What the accesses so far have written is copied.
use Rattle.std.proofs.Common.{take}
use Rattle.probe.specs.Met.{AreRenewed}
use Rattle.probe.proofs.bytes.Copied.renew.Given as goal

abbrev pub invariant-loop-access : goal.invariant-loop-access
invariant-loop-access l = AreRenewed (take l.access-index l.accesses) l.board.plain l.initial.self l.self
