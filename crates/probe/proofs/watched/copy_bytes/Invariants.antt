-- The bytes of the stops so far are copied.
use Rattle.std.specs.List.{AllWithin}
use Rattle.probe.specs.Watched.{KeepsStops}
use Rattle.probe.proofs.Copies.{Copies}
use Rattle.probe.proofs.watched.copy_bytes.Given as goal

abbrev pub invariant-loop-index : goal.invariant-loop-index
invariant-loop-index l = KeepsStops l.initial.watches l.watches × AllWithin (Copies l.board.plain) l.watches 0 l.index
