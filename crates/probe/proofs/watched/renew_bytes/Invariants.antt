-- The bytes of the stops so far are renewed, and the others are as they were.
use Rattle.probe.specs.Watched.{KeepsStops}
use Rattle.probe.proofs.Copies.{IsRenewedTo}
use Rattle.probe.proofs.watched.renew_bytes.Given as goal

abbrev pub invariant-loop-index : goal.invariant-loop-index
invariant-loop-index l =
    KeepsStops l.initial.watches l.watches × IsRenewedTo l.index l.accesses l.board.plain l.initial.watches l.watches
