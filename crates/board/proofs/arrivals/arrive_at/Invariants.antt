use Rattle.std.proofs.Common.{◌≡◌, take}
use Rattle.wiring.specs.Wires.{after_arrivals}
use Rattle.board_plain.specs.Plain.{codes_at}
use Rattle.board.proofs.KeyOrder.{Arrived}
use Rattle.board.proofs.arrivals.arrive_at.Given as goal

abbrev pub invariant-loop-index : goal.invariant-loop-index
invariant-loop-index l =
    (l.chips ≡ after_arrivals l.fn.chips (codes_at (take l.index l.keys) l.clock)) × (l.chips.clock ≡ l.fn.chips.clock) × Arrived l.next l.index l.clock l.keys
