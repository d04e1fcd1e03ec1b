-- The bytes so far have cells.
use Rattle.std.proofs.Common.{◌≡◌, ◌+◌, ◌≤◌, ◌^◌, length}
use Rattle.probe.specs.Lab.{have_cells}
use Rattle.probe.proofs.edits.have_cells.Given as goal

abbrev pub invariant-loop-rest : goal.invariant-loop-rest
invariant-loop-rest l =
    (have_cells l.at l.rest l.board.plain ≡ have_cells l.address l.bytes l.board.plain) × (l.at + length l.rest ≤ 2 ^ 20)

abbrev pub decreases-loop-rest : goal.decreases-loop-rest
decreases-loop-rest l = length l.rest
