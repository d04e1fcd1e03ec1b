-- The bytes so far are put.
use Rattle.std.proofs.Common.{◌≡◌, ◌+◌, ◌≤◌, ◌^◌, length}
use Rattle.probe.specs.Lab.{with_bytes}
use Rattle.probe.proofs.edits.put_bytes.Given as goal

abbrev pub invariant-loop-rest : goal.invariant-loop-rest
invariant-loop-rest l =
    (record l.board { plain = with_bytes l.at l.rest l.board.plain }
    ≡ record l.initial.board { plain = with_bytes l.address l.bytes l.initial.board.plain })
    × (l.at + length l.rest ≤ 2 ^ 20)

abbrev pub decreases-loop-rest : goal.decreases-loop-rest
decreases-loop-rest l = length l.rest
