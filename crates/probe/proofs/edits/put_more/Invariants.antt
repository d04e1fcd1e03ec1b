-- The bytes so far are put, and the session begins with its board as it stands.
use Rattle.std.proofs.Common.{◌≡◌, ◌+◌, ◌≤◌, ◌^◌, length}
use Rattle.debugger_meaning.specs.Stands.{shown_of}
use Rattle.probe.specs.Lab.{with_bytes}
use Rattle.probe.proofs.edits.put_more.Given as goal

abbrev pub invariant-loop-rest : goal.invariant-loop-rest
invariant-loop-rest l =
    (record l.session.board { plain = with_bytes l.at l.rest l.session.board.plain }
    ≡ record l.initial.session.board { plain = with_bytes l.address l.bytes l.initial.session.board.plain })
    × ((l.session.first ≡ shown_of l.session.board)
    × ((l.session.stops ≡ l.initial.session.stops) × (l.at + length l.rest ≤ 2 ^ 20)))

abbrev pub decreases-loop-rest : goal.decreases-loop-rest
decreases-loop-rest l = length l.rest
