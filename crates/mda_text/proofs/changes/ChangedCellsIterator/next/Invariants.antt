use Rattle.std.proofs.Common.{◌≡◌, ◌-◌}
use Rattle.mda_text.specs.Mda.{cell_count}
use Rattle.mda_text.specs.Marks.{changed_among}
use Rattle.mda_text.proofs.changes.ChangedCellsIterator.next.Given as goal

abbrev pub invariant-loop-self : goal.invariant-loop-self
invariant-loop-self l =
    changed_among l.self-inside.mda.now l.self-inside.mark l.self-inside.next (cell_count - l.self-inside.next)
    ≡ changed_among l.initial.self-inside.mda.now l.initial.self-inside.mark l.initial.self-inside.next (cell_count - l.initial.self-inside.next)

abbrev pub decreases-loop-self : goal.decreases-loop-self
decreases-loop-self l = 2000 - l.self-inside.next
