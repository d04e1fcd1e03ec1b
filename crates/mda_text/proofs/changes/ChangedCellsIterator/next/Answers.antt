use Rattle.std.proofs.Common.{sym, ◌∙◌, arith}
use Rattle.mda_text.proofs.Walk.{names}
use Rattle.mda_text.proofs.changes.ChangedCellsIterator.next.Goals as goal

pub returns-then-is_changed-clause-steps : goal.returns-then-is_changed-clause-steps
returns-then-is_changed-clause-steps c =
    rw c.from-columns.ensures (sym c.self.view_is ∙ sym c.loop-self.invariant ∙ names _ _ _ (omega arith) (sym c.if-is_changed.ensures))
