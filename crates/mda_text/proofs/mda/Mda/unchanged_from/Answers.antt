use Rattle.std.proofs.Common.{ℕ, ◌+◌, ◌%◌, arith}
use Rattle.mda_text.proofs.Sections.{cells_unchanged, same_truth}
use Rattle.mda_text.proofs.mda.Mda.unchanged_from.Goals as goal

pub returns-clause-unchanged : goal.returns-clause-unchanged
returns-clause-unchanged c =
    let word : ℕ = (c.from.result + c.from-2.result) % 2048 in
    let recalls = c.self.invariant.3 c.if-not-snapshot.false in
    cells_unchanged c.args.self.now _ c.args.mark c.args.n word c.min.result _ _ _ c.self.view_is c.if-mark-self.false
    c.if-mark-eq0.false c.if-snapshot-self.false (same_truth _ _ c.if-snapshot-self-2.false) recalls.shown (omega arith)
    (omega arith) (omega arith) (λ k least below. rw c.deref.ensures.value at (c.same_words-same.ensures.same k least (omega arith)))
