use Rattle.assembler_form.proofs.First.{none_below_more, none_of_all, not_true}
use Rattle.assembler_form.proofs.choose.first_that_fits.Goals as goal

pub loop-row-preserved : goal.loop-row-preserved
loop-row-preserved c =
    none_below_more _ _ _ _ c.loop-row.invariant (not_true _ _ c.is_taken_by.ensures.1 c.if-is_taken_by.false)

pub returns-clause-none : goal.returns-clause-none
returns-clause-none c = none_of_all _ _ _ c.loop-row-test.false c.loop-row.invariant
