-- No row so far takes what is asked.
use Rattle.assembler_form.proofs.First.{NoneBelow}
use Rattle.assembler_form.proofs.choose.first_that_fits.Given as goal

abbrev pub invariant-loop-row : goal.invariant-loop-row
invariant-loop-row l = NoneBelow l.rows l.asked l.row-index
