use Rattle.execute_arith.proofs.Powers.{shr_divides}
use Rattle.execute_arith.proofs.laws.shr_divides.Goals as goal

pub returns : goal.returns
returns c = shr_divides
