use Rattle.execute_arith.proofs.Order.{signs_extend}
use Rattle.execute_arith.proofs.laws.signs_extend.Goals as goal

pub returns : goal.returns
returns c = signs_extend
