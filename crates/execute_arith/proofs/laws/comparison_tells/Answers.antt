use Rattle.execute_arith.proofs.Order.{comparison_tells}
use Rattle.execute_arith.proofs.laws.comparison_tells.Goals as goal

pub returns : goal.returns
returns c = comparison_tells
