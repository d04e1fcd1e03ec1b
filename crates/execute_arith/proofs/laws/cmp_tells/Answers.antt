use Rattle.execute_arith.proofs.Order.{cmp_tells}
use Rattle.execute_arith.proofs.laws.cmp_tells.Goals as goal

pub returns : goal.returns
returns g c = cmp_tells g.B.Bus.meaning
