use Rattle.execute_arith.proofs.Unsigned.{div_divides}
use Rattle.execute_arith.proofs.laws.div_divides.Goals as goal

pub returns : goal.returns
returns g c = div_divides g.B.Bus.meaning
