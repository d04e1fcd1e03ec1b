use Rattle.execute_arith.proofs.Signed.{idiv_divides}
use Rattle.execute_arith.proofs.laws.idiv_divides.Goals as goal

pub returns : goal.returns
returns g c = idiv_divides g.B.Bus.meaning
