use Rattle.execute_arith.proofs.Unsigned.{mul_multiplies}
use Rattle.execute_arith.proofs.laws.mul_multiplies.Goals as goal

pub returns : goal.returns
returns g c = mul_multiplies g.B.Bus.meaning
