use Rattle.execute_arith.proofs.Signed.{imul_multiplies}
use Rattle.execute_arith.proofs.laws.imul_multiplies.Goals as goal

pub returns : goal.returns
returns g c = imul_multiplies g.B.Bus.meaning
