use Rattle.execute_arith.proofs.Powers.{sar_divides}
use Rattle.execute_arith.proofs.laws.sar_divides.Goals as goal

pub returns : goal.returns
returns c = sar_divides
