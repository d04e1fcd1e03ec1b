use Rattle.execute_arith.proofs.Powers.{shl_multiplies}
use Rattle.execute_arith.proofs.laws.shl_multiplies.Goals as goal

pub returns : goal.returns
returns c = shl_multiplies
