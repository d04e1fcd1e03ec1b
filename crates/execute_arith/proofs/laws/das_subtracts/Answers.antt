use Rattle.execute_arith.proofs.Decimal.{das_subtracts}
use Rattle.execute_arith.proofs.laws.das_subtracts.Goals as goal

pub returns : goal.returns
returns c = das_subtracts
