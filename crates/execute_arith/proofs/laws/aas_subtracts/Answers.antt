use Rattle.execute_arith.proofs.Decimal.{aas_subtracts}
use Rattle.execute_arith.proofs.laws.aas_subtracts.Goals as goal

pub returns : goal.returns
returns c = aas_subtracts
