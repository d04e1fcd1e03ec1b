use Rattle.execute_arith.proofs.Decimal.{aad_joins}
use Rattle.execute_arith.proofs.laws.aad_joins.Goals as goal

pub returns : goal.returns
returns c = aad_joins
