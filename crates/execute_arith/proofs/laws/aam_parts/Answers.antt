use Rattle.execute_arith.proofs.Decimal.{aam_parts}
use Rattle.execute_arith.proofs.laws.aam_parts.Goals as goal

pub returns : goal.returns
returns c = aam_parts
