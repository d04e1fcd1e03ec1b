use Rattle.execute_arith.proofs.Decimal.{aaa_adds}
use Rattle.execute_arith.proofs.laws.aaa_adds.Goals as goal

pub returns : goal.returns
returns c = aaa_adds
