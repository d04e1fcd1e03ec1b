use Rattle.execute_arith.proofs.Decimal.{daa_adds}
use Rattle.execute_arith.proofs.laws.daa_adds.Goals as goal

pub returns : goal.returns
returns c = daa_adds
