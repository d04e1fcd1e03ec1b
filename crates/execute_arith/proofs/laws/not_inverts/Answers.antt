use Rattle.execute_arith.proofs.Order.{not_inverts}
use Rattle.execute_arith.proofs.laws.not_inverts.Goals as goal

pub returns : goal.returns
returns c = not_inverts
