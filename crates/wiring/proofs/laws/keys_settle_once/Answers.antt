use Rattle.wiring.proofs.Settling.{keys_settle_once}
use Rattle.wiring.proofs.laws.keys_settle_once.Goals as goal

pub returns : goal.returns
returns c = keys_settle_once
