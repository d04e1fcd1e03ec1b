use Rattle.wiring.proofs.Agreement.{settled_agree}
use Rattle.wiring.proofs.laws.settled_agree.Goals as goal

pub returns : goal.returns
returns c = settled_agree
