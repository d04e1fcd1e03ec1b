use Rattle.wiring.proofs.Settling.{settles_once}
use Rattle.wiring.proofs.laws.settles_once.Goals as goal

pub returns : goal.returns
returns c = settles_once
