use Rattle.wiring.proofs.Alike.{no_key_touches}
use Rattle.wiring.proofs.laws.no_key_touches.Goals as goal

pub returns : goal.returns
returns c = no_key_touches
