use Rattle.wiring.proofs.Alike.{no_read_touches}
use Rattle.wiring.proofs.laws.no_read_touches.Goals as goal

pub returns : goal.returns
returns c = no_read_touches
