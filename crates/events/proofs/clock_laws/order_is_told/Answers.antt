use Rattle.events.proofs.Rising.{order_is_told}
use Rattle.events.proofs.clock_laws.order_is_told.Goals as goal

pub returns : goal.returns
returns c = order_is_told
