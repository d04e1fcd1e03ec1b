use Rattle.events.proofs.KeyPlaces.{stands_in_order}
use Rattle.events.proofs.clock_laws.key_stands_in_order.Goals as goal

pub returns : goal.returns
returns c = stands_in_order
