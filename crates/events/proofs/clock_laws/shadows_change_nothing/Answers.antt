use Rattle.events.proofs.Shadows.{shadows_change_nothing}
use Rattle.events.proofs.clock_laws.shadows_change_nothing.Goals as goal

pub returns : goal.returns
returns c = shadows_change_nothing
