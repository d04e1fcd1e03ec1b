use Rattle.events.proofs.Told.{trail_is_told}
use Rattle.events.proofs.clock_laws.trail_is_told.Goals as goal

pub returns : goal.returns
returns c = trail_is_told
