use Rattle.wiring.proofs.Changes.{settling_changes_alone}
use Rattle.wiring.proofs.laws.settling_changes_alone.Goals as goal

pub returns : goal.returns
returns c = settling_changes_alone
