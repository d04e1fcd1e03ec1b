use Rattle.probe.proofs.AddingUp.{counts_add_up}
use Rattle.probe.proofs.laws.counts_add_up.Goals as goal

pub returns : goal.returns
returns c = counts_add_up
