use Rattle.probe.proofs.Walking.{probes_stand}
use Rattle.probe.proofs.laws.probes_stand.Goals as goal

pub returns : goal.returns
returns c = probes_stand
