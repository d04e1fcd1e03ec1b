use Rattle.probe.proofs.Standing.{ends_alike, met_alike}
use Rattle.probe.proofs.laws.standing_ends_alike.Goals as goal

pub returns-clause-on : goal.returns-clause-on
returns-clause-on c = ends_alike

pub returns-clause-back : goal.returns-clause-back
returns-clause-back c = met_alike
