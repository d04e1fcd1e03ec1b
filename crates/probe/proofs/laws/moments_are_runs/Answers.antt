-- A moment's range says what `go` answers with the key.
use Rattle.probe.proofs.Once.{past_alike}
use Rattle.probe.proofs.Trying.{are_runs}
use Rattle.probe.proofs.laws.moments_are_runs.Goals as goal

pub returns-clause-runs : goal.returns-clause-runs
returns-clause-runs c = are_runs

pub returns-clause-past_the_end : goal.returns-clause-past_the_end
returns-clause-past_the_end c = past_alike
