use Rattle.execute_control.proofs.Loops.{loop_runs}
use Rattle.execute_control.proofs.laws.loop_runs_cx_times.Goals as goal

pub returns : goal.returns
returns c = loop_runs
