use Rattle.board_plain.proofs.Runs.{runs_join}
use Rattle.board_plain.proofs.laws.runs_join.Goals as goal

pub returns : goal.returns
returns c = runs_join
