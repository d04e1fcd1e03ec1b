use Rattle.board_plain.proofs.Stopping.{runs_have_one_end}
use Rattle.board_plain.proofs.laws.runs_have_one_end.Goals as goal

pub returns : goal.returns
returns c = runs_have_one_end
