use Rattle.board_plain.proofs.Predicted.{predicted}
use Rattle.board_plain.proofs.laws.level_is_predicted.Goals as goal

pub returns : goal.returns
returns c = predicted
