use Rattle.board_plain.proofs.Joining.{searches_join}
use Rattle.board_plain.proofs.laws.searches_join.Goals as goal

pub returns : goal.returns
returns c = searches_join
