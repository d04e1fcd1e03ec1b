use Rattle.board_plain.proofs.LeastNumbers.{least_number_is_told}
use Rattle.board_plain.proofs.laws.least_number_is_told.Goals as goal

pub returns : goal.returns
returns c = least_number_is_told
