use Rattle.board_plain.proofs.Requests.{no_request_without_if}
use Rattle.board_plain.proofs.laws.no_request_without_if.Goals as goal

pub returns : goal.returns
returns c = no_request_without_if
