use Rattle.board_plain.proofs.Requests.{request_is_taken, staying_request_is_taken}
use Rattle.board_plain.proofs.laws.request_is_taken.Goals as goal

pub returns-clause-taken : goal.returns-clause-taken
returns-clause-taken c = request_is_taken

pub returns-clause-staying : goal.returns-clause-staying
returns-clause-staying c = staying_request_is_taken
