use Rattle.board_plain.proofs.Quiet.{halt_is_quiet}
use Rattle.board_plain.proofs.laws.halt_is_quiet.Goals as goal

pub returns : goal.returns
returns c = halt_is_quiet
