use Rattle.board_plain.proofs.Quiet.{jam_is_quiet}
use Rattle.board_plain.proofs.laws.jam_is_quiet.Goals as goal

pub returns : goal.returns
returns c = jam_is_quiet
