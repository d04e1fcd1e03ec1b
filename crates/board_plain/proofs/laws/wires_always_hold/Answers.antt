use Rattle.board_plain.proofs.Wires.{wires_always_hold}
use Rattle.board_plain.proofs.laws.wires_always_hold.Goals as goal

pub returns : goal.returns
returns c = wires_always_hold
