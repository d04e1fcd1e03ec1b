use Rattle.execute_arith.proofs.Rotations.{rotates_turn_round}
use Rattle.execute_arith.proofs.laws.rotates_turn_round.Goals as goal

pub returns : goal.returns
returns c = rotates_turn_round
