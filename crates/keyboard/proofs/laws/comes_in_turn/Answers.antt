use Rattle.keyboard.proofs.Runs.{comes_in_turn}
use Rattle.keyboard.proofs.laws.comes_in_turn.Goals as goal

pub returns : goal.returns
returns c = comes_in_turn
