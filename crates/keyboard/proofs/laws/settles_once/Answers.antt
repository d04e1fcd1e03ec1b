use Rattle.keyboard.proofs.Runs.{settles_once}
use Rattle.keyboard.proofs.laws.settles_once.Goals as goal

pub returns : goal.returns
returns c = settles_once
