use Rattle.pit8253.proofs.ReadBack.{status_comes_first}
use Rattle.pit8253.proofs.laws.status_comes_first.Goals as goal

pub returns : goal.returns
returns c = status_comes_first
