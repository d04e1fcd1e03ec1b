use Rattle.decode.proofs.Exact.{none_is_longer}
use Rattle.decode.proofs.laws.none_is_longer.Goals as goal

pub returns : goal.returns
returns c = none_is_longer
