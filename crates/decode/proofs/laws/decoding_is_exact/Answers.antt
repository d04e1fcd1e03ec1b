use Rattle.decode.proofs.Exact.{exact}
use Rattle.decode.proofs.laws.decoding_is_exact.Goals as goal

pub returns : goal.returns
returns c = exact
