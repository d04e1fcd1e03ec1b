use Rattle.probe_texts.proofs.Loading.{loads_as_told}
use Rattle.probe_texts.proofs.laws.loads_as_told.Goals as goal

pub returns : goal.returns
returns c = loads_as_told
