use Rattle.pit8253.proofs.ReadBack.{null_till_loaded}
use Rattle.pit8253.proofs.laws.null_till_loaded.Goals as goal

pub returns : goal.returns
returns c = null_till_loaded
