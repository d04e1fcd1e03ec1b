use Rattle.isa.proofs.Rows.{length_of}
use Rattle.isa.proofs.laws.length_is_the_forms.Goals as goal

pub returns : goal.returns
returns c = length_of
