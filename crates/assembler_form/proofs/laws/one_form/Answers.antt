use Rattle.assembler_form.proofs.First.{one_form}
use Rattle.assembler_form.proofs.laws.one_form.Goals as goal

pub returns : goal.returns
returns c = one_form
