use Rattle.ppi8255.proofs.PortLaws.{hides_latches_of_inputs}
use Rattle.ppi8255.proofs.laws.hides_latches_of_inputs.Goals as goal

pub returns : goal.returns
returns c = hides_latches_of_inputs
