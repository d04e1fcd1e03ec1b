use Rattle.ppi8255.proofs.PortLaws.{sets_one_bit}
use Rattle.ppi8255.proofs.laws.sets_one_bit.Goals as goal

pub returns : goal.returns
returns c = sets_one_bit
