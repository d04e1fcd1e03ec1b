use Rattle.ppi8255.proofs.PortLaws.{reads_back}
use Rattle.ppi8255.proofs.laws.reads_back.Goals as goal

pub returns : goal.returns
returns c = reads_back
