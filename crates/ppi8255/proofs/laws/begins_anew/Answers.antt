use Rattle.ppi8255.proofs.PortLaws.{begins_anew}
use Rattle.ppi8255.proofs.laws.begins_anew.Goals as goal

pub returns : goal.returns
returns c = begins_anew
