use Rattle.ppi8255.proofs.PortLaws.{shows_switches}
use Rattle.ppi8255.proofs.laws.shows_switches.Goals as goal

pub returns : goal.returns
returns c = shows_switches
