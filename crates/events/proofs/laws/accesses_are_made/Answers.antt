use Rattle.events.proofs.Noted.{makes_accesses}
use Rattle.events.proofs.laws.accesses_are_made.Goals as goal

pub returns : goal.returns
returns g c = makes_accesses g.B.Bus.meaning
