use Rattle.events.proofs.Few.{makes_few}
use Rattle.events.proofs.laws.accesses_are_few.Goals as goal

pub returns : goal.returns
returns g c = makes_few g.B.Bus.meaning
