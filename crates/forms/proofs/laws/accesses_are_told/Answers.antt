use Rattle.forms.proofs.Reaching.{accesses_are_told}
use Rattle.forms.proofs.laws.accesses_are_told.Goals as goal

pub returns : goal.returns
returns g c = accesses_are_told g.B.Bus.meaning c.writes_are_counted.ensures
