use Rattle.forms.proofs.Others.{others_stay}
use Rattle.forms.proofs.laws.others_stay.Goals as goal

pub returns : goal.returns
returns g c = others_stay g.B.Bus.meaning
