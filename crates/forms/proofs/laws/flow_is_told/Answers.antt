use Rattle.forms.proofs.Leading.{flow_is_told}
use Rattle.forms.proofs.laws.flow_is_told.Goals as goal

pub returns : goal.returns
returns g c = flow_is_told g.B.Bus.meaning
