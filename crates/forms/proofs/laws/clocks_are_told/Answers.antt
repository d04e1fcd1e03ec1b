use Rattle.forms.proofs.Clocks.{clocks_are_told}
use Rattle.forms.proofs.laws.clocks_are_told.Goals as goal

pub returns : goal.returns
returns g c = clocks_are_told g.B.Bus.meaning
