use Rattle.forms.proofs.StackMoves.{stack_is_told}
use Rattle.forms.proofs.laws.stack_is_told.Goals as goal

pub returns : goal.returns
returns g c = stack_is_told g.B.Bus.meaning
