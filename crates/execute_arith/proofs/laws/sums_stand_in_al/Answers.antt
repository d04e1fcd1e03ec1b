use Rattle.execute_arith.proofs.InAl.{sums_stand_in_al}
use Rattle.execute_arith.proofs.laws.sums_stand_in_al.Goals as goal

pub returns : goal.returns
returns g c = sums_stand_in_al g.B.Bus.meaning
