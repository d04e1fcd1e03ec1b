use Rattle.execute_transfer.proofs.Stack.{push_sp_stores_the_lowered}
use Rattle.execute_transfer.proofs.laws.push_sp_stores_the_lowered.Goals as goal

pub returns : goal.returns
returns g c = push_sp_stores_the_lowered g.B.Bus.meaning g.met.B.Bus.keeps_bytes
