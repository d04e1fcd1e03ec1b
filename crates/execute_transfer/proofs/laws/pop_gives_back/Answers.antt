use Rattle.execute_transfer.proofs.Stack.{pop_gives_back}
use Rattle.execute_transfer.proofs.laws.pop_gives_back.Goals as goal

pub returns : goal.returns
returns g c = pop_gives_back g.B.Bus.meaning g.met.B.Bus.keeps_bytes
