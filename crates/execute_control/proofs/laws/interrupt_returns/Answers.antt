use Rattle.execute_control.proofs.Returns.{interrupt_returns}
use Rattle.execute_control.proofs.laws.interrupt_returns.Goals as goal

pub returns : goal.returns
returns g c = interrupt_returns g.B.Bus.meaning g.met.B.Bus.keeps_bytes
