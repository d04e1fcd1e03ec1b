use Rattle.execute_control.proofs.Returns.{call_returns}
use Rattle.execute_control.proofs.laws.call_returns.Goals as goal

pub returns : goal.returns
returns g c = call_returns g.B.Bus.meaning g.met.B.Bus.keeps_bytes
