use Rattle.execute_control.proofs.Returns.{far_call_returns}
use Rattle.execute_control.proofs.laws.far_call_returns.Goals as goal

pub returns : goal.returns
returns g c = far_call_returns g.B.Bus.meaning g.met.B.Bus.keeps_bytes
