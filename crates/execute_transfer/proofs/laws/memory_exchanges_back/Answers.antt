use Rattle.execute_transfer.proofs.Exchange.{memory_exchanges_back}
use Rattle.execute_transfer.proofs.laws.memory_exchanges_back.Goals as goal

pub returns : goal.returns
returns g c = memory_exchanges_back g.B.Bus.meaning g.met.B.Bus.keeps_bytes
