use Rattle.execute_transfer.proofs.Exchange.{registers_exchange_back}
use Rattle.execute_transfer.proofs.laws.registers_exchange_back.Goals as goal

pub returns : goal.returns
returns g c = registers_exchange_back g.B.Bus.meaning
