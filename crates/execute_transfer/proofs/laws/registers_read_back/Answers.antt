use Rattle.execute_transfer.proofs.Halves.{registers_read_back}
use Rattle.execute_transfer.proofs.laws.registers_read_back.Goals as goal

pub returns : goal.returns
returns c = registers_read_back
