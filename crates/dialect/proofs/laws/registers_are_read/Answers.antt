use Rattle.dialect.proofs.Read.{registers_read}
use Rattle.dialect.proofs.laws.registers_are_read.Goals as goal

pub returns : goal.returns
returns c = registers_read
