use Rattle.dialect.proofs.Read.{operations_read}
use Rattle.dialect.proofs.laws.operations_are_read.Goals as goal

pub returns : goal.returns
returns c = operations_read
