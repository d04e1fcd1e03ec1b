use Rattle.dialect.proofs.Read.{prefixes_read}
use Rattle.dialect.proofs.laws.prefixes_are_read.Goals as goal

pub returns : goal.returns
returns c = prefixes_read
