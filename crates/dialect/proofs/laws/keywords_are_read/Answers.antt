use Rattle.dialect.proofs.Read.{keywords_read}
use Rattle.dialect.proofs.laws.keywords_are_read.Goals as goal

pub returns : goal.returns
returns c = keywords_read
