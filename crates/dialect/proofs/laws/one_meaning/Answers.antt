use Rattle.dialect.proofs.Once.{one_each}
use Rattle.dialect.proofs.laws.one_meaning.Goals as goal

pub returns : goal.returns
returns c = one_each
