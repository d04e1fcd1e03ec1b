use Rattle.std.proofs.Common.{refl}
use Rattle.dialect.specs.Words.{words}
use Rattle.dialect.proofs.meaning.entries.Goals as goal

pub returns : goal.returns
unfolding words
returns c = refl
