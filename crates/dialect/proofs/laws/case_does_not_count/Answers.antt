use Rattle.dialect.proofs.Once.{case_is_nothing}
use Rattle.dialect.proofs.laws.case_does_not_count.Goals as goal

pub returns : goal.returns
returns c = case_is_nothing
