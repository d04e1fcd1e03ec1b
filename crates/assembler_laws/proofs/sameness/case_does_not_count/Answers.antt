use Rattle.assembler_laws.proofs.SamenessLines.{case_is_nothing}
use Rattle.assembler_laws.proofs.sameness.case_does_not_count.Goals as goal

pub returns : goal.returns
returns c = case_is_nothing c.case_does_not_count.ensures
