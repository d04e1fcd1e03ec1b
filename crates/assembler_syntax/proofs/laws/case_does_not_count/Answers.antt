use Rattle.assembler_syntax.proofs.Folding.{case_is_nothing_in_lines}
use Rattle.assembler_syntax.proofs.laws.case_does_not_count.Goals as goal

pub returns : goal.returns
returns c = case_is_nothing_in_lines
