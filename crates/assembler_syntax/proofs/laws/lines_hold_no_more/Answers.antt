use Rattle.assembler_syntax.proofs.Weights.{line_within}
use Rattle.assembler_syntax.proofs.laws.lines_hold_no_more.Goals as goal

pub returns : goal.returns
returns c = line_within
