use Rattle.assembler_syntax.proofs.BackLines.{each_line_read_is_spelled}
use Rattle.assembler_syntax.proofs.laws.each_line_read_is_spelled.Goals as goal

pub returns : goal.returns
returns c = each_line_read_is_spelled
