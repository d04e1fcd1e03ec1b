use Rattle.assembler_syntax.proofs.OneSpelling.{each_line_read}
use Rattle.assembler_syntax.proofs.laws.each_line_is_read.Goals as goal

pub returns : goal.returns
returns c = each_line_read
