use Rattle.assembler_syntax.proofs.EachLines.{each_spelling_read}
use Rattle.assembler_syntax.proofs.laws.each_spelling_is_read.Goals as goal

pub returns : goal.returns
returns c = each_spelling_read
