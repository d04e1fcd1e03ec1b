use Rattle.assembler_syntax.proofs.EachLines.{texts_read}
use Rattle.assembler_syntax.proofs.laws.each_text_is_read_as_it_says.Goals as goal

pub returns : goal.returns
returns c = texts_read
