use Rattle.assembler_laws.proofs.TakenTexts.{texts_take_a_form}
use Rattle.assembler_laws.proofs.disassembly.texts_take_a_form.Goals as goal

pub returns : goal.returns
returns c = texts_take_a_form
