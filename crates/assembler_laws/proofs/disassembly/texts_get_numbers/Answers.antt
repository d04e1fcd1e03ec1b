use Rattle.assembler_laws.proofs.GivenForms.{texts_get_numbers}
use Rattle.assembler_laws.proofs.disassembly.texts_get_numbers.Goals as goal

pub returns : goal.returns
returns c = texts_get_numbers
