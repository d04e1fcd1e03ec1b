use Rattle.assembler_laws.proofs.TextForms.{texts_mean_the_same}
use Rattle.assembler_laws.proofs.disassembly.texts_mean_the_same.Goals as goal

pub returns : goal.returns
returns c = texts_mean_the_same
