use Rattle.assembler_laws.proofs.FittingTexts.{numbers_fit}
use Rattle.assembler_laws.proofs.disassembly.numbers_fit.Goals as goal

pub returns : goal.returns
returns c = numbers_fit
