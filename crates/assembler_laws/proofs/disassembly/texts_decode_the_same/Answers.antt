use Rattle.assembler_laws.proofs.TextsBack.{texts_decode_the_same}
use Rattle.assembler_laws.proofs.disassembly.texts_decode_the_same.Goals as goal

pub returns : goal.returns
returns c = texts_decode_the_same c.texts_are_read.ensures
