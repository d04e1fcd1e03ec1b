use Rattle.assembler_laws.proofs.TextsSaid.{texts_are_read}
use Rattle.assembler_laws.proofs.disassembly.texts_are_read.Goals as goal

pub returns : goal.returns
returns c =
    texts_are_read
    (record {
      operations = c.operations_are_read.ensures;
      registers = c.registers_are_read.ensures;
      prefixes = c.prefixes_are_read.ensures;
      keywords = c.keywords_are_read.ensures;
      lines = c.each_line_is_read.ensures;
    })
