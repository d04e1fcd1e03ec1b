use Rattle.std.proofs.Common.{◌∙◌, length, sym}
use Rattle.assembler_syntax.proofs.Weights.{line_within}
use Rattle.assembler.proofs.ReadingFaults.{is_short, located_fault}
use Rattle.assembler.proofs.reading.read_located_line.Goals as goal

pub statement_form-form-requires-clause-short : goal.statement_form-form-requires-clause-short
statement_form-form-requires-clause-short c =
    is_short c.args.start (length c.args.text.now) c.in-Ok.line.statement c.requires.place
    (line_within c.args.text.now c.in-Ok.line c.in-Ok.ensures)

pub early_fault-requires-clause-short : goal.early_fault-requires-clause-short
early_fault-requires-clause-short c =
    is_short c.args.start (length c.args.text.now) c.in-Ok.line.statement c.requires.place
    (line_within c.args.text.now c.in-Ok.line c.in-Ok.ensures)

pub add_line-requires-clause-within : goal.add_line-requires-clause-within
add_line-requires-clause-within c = line_within c.args.text.now c.in-Ok.line c.in-Ok.ensures

pub returns-in-Some-clause-err : goal.returns-in-Some-clause-err
returns-in-Some-clause-err c =
    located_fault c.args.state.now.symbols.entries c.args.state.now.location c.args.text.now c.in-Ok.line c.statement_form-form.result c.in-Some.fault
    c.in-Ok.ensures c.statement_form-form.ensures.chosen (sym c.early_fault.ensures ∙ c.in-Some.is)
