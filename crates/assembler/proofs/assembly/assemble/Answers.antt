use Rattle.std.proofs.Common.{ℕ, List, [], ap, subst, ◌∙◌}
use Rattle.std.proofs.lemmas.Result.{err_from_is_err_and}
use Rattle.board_types.specs.TextLines.{text_lines}
use Rattle.assembler.specs.FirstFault.{IsFirst}
use Rattle.assembler.specs.Gives.{Gives}
use Rattle.assembler.specs.KeptLines.{Reads}
use Rattle.assembler.specs.LocatedLines.{names_of}
use Rattle.assembler.proofs.AnsweringFaults.{only_memory}
use Rattle.assembler.proofs.AnsweringImage.{one_image}
use Rattle.assembler.proofs.AnsweringLines.{one_lines}
use Rattle.assembler.proofs.assembly.assemble.Goals as goal

pub returns-in_err-reading-clause-refused : goal.returns-in_err-reading-clause-refused
returns-in_err-reading-clause-refused c =
    let p = err_from_is_err_and c.from_residual.result c.from_residual.ensures.1 in
    rw (p.1, p.2) (λ image gives. only_memory c.args.source.now image c.in_err-reading.field-0.0 gives c.in_err-reading.ensures.fault)

pub returns-in_err-image-clause-refused : goal.returns-in_err-image-clause-refused
returns-in_err-image-clause-refused c =
    let p = err_from_is_err_and c.from_residual-in_err-image.result c.from_residual-in_err-image.ensures.1 in
    rw (p.1, p.2) (λ image gives. only_memory c.args.source.now image c.in_err-image.field-0.0 gives
    (subst (λ (source : List ℕ). IsFirst source c.in_err-image.field-0.0) c.in_ok-reading.ensures.source c.in_err-image.ensures.fault))

pub returns-clause-names : goal.returns-clause-names
returns-clause-names c = λ located_lines are.
    let reads : Reads c.args.source.now c.in_ok-reading.reading.symbols.entries c.in_ok-reading.reading.located_lines.items = c.in_ok-reading.ensures.reads in
    reads.names_are ∙ ap names_of (one_lines [] (text_lines c.args.source.now) reads.located_lines located_lines reads.are_located_lines are)

pub returns-clause-refused : goal.returns-clause-refused
returns-clause-refused c = λ image gives. one_image c.args.source.now image c.in_ok-image.image gives
    (subst (λ (source : List ℕ). Gives source c.in_ok-image.image) c.in_ok-reading.ensures.source c.in_ok-image.ensures.gives)
