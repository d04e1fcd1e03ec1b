use Rattle.std.proofs.Common.{◌∙◌, sym, Some, None}
use Rattle.dialect.proofs.Looking.{looked_up}
use Rattle.dialect.proofs.meaning.meaning_of.Goals as goal

pub returns-in_err-first_of : goal.returns-in_err-first_of
returns-in_err-first_of c =
    c.from_residual.ensures
    ∙ looked_up c.args.word.now c.entries.result.now None c.entries.ensures (sym c.in_err-first_of.was ∙ c.first_of.ensures)

pub returns : goal.returns
returns c =
    looked_up c.args.word.now c.entries.result.now (Some c.in_ok-first_of.field-0) c.entries.ensures (sym c.in_ok-first_of.was ∙ c.first_of.ensures)
