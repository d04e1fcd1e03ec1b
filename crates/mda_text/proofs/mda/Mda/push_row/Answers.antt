use Rattle.std.proofs.Common.{ap, ◌++◌, ◌∙◌, arith}
use Rattle.std.specs.String.{string_bytes}
use Rattle.mda_text.specs.Screen.{cell}
use Rattle.mda_text.proofs.Text.{one_more_cell, row_ended}
use Rattle.mda_text.proofs.mda.Mda.push_row.Goals as goal

pub loop-column-preserved : goal.loop-column-preserved
loop-column-preserved c =
    one_more_cell (cell c.args.self.now c.args.row) (string_bytes c.args.text.now) _ _ _ c.from.result c.loop-column.invariant
    (c.in_ok-push.ensures.bytes
    ∙ ap (λ xs. string_bytes c.loop-column.text ++ xs) (c.push.ensures.ascii (omega (arith, c.cell.ensures.printable, c.from.ensures))))
    (c.from.ensures ∙ c.cell.ensures.value)

pub returns : goal.returns
returns c =
    row_ended c.args.self.now c.args.row c.loop-column.column (string_bytes c.args.text.now) (string_bytes c.loop-column.text) _ c.loop-column.invariant
    (c.in_ok-push-2.ensures.bytes ∙ ap (λ xs. string_bytes c.loop-column.text ++ xs) (c.in_ok-push-2.ensures.ascii (omega arith))) (omega arith)
