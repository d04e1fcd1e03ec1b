use Rattle.std.proofs.Common.{ap, ◌∙◌, find, drop}
use Rattle.std.proofs.lemmas.List.{take_rest}
use Rattle.isa.specs.OpcodeBytes.{begins, row_at}
use Rattle.isa.proofs.Rows.{find_before}
use Rattle.isa.proofs.parts.row_at.Goals as goal

pub returns : goal.returns
unfolding row_at
returns c =
    c.first_of.ensures
    ∙ ap (find (λ r. begins r c.args.opcode c.args.next)) (take_rest c.table.result.now c.rows_before.result)
    ∙ ap (λ rows. find (λ r. begins r c.args.opcode c.args.next) (drop c.rows_before.result rows)) c.table.ensures
    ∙ find_before c.args.opcode c.args.next c.rows_before.result c.rows_before.ensures
