use Rattle.std.proofs.Common.{ap, ◌∙◌, get_or, arith}
use Rattle.isa.specs.declared.parts.TheConstants.{FIRST}
use Rattle.isa.specs.RowSearch.{is_before}
use Rattle.isa.proofs.Rows.{before_at}
use Rattle.isa.proofs.parts.rows_before.Goals as goal

pub returns : goal.returns
returns c =
    ap (is_before c.args.opcode) (c.from-2.ensures ∙ ap (λ k. get_or FIRST k 0) c.from.ensures)
    ∙ before_at c.args.opcode (omega (arith, c.ranges.opcode.fits))
