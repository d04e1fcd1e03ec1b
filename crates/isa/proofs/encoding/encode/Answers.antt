use Rattle.std.proofs.Common.{sym, subst}
use Rattle.isa.specs.RowSearch.{HasDigit}
use Rattle.isa.proofs.Rows.{digit_within}
use Rattle.isa.proofs.encoding.encode.Goals as goal

pub push_second-requires-clause-digit : goal.push_second-requires-clause-digit
push_second-requires-clause-digit c =
    subst HasDigit (sym c.second_part.ensures) (digit_within c.args.form.now.row c.requires.form.row)
