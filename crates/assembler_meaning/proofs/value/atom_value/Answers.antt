use Rattle.std.proofs.Common.{sym, ◌∙◌}
use Rattle.assembler_meaning.proofs.LeavesValues.{symbol_small, small_kept}
use Rattle.assembler_meaning.proofs.value.atom_value.Goals as goal

pub returns-in_ok-meaning-in-Named-clause-small : goal.returns-in_ok-meaning-in-Named-clause-small
returns-in_ok-meaning-in-Named-clause-small c =
    let symbol = c.in_ok-meaning-in-Named.field-0 in
    let small = symbol_small symbol (c.requires.small c.in-Named.name symbol (sym c.meaning.ensures ∙ c.in_ok-meaning-in-Named.was)) in
    small_kept c.value.result (rw c.value.ensures small)
