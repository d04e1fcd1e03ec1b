use Rattle.std.proofs.Common.{◌≡◌, drop}
use Rattle.std.specs.List.{list_all}
use Rattle.assembler_syntax.specs.declared.expression.Term.{Term}
use Rattle.assembler_meaning.specs.Values.{is_constant_atom}
use Rattle.assembler_meaning.proofs.constant.is_constant.Given as goal

abbrev pub invariant-loop-term : goal.invariant-loop-term
invariant-loop-term l =
    list_all (λ (term : Term). is_constant_atom l.symbols.entries term.atom) (drop l.term-index l.rest)
    ≡ list_all (λ (term : Term). is_constant_atom l.symbols.entries term.atom) l.expression
