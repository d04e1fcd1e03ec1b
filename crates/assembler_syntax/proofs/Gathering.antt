-- One more term after the others.
use Rattle.std.proofs.Common.{◌≡◌, List, [], ◌∷◌, ◌++◌, Ok}
use Rattle.assembler_lexeme.specs.Faults.{all_of, with_front}
use Rattle.assembler_lexeme.proofs.Gathering.{one_after}
use Rattle.assembler_syntax.specs.declared.expression.Term.{Term}
use Rattle.assembler_syntax.specs.PartSteps.{Signed}
use Rattle.assembler_syntax.specs.ExpressionSteps.{term_of}

pub term_after : (front : List Term) (part : Signed) (term : Term) (parts : List Signed) → term_of part ≡ Ok term
    → with_front (front ++ term ∷ []) (all_of term_of parts) ≡ with_front front (all_of term_of (part ∷ parts))
term_after = one_after term_of
