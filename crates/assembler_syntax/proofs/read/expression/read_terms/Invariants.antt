use Rattle.std.proofs.Common.{◌≡◌, [], ◌∷◌, length}
use Rattle.assembler_lexeme.specs.Faults.{all_of, with_front}
use Rattle.assembler_syntax.specs.ExpressionSteps.{term_of}
use Rattle.assembler_syntax.proofs.read.expression.read_terms.Given as goal

abbrev pub invariant-loop-is_negative : goal.invariant-loop-is_negative
invariant-loop-is_negative l = with_front l.expression (all_of term_of l.parts) ≡ with_front (l.fn.first ∷ []) (all_of term_of l.fn.parts)

abbrev pub decreases-loop-is_negative : goal.decreases-loop-is_negative
decreases-loop-is_negative l = length l.parts
