use Rattle.std.proofs.Common.{◌≡◌, length}
use Rattle.assembler_lexeme.specs.Lexemes.{lexemes}
use Rattle.assembler_lexeme.specs.Faults.{all_of, wanted, with_front}
use Rattle.assembler_lexeme.specs.Tokens.{token_of}
use Rattle.assembler_lexeme.proofs.token.read_tokens.Given as goal

abbrev pub invariant-loop-lexeme : goal.invariant-loop-lexeme
invariant-loop-lexeme l =
    with_front l.tokens (all_of (λ lexeme. wanted (token_of lexeme)) (lexemes l.rest)) ≡ all_of (λ lexeme. wanted (token_of lexeme)) (lexemes l.fn.text)

abbrev pub decreases-loop-lexeme : goal.decreases-loop-lexeme
decreases-loop-lexeme l = length l.rest
