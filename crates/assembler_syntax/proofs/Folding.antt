-- Case outside quotes doesn't count in lines.
use Rattle.std.proofs.Common.{◌≡◌, ℕ, Bool, List, if◌then◌else◌, map, sym, ap, ◌∙◌, Result, Err}
use Rattle.std.specs.List.{list_all}
use Rattle.assembler_lexeme.specs.declared.fault.SyntaxFault.{SyntaxFault}
use Rattle.assembler_lexeme.specs.declared.fault.SyntaxFault.TheVariants.{BadCharacter}
use Rattle.assembler_lexeme.specs.declared.token.Token.{Token}
use Rattle.assembler_lexeme.specs.Lexemes.{folded, is_character, lexemes}
use Rattle.assembler_lexeme.specs.Faults.{◌>>=◌}
use Rattle.assembler_lexeme.specs.Tokens.{tokens_of}
use Rattle.assembler_lexeme.proofs.Folding.{tokens_alike}
use Rattle.assembler_syntax.specs.LineSteps.{line_of, read_line}
use Rattle.assembler_syntax.specs.SyntaxLaws.{CaseDoesNotCount}
use Rattle.assembler_syntax.proofs.Alike.{text_alike}

read_alike : (s t : List ℕ) → list_all is_character s ≡ list_all is_character t → map folded (lexemes s) ≡ map folded (lexemes t) → read_line s ≡ read_line t
unfolding read_line
read_alike s t characters same =
    ap (λ (b : Bool). if b then (tokens_of (lexemes s) >>= line_of) else Err BadCharacter) characters
    ∙ ap (λ (r : Result (List Token) SyntaxFault). if list_all is_character t then (r >>= line_of) else Err BadCharacter)
    (tokens_alike (lexemes s) (lexemes t) same)

pub case_is_nothing_in_lines : CaseDoesNotCount
case_is_nothing_in_lines s t characters same = sym (text_alike s) ∙ read_alike s t characters same ∙ text_alike t
