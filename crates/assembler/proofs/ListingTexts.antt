-- Texts of ASCII characters.
use Rattle.std.proofs.Common.{◌≡◌, ◌∙◌, ℕ, zero, suc, ◌<◌, List, [], ◌∷◌, refl, ap, arith, Bool, true, false, Result, Ok, Err, if◌then◌else◌, MatchResult}
use Rattle.std.specs.Borrow.{Bor}
use Rattle.std.specs.List.{list_all}
use Rattle.std.specs.Result.{result_unwrap_or}
use Rattle.std.specs.Str.{IsAscii, IsUtf8}
use Rattle.std.proofs.lemmas.Bool.{and_parts}
use Rattle.std.proofs.lemmas.Bool.Decides.{nat_tests}
use Rattle.std.proofs.lemmas.Str.{IsUtf8-from_ascii}
use Rattle.assembler_lexeme.specs.declared.fault.SyntaxFault.{SyntaxFault}
use Rattle.assembler_lexeme.specs.declared.fault.SyntaxFault.TheVariants.{BadCharacter}
use Rattle.assembler_syntax.specs.declared.statement.Line.{Line}
use Rattle.assembler_lexeme.specs.Lexemes.{is_character, lexemes}
use Rattle.assembler_lexeme.specs.Tokens.{tokens_of}
use Rattle.assembler_syntax.specs.Lines.{read_line, line_of}
use Rattle.assembler_lexeme.specs.Faults.{◌>>=◌}

-- bytes that are UTF-8 are a text
pub text_of_utf8 : {E : Type 0} (r : Result (Bor (List ℕ)) E) (or_else text : Bor (List ℕ)) (bytes : List ℕ) (Q : E → Type 0)
    → IsAscii bytes → text ≡ result_unwrap_or r or_else → MatchResult r (λ s. (s.now ≡ bytes) × IsUtf8 bytes) (λ e. ¬ (IsUtf8 bytes) × Q e) → text.now ≡ bytes
text_of_utf8 (Ok s) or_else text bytes Q ascii is made = ap (λ (t : Bor (List ℕ)). t.now) is ∙ made.0
text_of_utf8 (Err e) or_else text bytes Q ascii is made = absurd (made.0 (IsUtf8-from_ascii bytes ascii))

pub character_below : (b : ℕ) → is_character b ≡ true → b < 128
character_below b is = grind (arith, nat_tests)

-- the characters of a line are ASCII
pub ascii_of : (text : List ℕ) → list_all is_character text ≡ true → IsAscii text
ascii_of [] all i = omega arith
ascii_of (b ∷ bs) all zero = character_below b (and_parts (is_character b) (list_all is_character bs) all).0
ascii_of (b ∷ bs) all (suc i) = ascii_of bs (and_parts (is_character b) (list_all is_character bs) all).1 i

all_passed : (b : Bool) (r : Result Line SyntaxFault) (line : Line) → (if b then r else Err BadCharacter) ≡ Ok line → b ≡ true
all_passed true r line is = refl
all_passed false r line is = absurd (let never : Err BadCharacter ≡ Ok line = is in cc)

pub characters_of : (text : List ℕ) (line : Line) → read_line text ≡ Ok line → list_all is_character text ≡ true
unfolding read_line
characters_of text line is = all_passed (list_all is_character text) (tokens_of (lexemes text) >>= line_of) line is
