-- The characters of a source, and the lexemes of a line.
-- To be believed: the headline rests on it.
use Rattle.std.specs.Prelude.{ℕ, ◌+◌, Bool, true, false, ◌==◌, ◌&&◌, ◌||◌, nat_le, if◌then◌else◌, List, [], ◌∷◌, map}
use Rattle.std.specs.Char.{to_ascii_lowercase}
use Rattle.board_types.specs.TextLines.{begins_with, onto_first}

-- the characters that a source may have in a line: printable ASCII and the tab
abbrev pub is_character : ℕ → Bool
is_character b = (nat_le 0x20 b && nat_le b 0x7E) || b == 9

abbrev pub is_blank : ℕ → Bool
is_blank b = b == 32 || b == 9

abbrev pub is_digit : ℕ → Bool
is_digit b = nat_le 48 b && nat_le b 57

-- a letter or the underscore
abbrev pub is_letter : ℕ → Bool
is_letter b = (nat_le 65 b && nat_le b 90) || ((nat_le 97 b && nat_le b 122) || b == 95)

-- a byte of a word or of a number
abbrev pub is_word_byte : ℕ → Bool
is_word_byte b = is_letter b || is_digit b

-- The lexemes of a line, beginning within a quoted text or outside one. A quoted text goes from one quote to the next,
-- both included, or to the end of the line. Outside, blanks separate lexemes, a semicolon begins a comment, letters,
-- underscores and digits side by side make one lexeme, and any other byte is a lexeme by itself.
abbrev pub lexemes_from : Bool → List ℕ → List (List ℕ)
lexemes_from true [] = [] ∷ []
lexemes_from true (b ∷ bs) = if b == 39 then (39 ∷ []) ∷ lexemes_from false bs else onto_first b (lexemes_from true bs)
lexemes_from false [] = []
lexemes_from false (b ∷ bs) =
    if b == 59 then [] else (
    if is_blank b then lexemes_from false bs else (
    if b == 39 then onto_first 39 (lexemes_from true bs) else (
    if is_word_byte b && begins_with is_word_byte bs then onto_first b (lexemes_from false bs) else
    (b ∷ []) ∷ lexemes_from false bs)))

-- the lexemes of a line
unfoldable pub lexemes : List ℕ → List (List ℕ)
lexemes text = lexemes_from false text

-- a lexeme in lower case; a quoted text keeps its case, since that counts
abbrev pub folded : List ℕ → List ℕ
folded lexeme = if begins_with (λ b. b == 39) lexeme then lexeme else map to_ascii_lowercase lexeme

-- how many bytes at the front belong to a word
abbrev pub word_size : List ℕ → ℕ
word_size [] = 0
word_size (b ∷ bs) = if is_word_byte b then 1 + word_size bs else 0

-- how many bytes a quoted text takes after its first quote, its last quote included
abbrev pub text_size : List ℕ → ℕ
text_size [] = 0
text_size (b ∷ bs) = if b == 39 then 1 else 1 + text_size bs
