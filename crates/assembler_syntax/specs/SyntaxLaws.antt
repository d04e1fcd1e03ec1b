-- The laws of lines.
-- Laws: claims above the definitions, each proved as the contract of a function.
use Rattle.std.specs.Prelude.{ℕ, ◌≡◌, true, List, length, map, Ok}
use Rattle.std.specs.List.{list_all}
use Rattle.assembler_lexeme.specs.Lexemes.{folded, is_character, lexemes}
use Rattle.assembler_lexeme.specs.Tokens.{tokens_of}
use Rattle.assembler_lexeme.specs.declared.token.Token.{Token}
use Rattle.assembler_syntax.specs.declared.statement.Line.{Line}
use Rattle.assembler_syntax.specs.Lines.{line_of, read_line}
use Rattle.assembler_syntax.specs.Spelling.{line_tokens, IsStatement}
use Rattle.assembler_syntax.specs.Spellings.{SpellsLine}
use Rattle.assembler_syntax.specs.Weights.{IsWithin}

-- two lines say the same if their lexemes differ only in case and only outside quotes
abbrev pub CaseDoesNotCount : Type 0
CaseDoesNotCount =
    (s t : List ℕ) → list_all is_character s ≡ list_all is_character t
    → map folded (lexemes s) ≡ map folded (lexemes t) → read_line s ≡ read_line t

-- each line of the dialect is read back from its spelling
abbrev pub EachLineIsRead : Type 0
EachLineIsRead = (l : Line) → IsStatement l.statement → line_of (line_tokens l) ≡ Ok l

-- a line that is read holds no more than its text
abbrev pub HoldsNoMore : Type 0
HoldsNoMore = (text : List ℕ) (line : Line) → read_line text ≡ Ok line → IsWithin (length text) line.statement

-- a line that is read from tokens is spelled by them
abbrev pub EachLineReadIsSpelled : Type 0
EachLineReadIsSpelled = (ts : List Token) (l : Line) → line_of ts ≡ Ok l → SpellsLine l ts

-- each line is read from all of its spellings
abbrev pub EachSpellingIsRead : Type 0
EachSpellingIsRead = (ts : List Token) (l : Line) → SpellsLine l ts → line_of ts ≡ Ok l

-- a text says a line that its tokens spell
pub record Says (text : List ℕ) (l : Line) : Type 0 where
  pub characters : list_all is_character text ≡ true
  pub tokens : List Token
  pub are : tokens_of (lexemes text) ≡ Ok tokens
  pub spelled : SpellsLine l tokens

-- a text is read as a line if and only if it says that line
abbrev pub EachTextIsReadAsItSays : Type 0
EachTextIsReadAsItSays =
    (text : List ℕ) (l : Line) → (read_line text ≡ Ok l → Says text l) × (Says text l → read_line text ≡ Ok l)
