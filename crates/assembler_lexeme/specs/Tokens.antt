-- The tokens of a line: numbers, names, quoted texts, words of the dialect and marks.
-- To be believed: the headline rests on it.
use Rattle.std.specs.Prelude.{ℕ, ◌-◌, ◌==◌, ◌&&◌, nat_le, nat_lt, if◌then◌else◌, List, [], ◌∷◌, ◌++◌}
use Rattle.std.specs.Prelude.{length, map, take, drop, replicate, codes, Option, None, Some, Result}
use Rattle.std.specs.Option.{option_map, option_map_or}
use Rattle.std.specs.Char.{to_ascii_uppercase}
use Rattle.std.specs.Str.{bytes_eq}
use Rattle.dialect.specs.Words.{meaning_of}
use Rattle.assembler_lexeme.specs.declared.fault.SyntaxFault.{SyntaxFault}
use Rattle.assembler_lexeme.specs.declared.name.Name.{Name}
use Rattle.assembler_lexeme.specs.declared.token.Token.{Token}
use Rattle.assembler_lexeme.specs.declared.token.Token.TheVariants.{One, Number, Named, Quoted, Word}
use Rattle.assembler_lexeme.specs.declared.token.Token.TheVariants as kinds
use Rattle.assembler_lexeme.specs.declared.token.Punctuator.{Punctuator}
use Rattle.assembler_lexeme.specs.declared.token.Punctuator.TheVariants.{Comma, Colon, Plus, Minus, OpenBracket}
use Rattle.assembler_lexeme.specs.declared.token.Punctuator.TheVariants.{CloseBracket, OpenParenthesis}
use Rattle.assembler_lexeme.specs.declared.token.Punctuator.TheVariants.{CloseParenthesis, Dollar}
use Rattle.assembler_lexeme.specs.Lexemes.{is_letter, is_digit}
use Rattle.board_types.specs.TextLines.{begins_with}
use Rattle.assembler_lexeme.specs.Numbers.{number_of, last_byte}
use Rattle.assembler_lexeme.specs.Faults.{wanted, all_of}

-- a word as a name: in upper case, filled up with zeros to 31 characters
abbrev pub name_of : List ℕ → Name
name_of word = record { letters = map to_ascii_uppercase word ++ replicate (31 - length word) 0 }

-- the token of a word of at most 31 characters: a word of the dialect, or else a name
unfoldable pub word_token : List ℕ → Option Token
word_token word =
    if nat_lt 31 (length word) then None else Some (option_map_or Word (meaning_of word) (Named (name_of word)))

-- the token of a number; `1` has a token of its own, because it may be a shift count
unfoldable pub number_token : List ℕ → Option Token
number_token word = if bytes_eq word (codes "1") then Some One else option_map Number (number_of word)

-- the token of a quoted text; a single character is the number that is its code
abbrev pub text_token : List ℕ → Token
text_token (c ∷ []) = Number c
text_token text = Quoted text

-- what stands between the quotes of a quoted text
abbrev pub between_quotes : List ℕ → List ℕ
between_quotes lexeme = take (length lexeme - 2) (drop 1 lexeme)

unfoldable pub quoted_token : List ℕ → Option Token
quoted_token lexeme =
    if nat_le 3 (length lexeme) && last_byte lexeme == 39 then Some (text_token (between_quotes lexeme)) else None

abbrev pub punctuator_of : ℕ → Option Punctuator
punctuator_of b =
    if b == 44 then Some Comma else (
    if b == 58 then Some Colon else (
    if b == 43 then Some Plus else (
    if b == 45 then Some Minus else (
    if b == 91 then Some OpenBracket else (
    if b == 93 then Some CloseBracket else (
    if b == 40 then Some OpenParenthesis else (
    if b == 41 then Some CloseParenthesis else (
    if b == 36 then Some Dollar else None))))))))

abbrev pub punctuator_token : List ℕ → Option Token
punctuator_token (b ∷ []) = option_map kinds.Punctuator (punctuator_of b)
punctuator_token lexeme = None

-- The token of a lexeme. A word that is too long, a number that can't be read, a quoted text without characters or
-- without its end, and any other character have none.
unfoldable pub token_of : List ℕ → Option Token
token_of lexeme =
    if begins_with is_letter lexeme then word_token lexeme else (
    if begins_with is_digit lexeme then number_token lexeme else (
    if begins_with (λ b. b == 39) lexeme then quoted_token lexeme else
    punctuator_token lexeme))

unfoldable pub tokens_of : List (List ℕ) → Result (List Token) SyntaxFault
tokens_of lexemes = all_of (λ lexeme. wanted (token_of lexeme)) lexemes
