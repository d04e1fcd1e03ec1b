-- The listing: for each line where its bytes stand, the first eight of them, and the line; and the names of a source.
-- To be believed: the headline rests on it.
use Rattle.std.specs.Prelude.{ℕ, ℤ, ◌-◌, ◌*◌, nat_lt, if◌then◌else◌, List, [], ◌∷◌}
use Rattle.std.specs.Prelude.{◌++◌, length, take, replicate, Option, None, Some, zip}
use Rattle.std.specs.Option.{option_map}
use Rattle.std.specs.List.{flat_map, slice_get, take_while}
use Rattle.board_types.specs.Digits.{hex_byte_text, hex_word}
use Rattle.assembler_lexeme.specs.declared.name.Name.{Name}
use Rattle.assembler_meaning.specs.declared.symbol.Location.{Location}
pub use Rattle.assembler_meaning.specs.Values.{Names, symbol_value}
use Rattle.assembler.specs.Placement.{bytes_by, content_of}
use Rattle.assembler.specs.LocatedLines.{LocatedLine}

-- an assembled source, as contracts see it
pub record ListingState : Type 0 where
  pub source : List ℕ
  pub names : Names
  pub image : List (ℕ × ℕ)

abbrev pub spaces : ℕ → List ℕ
spaces n = replicate n 32

-- the digits of the first eight bytes, filled up with spaces to sixteen
abbrev pub first_bytes : List ℕ → List ℕ
first_bytes bytes = flat_map hex_byte_text (take 8 bytes) ++ spaces (16 - 2 * length bytes)

-- `+` if there are more than eight bytes, else a space
abbrev pub more_punctuator : List ℕ → ℕ
more_punctuator bytes = if nat_lt 8 (length bytes) then 43 else 32

unfoldable pub bytes_part : Location → List ℕ → List ℕ
bytes_part location bytes =
    hex_word location.segment ++ (58 ∷ hex_word location.offset
    ++ (32 ∷ first_bytes bytes ++ (more_punctuator bytes ∷ 32 ∷ [])))

-- where a row's bytes stand, with the first of them; spaces, if there are none
abbrev pub place_part : Option Location → List ℕ → List ℕ
place_part (Some location) (b ∷ bs) = bytes_part location (b ∷ bs)
place_part location bytes = spaces 28

abbrev pub line_bytes : Names → LocatedLine → Option Location → List ℕ
line_bytes names located (Some location) =
    bytes_by names location located.size (content_of located.line.statement located.form)
line_bytes names located None = []

-- a line of the listing: the row's bytes and the line's text
abbrev pub listed : Names → List ℕ → LocatedLine → List ℕ
listed names text located = place_part located.location (line_bytes names located located.location) ++ text

-- the line of the listing with this number, from 0 on
abbrev pub line_at : Names → List (List ℕ) → List LocatedLine → ℕ → Option (List ℕ)
line_at names texts located_lines i =
    option_map (λ line. listed names line.0 line.1) (slice_get (zip texts located_lines) i)

-- a name's letters, without the zeros that fill it up
abbrev pub letters_of : Name → List ℕ
letters_of name = take_while (λ letter. nat_lt 0 letter) name.letters

-- the name that is defined after i others, with its value
abbrev pub symbol_at : Names → ℕ → Option (List ℕ × ℤ)
symbol_at names i = option_map (λ entry. (letters_of entry.0, symbol_value entry.1)) (slice_get names i)
