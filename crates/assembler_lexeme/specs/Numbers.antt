-- Numbers as they are spelled.
-- To be believed: the headline rests on it.
use Rattle.std.specs.Prelude.{ℕ, ◌-◌, ◌==◌, ◌||◌, nat_lt, if◌then◌else◌, List, length}
use Rattle.std.specs.Prelude.{take, slice_index, Option, None, Some, option_and_then}
use Rattle.board_types.specs.Digits.{spelled}

-- a number, if it is at most 4,294,967,295
abbrev pub in_bounds : ℕ → Option ℕ
in_bounds n = if nat_lt n 4294967296 then Some n else None

unfoldable pub number_to : ℕ → List ℕ → Option ℕ
number_to base digits = option_and_then in_bounds (spelled base 0 digits)

-- the last byte of a text, or 0 if the text is empty
abbrev pub last_byte : List ℕ → ℕ
last_byte bytes = slice_index bytes (length bytes - 1)

abbrev pub without_last : List ℕ → List ℕ
without_last bytes = take (length bytes - 1) bytes

-- the number that a word spells: hexadecimal with an H at its end, binary with a B, else decimal
unfoldable pub number_of : List ℕ → Option ℕ
number_of word =
    if last_byte word == 72 || last_byte word == 104 then number_to 16 (without_last word) else (
    if last_byte word == 66 || last_byte word == 98 then number_to 2 (without_last word) else
    number_to 10 word)
