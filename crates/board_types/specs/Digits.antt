-- Numbers as digits spell them, and bytes and words as hexadecimal digits.
-- To be believed: the headline rests on it.
use Rattle.std.specs.Prelude.{ℕ, ◌+◌, ◌*◌, ◌-◌, ◌/◌, ◌%◌, true, ◌&&◌, nat_le, nat_lt}
use Rattle.std.specs.Prelude.{if◌then◌else◌, List, [], ◌∷◌, ◌++◌, Option, None, Some}
use Rattle.std.specs.Fmt.{digit_glyph}

-- the value of a digit, or of a letter from A to F in either case as 10 to 15; 255 for any other byte
abbrev pub digit_of : ℕ → ℕ
digit_of b =
    if nat_le 48 b && nat_le b 57 then b - 48 else (
    if nat_le 65 b && nat_le b 70 then b - 55 else (
    if nat_le 97 b && nat_le b 102 then b - 87 else 255))

-- the number that digits to a base spell, the highest first, after digits that spell `front`; none if a byte is no such
-- digit
abbrev pub spelled : ℕ → ℕ → List ℕ → Option ℕ
spelled base front [] = Some front
spelled base front (b ∷ bs) = if nat_lt (digit_of b) base then spelled base (front * base + digit_of b) bs else None

-- a byte as two hexadecimal digits and a word as four, in upper case
abbrev pub hex_byte_text : ℕ → List ℕ
hex_byte_text byte = digit_glyph true (byte / 16) ∷ digit_glyph true (byte % 16) ∷ []

abbrev pub hex_word : ℕ → List ℕ
hex_word word = hex_byte_text (word / 256) ++ hex_byte_text (word % 256)
