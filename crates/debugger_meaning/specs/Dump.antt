-- Bytes of memory as text.
-- To be believed: the headline rests on it.
use Rattle.std.specs.Prelude.{ℕ, ◌+◌, ◌-◌, ◌*◌, ◌/◌, ◌%◌, min, List, ◌∷◌, ◌++◌, codes, map, true}
use Rattle.std.specs.List.{flat_map, range_with_len}
use Rattle.std.specs.Fmt.{digit_glyph}
use Rattle.board_plain.specs.Plain.{Plain, byte_of}
use Rattle.board_types.specs.Digits.{hex_byte_text, hex_word}

-- a physical address in five hexadecimal digits
abbrev pub address_text : ℕ → List ℕ
address_text address = digit_glyph true (address / 65536 % 16) ∷ hex_word (address % 65536)

-- this many bytes from an address on
abbrev pub bytes_from : Plain → ℕ → ℕ → List ℕ
bytes_from s first size = map (λ k. byte_of s (first + k)) (range_with_len 0 size)

-- a byte with a blank before it
abbrev pub spaced_byte : ℕ → List ℕ
spaced_byte byte = codes " " ++ hex_byte_text byte

-- a line of a dump: `B0000: 48 07 49 07`
unfoldable pub dump_line : Plain → ℕ → ℕ → List ℕ
dump_line s first size =
    address_text first ++ (codes ":" ++ (flat_map spaced_byte (bytes_from s first size) ++ codes "\n"))

-- the line of a dump with this number, from 0 on: sixteen bytes, or what is left on the last
abbrev pub dump_line_at : Plain → ℕ → ℕ → ℕ → List ℕ
dump_line_at s first count line = dump_line s (first + 16 * line) (min (count - 16 * line) 16)

unfoldable pub dump_text : Plain → ℕ → ℕ → List ℕ
dump_text s first count = flat_map (dump_line_at s first count) (range_with_len 0 ((count + 15) / 16))
