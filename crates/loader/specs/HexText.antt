-- The one HEX text that is written for an image (Intel, Hexadecimal Object File Format Specification, revision A;
-- which of the texts that give the image it is, is this board's choice).
-- To be believed: the headline rests on it.
use Rattle.std.specs.Prelude.{ℕ, ◌+◌, ◌-◌, ◌*◌, ◌/◌, ◌%◌, ◌==◌, Bool, false, nat_le, if◌then◌else◌, zero}
use Rattle.std.specs.Prelude.{suc, List, [], ◌∷◌, ◌++◌, codes, filter, length, sum, Option, None, Some}
use Rattle.hex.specs.Hex.{encode_upper}

-- the byte that makes the sum of these bytes 0 modulo 256
abbrev pub checksum : List ℕ → ℕ
checksum bytes = (256 - sum bytes % 256) % 256

-- a record as a line: a colon, its bytes and their checksum in upper case
unfoldable pub record_line : List ℕ → List ℕ
record_line bytes = codes ":" ++ (encode_upper bytes ++ (encode_upper (checksum bytes ∷ []) ++ codes "\n"))

-- a record of type 02 with the paragraph of a bank of 65,536 bytes
abbrev pub bank_line : ℕ → List ℕ
bank_line bank = record_line (2 ∷ 0 ∷ 0 ∷ 2 ∷ 16 * bank ∷ 0 ∷ [])

-- a record of type 00 with bytes from an address on, by its offset in the bank
abbrev pub data_line : ℕ → List ℕ → List ℕ
data_line address bytes = record_line (length bytes ∷ address % 65536 / 256 ∷ address % 256 ∷ 0 ∷ bytes)

abbrev pub end_line : List ℕ
end_line = codes ":00000001FF\n"

abbrev pub is_bank : Option ℕ → ℕ → Bool
is_bank None bank = false
is_bank (Some last) bank = last == bank

-- the line of bytes from an address on, with their bank's line before it, if they are the first bytes of the bank
abbrev pub row_lines : Option ℕ → ℕ → List ℕ → List ℕ
row_lines last address bytes =
    (if is_bank last (address / 65536) then [] else bank_line (address / 65536)) ++ data_line address bytes

-- the bytes side by side from an address on, at most n of them, within a bank
abbrev pub longest_run : List (ℕ × ℕ) → ℕ → ℕ → List ℕ
longest_run bytes address zero = []
longest_run [] address (suc n) = []
longest_run (byte ∷ bytes) address (suc n) =
    if byte.0 == address then byte.1 ∷ (if (address + 1) % 65536 == 0 then [] else
    longest_run bytes (address + 1) n) else []

-- The lines of bytes in the order of their addresses, without the first `skip` bytes: each line has the longest run of
-- up to 16.
abbrev pub hex_lines : Option ℕ → ℕ → List (ℕ × ℕ) → List ℕ
hex_lines last skip [] = end_line
hex_lines last (suc skip) (byte ∷ bytes) = hex_lines last skip bytes
hex_lines last zero (byte ∷ bytes) =
    row_lines last byte.0 (longest_run (byte ∷ bytes) byte.0 16)
    ++ hex_lines (Some (byte.0 / 65536)) (length (longest_run (byte ∷ bytes) byte.0 16) - 1) bytes

unfoldable pub hex_text : List (ℕ × ℕ) → List ℕ
hex_text image = hex_lines None 0 image

-- the bytes from an address on
abbrev pub bytes_from : List (ℕ × ℕ) → ℕ → List (ℕ × ℕ)
bytes_from bytes address = filter (λ byte. nat_le address byte.0) bytes
