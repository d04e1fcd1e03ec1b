-- What stands in memory as instructions, as text.
-- To be believed by callers of this crate: the headline does not rest on it.
use Rattle.std.specs.Prelude.{ℕ, List, ◌++◌, codes, map}
use Rattle.std.specs.List.{range_with_len}
use Rattle.board_types.specs.Address.{offset_after, physical}
use Rattle.board_types.specs.Digits.{hex_byte_text, hex_word}
use Rattle.decode.specs.declared.decoding.Decoding.{Decoding as Decoded}
use Rattle.decode.specs.declared.decoding.Decoding.TheVariants.{Found, NoRow}
use Rattle.decode.specs.Decoding.{code_at, decoded_from}
use Rattle.disassembler.specs.Text.{instr_text}

-- what is decoded at a place, by the byte at each address
abbrev pub stands_at : (ℕ → ℕ) → ℕ → ℕ → Decoded
stands_at bytes segment offset = decoded_from (code_at bytes segment offset)

-- how many bytes a line lists: an instruction's, or the one that begins none
abbrev pub size_listed : Decoded → ℕ
size_listed (Found i size) = size
size_listed NoRow = 1

-- the bytes that a line lists; offsets wrap at 65,536
abbrev pub bytes_listed : (ℕ → ℕ) → ℕ → ℕ → ℕ → List ℕ
bytes_listed bytes segment offset size =
    map (λ k. bytes (physical segment (offset_after offset k))) (range_with_len 0 size)

abbrev pub place_text : ℕ → ℕ → List ℕ
place_text segment offset = hex_word segment ++ (codes ":" ++ hex_word offset)

-- the end of a line of the listing, an instruction or a byte: `F000:0013 B008 MOV AL,008h`, `F000:0017 0F DB 00Fh`
abbrev pub text_listed : Decoded → ℕ → ℕ → List ℕ
text_listed (Found i size) offset byte = codes " " ++ (instr_text i offset ++ codes "\n")
text_listed NoRow offset byte = codes " DB 0" ++ (hex_byte_text byte ++ codes "h\n")

-- the offset at which the next line begins
unfoldable pub offset_listed_next : (ℕ → ℕ) → ℕ → ℕ → ℕ
offset_listed_next bytes segment offset = offset_after offset (size_listed (stands_at bytes segment offset))
