-- The records of an Intel HEX text (Intel, Hexadecimal Object File Format Specification, revision A).
-- To be believed: the headline rests on it.
use Rattle.std.specs.Prelude.{ℕ, ◌+◌, ◌*◌, ◌%◌, ◌^◌, Bool, ◌==◌, ◌&&◌, ◌||◌, nat_le, nat_lt, if◌then◌else◌}
use Rattle.std.specs.Prelude.{List, [], ◌∷◌, take, drop, length, slice_index, sum, Result, Ok, Err}
use Rattle.std.specs.List.{fold, list_all}
use Rattle.std.specs.Ordering.{nat_cmp}
use Rattle.std.specs.BTreeMap.{insert_entry}
use Rattle.hex.specs.declared.error.FromHexError.{FromHexError}
use Rattle.hex.specs.Hex.{decode_of}
use Rattle.loader.specs.declared.hex_fault.RecordFault.{RecordFault}
use Rattle.loader.specs.declared.hex_fault.RecordFault.TheVariants.{BadRecord, BadSum, BadType}
use Rattle.loader.specs.declared.hex_record.Extension.{Extension}
use Rattle.loader.specs.declared.hex_record.Extension.TheVariants.{Segment, Linear}

pub data HexRecord : Type 0 where
  -- type 00: bytes from a load offset on
  bytes_at : ℕ → List ℕ → HexRecord
  -- type 01
  end_of_file : HexRecord
  -- types 02 and 04: what extends the offsets that follow to addresses
  extension_at : Extension → HexRecord
  -- types 03 and 05, where a program starts: nothing is loaded
  start_at : HexRecord

-- a record has as many data bytes as its first byte says, and besides these and that byte, a load offset of two bytes,
-- a type and a sum
abbrev pub is_whole : List ℕ → Bool
is_whole bytes = length bytes == slice_index bytes 0 + 5

abbrev pub whole : Result (List ℕ) FromHexError → Result (List ℕ) RecordFault
whole (Ok bytes) = if is_whole bytes then Ok bytes else Err BadRecord
whole (Err e) = Err BadRecord

-- the bytes of a record: a colon, and for each byte two hexadecimal digits in either case
abbrev pub record_bytes : List ℕ → Result (List ℕ) RecordFault
record_bytes [] = Err BadRecord
record_bytes (colon ∷ digits) = if colon == 58 then whole (decode_of digits) else Err BadRecord

abbrev pub record_of_size : ℕ → List ℕ → HexRecord → Result HexRecord RecordFault
record_of_size n content found = if length content == n then Ok found else Err BadRecord

-- two bytes as a number, the high one first
abbrev pub number_of_two : ℕ → ℕ → ℕ
number_of_two high low = 256 * high + low

abbrev pub number_in : List ℕ → ℕ
number_in content = number_of_two (slice_index content 0) (slice_index content 1)

-- a record by its type
unfoldable pub record_of_type : ℕ → ℕ → List ℕ → Result HexRecord RecordFault
record_of_type kind offset content =
    if kind == 0 then Ok (bytes_at offset content) else (
    if kind == 1 then record_of_size 0 content end_of_file else (
    if kind == 2 then record_of_size 2 content (extension_at (Segment (number_in content))) else (
    if kind == 3 then record_of_size 4 content start_at else (
    if kind == 4 then record_of_size 2 content (extension_at (Linear (number_in content))) else (
    if kind == 5 then record_of_size 4 content start_at else Err BadType)))))

-- the record that bytes are, which must add to 0 modulo 256
unfoldable pub record_in : List ℕ → Result HexRecord RecordFault
record_in bytes =
    if sum bytes % 256 == 0 then record_of_type (slice_index bytes 3)
    (number_of_two (slice_index bytes 1) (slice_index bytes 2)) (take (slice_index bytes 0) (drop 4 bytes))
    else Err BadSum

infixl 10 ◌>>=◌
abbrev pub ◌>>=◌ : {A B : Type 0} → Result A RecordFault → (A → Result B RecordFault) → Result B RecordFault
(Ok x) >>= f = f x
(Err fault) >>= f = Err fault

-- what a line says, or its fault: first those of its form, then those of its sum, type and length
unfoldable pub record_of : List ℕ → Result HexRecord RecordFault
record_of line = record_bytes line >>= record_in

-- the address of an offset: in a segment it wraps within 65,536 bytes, and at 2^20
abbrev pub address_in : Extension → ℕ → ℕ
address_in (Segment paragraph) offset = (16 * paragraph + offset % 65536) % 2 ^ 20
address_in (Linear high) offset = 65536 * high + offset

-- the bytes of a record, each with its address
abbrev pub placed_bytes : Extension → ℕ → List ℕ → List (ℕ × ℕ)
placed_bytes extension offset [] = []
placed_bytes extension offset (b ∷ bs) = (address_in extension offset, b) ∷ placed_bytes extension (offset + 1) bs

abbrev pub is_loadable : ℕ → Bool
is_loadable address = nat_lt address 0xA0000 || (nat_le 0xF0000 address && nat_lt address 0x100000)

abbrev pub are_loadable : List (ℕ × ℕ) → Bool
are_loadable bytes = list_all (λ byte. is_loadable byte.0) bytes

-- an image with these bytes put into it in order: a later byte replaces an earlier one
abbrev pub with_bytes : List (ℕ × ℕ) → List (ℕ × ℕ) → List (ℕ × ℕ)
with_bytes image bytes = fold (λ held byte. insert_entry nat_cmp held byte.0 byte.1) image bytes
