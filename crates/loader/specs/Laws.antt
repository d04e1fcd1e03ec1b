-- What holds of all HEX texts and images.
-- Laws: claims above the definitions, each proved as the contract of a function.
use Rattle.std.specs.Prelude.{◌≢◌, ℕ, ◌≡◌, ◌⊎◌, ◌<◌, ◌≤◌, ◌+◌, ◌/◌, ◌%◌, ◌↔◌, ◌++◌, Bool, true, false, not}
use Rattle.std.specs.Prelude.{filter, length, map, List, [], ◌∷◌, Ok, Option, None, Some, ◌==◌, if◌then◌else◌}
use Rattle.std.specs.List.{AllByRecursion, flat_map}
use Rattle.std.specs.List.Sorted.{IsStrictlySortedBy}
use Rattle.std.specs.Map.{keys_of}
use Rattle.std.specs.Ordering.{nat_cmp}
use Rattle.board_types.specs.Image.{image_byte}
use Rattle.loader.specs.HexText.{end_line, hex_text, row_lines}
use Rattle.loader.specs.declared.hex_record.Extension.{Extension}
use Rattle.loader.specs.declared.hex_record.Extension.TheVariants.{Segment}
use Rattle.loader.specs.Lines.{without_spaces}
use Rattle.board_types.specs.TextLines.{text_lines}
use Rattle.loader.specs.Reading.{image_of, is_blank}
use Rattle.loader.specs.Records.{HexRecord, bytes_at, end_of_file, extension_at, start_at}
use Rattle.loader.specs.Records.{are_loadable, placed_bytes, record_of, with_bytes}

-- the HEX text of an image is read back as that image
abbrev pub ReadsBack : List (ℕ × ℕ) → Type 0
ReadsBack image = image_of (hex_text image) ≡ Ok image

-- the lines that aren't blank, without the spaces at their ends
abbrev pub filled_lines : List (List ℕ) → List (List ℕ)
filled_lines lines = filter (λ line. not (is_blank line)) (map without_spaces lines)

abbrev pub is_end : HexRecord → Bool
is_end (bytes_at offset content) = false
is_end end_of_file = true
is_end (extension_at extension) = false
is_end start_at = false

-- the bytes of records in order, each with the address that the extension in force gives it
abbrev pub bytes_of : Extension → List HexRecord → List (ℕ × ℕ)
bytes_of extension [] = []
bytes_of extension (bytes_at offset content ∷ records) =
    placed_bytes extension offset content ++ bytes_of extension records
bytes_of extension (end_of_file ∷ records) = bytes_of extension records
bytes_of extension (extension_at next ∷ records) = bytes_of next records
bytes_of extension (start_at ∷ records) = bytes_of extension records

-- the later byte, or if there is none, the one that was there before
abbrev pub later_or : Option ℕ → Option ℕ → Option ℕ
later_or (Some byte) before = Some byte
later_or None before = before

-- the last byte that is put at an address
abbrev pub last_byte : List (ℕ × ℕ) → ℕ → Option ℕ
last_byte [] address = None
last_byte (byte ∷ bytes) address = later_or (last_byte bytes address) (if byte.0 == address then Some byte.1 else None)

-- The text's lines that aren't blank are those of these records and then of the end record, the only one of its kind.
-- All addresses are loadable, and the image has at each address the last byte that a record puts there, and none if no
-- record puts one. At first, addresses are offsets.
pub record IsMadeOf (text : List ℕ) (image : List (ℕ × ℕ)) (records : List HexRecord) : Type 0 where
  pub lines : map record_of (filled_lines (text_lines text)) ≡ map Ok (records ++ end_of_file ∷ [])
  pub one_end : AllByRecursion (λ r. is_end r ≡ false) records
  pub loadable : are_loadable (bytes_of (Segment 0) records) ≡ true
  pub bytes : (address : ℕ) → image_byte image address ≡ last_byte (bytes_of (Segment 0) records) address

-- the text is made of records whose bytes the image holds
abbrev pub Loads : List ℕ → List (ℕ × ℕ) → Type 0
Loads text image = (records : List HexRecord) × IsMadeOf text image records

-- the addresses of an image rise
abbrev pub Rises : List (ℕ × ℕ) → Type 0
Rises image = IsStrictlySortedBy nat_cmp (keys_of image)

-- a text gives an image if and only if it is made of records whose bytes the image holds
abbrev pub LoadsRecords : Type 0
LoadsRecords = (text : List ℕ) (image : List (ℕ × ℕ)) → Rises image → (image_of text ≡ Ok image) ↔ Loads text image

-- after bytes are put into an image, each address has the last byte that was put there, or else what it had
abbrev pub LaterBytesWin : Type 0
LaterBytesWin =
    (image bytes : List (ℕ × ℕ)) (address : ℕ)
    → image_byte (with_bytes image bytes) address ≡ later_or (last_byte bytes address) (image_byte image address)

-- the HEX text of an image loads that image and no other
abbrev pub LoadsAlone : List (ℕ × ℕ) → Type 0
LoadsAlone image = (other : List (ℕ × ℕ)) → Rises other → Loads (hex_text image) other ↔ (image ≡ other)

-- bytes side by side, the first of them at an address
pub record Run : Type 0 where
  pub address : ℕ
  pub bytes : List ℕ

abbrev pub entries_from : ℕ → List ℕ → List (ℕ × ℕ)
entries_from address [] = []
entries_from address (b ∷ bs) = (address, b) ∷ entries_from (address + 1) bs

-- A run of 1 to 16 bytes within a bank of 65,536 that can be no longer: it has 16, or the bank ends after it, or the
-- image has no byte there.
pub record IsLongest (image : List (ℕ × ℕ)) (run : Run) : Type 0 where
  pub some : 0 < length run.bytes
  pub few : length run.bytes ≤ 16
  pub one_bank : run.address % 65536 + length run.bytes ≤ 65536
  pub ends : (length run.bytes ≡ 16)
      ⊎ (((run.address + length run.bytes) % 65536 ≡ 0) ⊎ (image_byte image (run.address + length run.bytes) ≡ None))

-- the lines of runs, after a run in this bank
abbrev pub lines_of_runs : Option ℕ → List Run → List ℕ
lines_of_runs last [] = end_line
lines_of_runs last (run ∷ runs) =
    row_lines last run.address run.bytes ++ lines_of_runs (Some (run.address / 65536)) runs

-- the HEX text of an image is the lines of runs which are its bytes in order, each run being the longest
pub record HasLongestRuns (image : List (ℕ × ℕ)) : Type 0 where
  pub runs : List Run
  pub text : hex_text image ≡ lines_of_runs None runs
  pub bytes : flat_map (λ run. entries_from run.address run.bytes) runs ≡ image
  pub longest : AllByRecursion (IsLongest image) runs

-- no byte of one list is at an address of the other
abbrev pub AreApart : List (ℕ × ℕ) → List (ℕ × ℕ) → Type 0
AreApart one two = AllByRecursion (λ x. AllByRecursion (λ y. x.0 ≢ y.0) two) one

-- the bytes of two lists that share no address may be put in either order
abbrev pub BytesChangePlaces : Type 0
BytesChangePlaces =
    (image one two : List (ℕ × ℕ)) → AreApart one two
    → with_bytes (with_bytes image one) two ≡ with_bytes (with_bytes image two) one

-- the extension in force after records
abbrev pub extension_after : Extension → List HexRecord → Extension
extension_after extension [] = extension
extension_after extension (bytes_at offset content ∷ records) = extension_after extension records
extension_after extension (end_of_file ∷ records) = extension_after extension records
extension_after extension (extension_at next ∷ records) = extension_after next records
extension_after extension (start_at ∷ records) = extension_after extension records

-- two neighbouring data records that share no address may change places: the records give the same image
abbrev pub RecordsChangePlaces : Type 0
RecordsChangePlaces =
    (extension : Extension) (image : List (ℕ × ℕ)) (before after : List HexRecord) (m n : ℕ) (one two : List ℕ)
    → AreApart (placed_bytes (extension_after extension before) m one)
    (placed_bytes (extension_after extension before) n two)
    → with_bytes image (bytes_of extension (before ++ bytes_at m one ∷ bytes_at n two ∷ after))
    ≡ with_bytes image (bytes_of extension (before ++ bytes_at n two ∷ bytes_at m one ∷ after))

-- Two texts have the same lines, except that two neighbours have changed places, which are the lines of data records
-- that share no address, by the records before them. Then an image that one text gives is given by the other.
abbrev pub LinesChangePlaces : Type 0
LinesChangePlaces =
    (text other : List ℕ) (before after : List (List ℕ)) (one two : List ℕ) (records : List HexRecord) (m n : ℕ)
    (xs ys : List ℕ)
    → text_lines text ≡ before ++ one ∷ two ∷ after → text_lines other ≡ before ++ two ∷ one ∷ after
    → map record_of (filled_lines before) ≡ map Ok records
    → record_of (without_spaces one) ≡ Ok (bytes_at m xs) → record_of (without_spaces two) ≡ Ok (bytes_at n ys)
    → AreApart (placed_bytes (extension_after (Segment 0) records) m xs)
    (placed_bytes (extension_after (Segment 0) records) n ys)
    → (image : List (ℕ × ℕ)) → Loads text image → Loads other image
