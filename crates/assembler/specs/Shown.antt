-- How the listing's code shows a row: by the image's bytes at the row's addresses.
-- For proofs alone: no public contract rests on it.
use Rattle.std.specs.Prelude.{ℕ, zero, suc, ◌-◌, ◌*◌, nat_lt, if◌then◌else◌, List}
use Rattle.std.specs.Prelude.{[], ◌∷◌, ◌++◌, take, drop, Option, None, Some}
use Rattle.std.specs.Option.{unwrap_or}
use Rattle.board_types.specs.Image.{image_byte}
use Rattle.assembler.specs.declared.kept_line.KeptLine.{KeptLine}
use Rattle.assembler_meaning.specs.declared.symbol.Location.{Location}
use Rattle.assembler.specs.Placement.{address_after}
use Rattle.board_types.specs.Digits.{hex_byte_text, hex_word}
use Rattle.assembler.specs.Listing.{spaces}

-- the byte that the image has n bytes after a location, or 0 if it has none
abbrev pub shown_byte : List (ℕ × ℕ) → Location → ℕ → ℕ
shown_byte image location n = unwrap_or (image_byte image (address_after location n)) 0

-- the digits of the first n bytes from a location on
abbrev pub shown_digits : List (ℕ × ℕ) → Location → ℕ → List ℕ
shown_digits image location zero = []
shown_digits image location (suc n) = shown_digits image location n ++ hex_byte_text (shown_byte image location n)

abbrev pub shown_count : ℕ → ℕ
shown_count size = if nat_lt 8 size then 8 else size

-- a location, and the first eight of the bytes from there on
unfoldable pub shown_place : List (ℕ × ℕ) → Location → ℕ → List ℕ
shown_place image location size =
    hex_word location.segment ++ (58 ∷ hex_word location.offset ++ (32 ∷ shown_digits image location (shown_count size)
    ++ (spaces (2 * (8 - shown_count size)) ++ ((if nat_lt 8 size then 43 else 32) ∷ 32 ∷ []))))

-- where a row's bytes stand, if it has some
abbrev pub location_by_size : Option Location → ℕ → Option Location
location_by_size location zero = None
location_by_size location (suc n) = location

abbrev pub shown_location : KeptLine → Option Location
shown_location kept = location_by_size kept.location kept.size

abbrev pub shown_at : List (ℕ × ℕ) → Option Location → ℕ → List ℕ
shown_at image (Some location) size = shown_place image location size
shown_at image None size = spaces 28

-- a row's text in the source
abbrev pub said_by : List ℕ → KeptLine → List ℕ
said_by source kept = take kept.length (drop kept.start source)

-- the listing's line of a row
abbrev pub shown_line : List ℕ → List (ℕ × ℕ) → KeptLine → List ℕ
shown_line source image kept = shown_at image (shown_location kept) kept.size ++ said_by source kept
