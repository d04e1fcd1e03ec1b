-- The image that a source gives.
-- To be believed: the headline rests on it.
use Rattle.std.specs.Prelude.{ℕ, ◌≡◌, ◌≤◌, ◌↔◌, ◌==◌, false, List, [], length, Some, Contains, is_some}
use Rattle.std.specs.List.{AllByRecursion, IsDistinct}
use Rattle.std.specs.Map.{keys_of}
use Rattle.board_types.specs.Image.{IsImage, image_byte}
use Rattle.board_types.specs.TextLines.{text_lines}
use Rattle.assembler_meaning.specs.declared.symbol.Location.{Location}
use Rattle.assembler_meaning.specs.Values.{Names}
use Rattle.assembler.specs.Placement.{content_of, lacks_name, has_wrong_number, is_past_end, placed_by_all}
use Rattle.assembler.specs.LocatedLines.{LocatedLine, AreLocatedLines, names_of}

-- a source has at most 1,048,576 bytes
abbrev pub source_limit : ℕ
source_limit = 1048576

-- a row fits at its location: its names are defined, its numbers fit, and no byte or label of it lies past the end of
-- the segment
pub record FitsAt (names : Names) (located : LocatedLine) (location : Location) : Type 0 where
  pub known : lacks_name names location (content_of located.line.statement located.form) ≡ false
  pub fits : has_wrong_number names location located.size (content_of located.line.statement located.form) ≡ false
  pub within : is_past_end location located.size (is_some located.line.label) ≡ false

abbrev pub Fits : Names → LocatedLine → Type 0
Fits names located = (location : Location) → located.location ≡ Some location → FitsAt names located location

-- The rows place these bytes, in the light of the names that they define: each row fits, no address is placed twice,
-- and the image has a byte at an address if and only if some row places it there.
pub record ArePlaced (located_lines : List LocatedLine) (image : List (ℕ × ℕ)) : Type 0 where
  pub fit : AllByRecursion (Fits (names_of located_lines)) located_lines
  pub once : IsDistinct (λ a b. a == b) (keys_of (placed_by_all (names_of located_lines) located_lines))
  pub is_image : IsImage image
  pub bytes : (address byte : ℕ) → (image_byte image address ≡ Some byte)
      ↔ Contains (placed_by_all (names_of located_lines) located_lines) (address, byte)

-- The source gives the image: it is within its length, its lines make rows that keep the rules of constants, names and
-- segments, and the rows place the image's bytes.
pub record Gives (source : List ℕ) (image : List (ℕ × ℕ)) : Type 0 where
  pub within : length source ≤ source_limit
  pub located_lines : List LocatedLine
  pub are_located_lines : AreLocatedLines [] (text_lines source) located_lines
  pub placed : ArePlaced located_lines image
