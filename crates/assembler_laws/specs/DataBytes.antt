-- What data lines of an accepted source place, byte by byte.
-- Laws: claims above the definitions, each proved as the contract of a function.
use Rattle.std.specs.Prelude.{ℕ, ℤ, pos, ◌≡◌, ◌⊎◌, ◌+◌, ◌+ℤ◌, ◌*◌, ◌/◌, ◌%◌, ◌^◌, ◌<◌, List}
use Rattle.std.specs.Prelude.{[], ◌∷◌, ◌++◌, length, get_or, map, sum_by, Some, Contains}
use Rattle.board_types.specs.Image.{image_byte}
use Rattle.assembler_syntax.specs.declared.expression.Term.{Term}
use Rattle.assembler_syntax.specs.declared.statement.DataWidth.{DataWidth}
use Rattle.assembler_syntax.specs.declared.statement.Piece.{Piece}
use Rattle.assembler_syntax.specs.declared.statement.Piece.TheVariants.{Value, Text}
use Rattle.assembler_syntax.specs.declared.statement.Item.{Item}
use Rattle.assembler_syntax.specs.declared.statement.Item.TheVariants.{Once, Repeated}
use Rattle.assembler_syntax.specs.declared.statement.Statement.TheVariants.{Data}
use Rattle.assembler_meaning.specs.declared.symbol.Location.{Location}
use Rattle.assembler_meaning.specs.Data.{piece_size, pieces_of, times_of, width_size}
use Rattle.assembler_meaning.specs.Values.{Names, constant_of, value_of}
use Rattle.assembler.specs.Placement.{address_after}
use Rattle.assembler.specs.LocatedLines.{LocatedLine, names_of}
use Rattle.assembler.specs.Gives.{Gives}

-- From this place on the image has a number of this many bytes, the low one first. A negative number is there as the
-- number that is 256^size higher.
pub record HasNumber (image : List (ℕ × ℕ)) (location : Location) (start size : ℕ) (value : ℤ) : Type 0 where
  pub number : ℕ
  pub below : number < 256 ^ size
  pub is_value : (value ≡ pos number) ⊎ (value +ℤ pos (256 ^ size) ≡ pos number)
  pub bytes : (k : ℕ) → k < size → image_byte image (address_after location (start + k))
      ≡ Some (number / 256 ^ k % 256)

-- from this place on the image has the value of this expression
abbrev pub HasValue : Names → List (ℕ × ℕ) → Location → ℕ → ℕ → List Term → Type 0
HasValue names image location start size terms =
    (value : ℤ) × (value_of names location.offset terms ≡ Some value) × HasNumber image location start size value

-- from this place on the image has these characters, one byte each
abbrev pub HasText : List (ℕ × ℕ) → Location → ℕ → List ℕ → Type 0
HasText image location start text =
    (k d : ℕ) → k < length text → image_byte image (address_after location (start + k)) ≡ Some (get_or text k d)

abbrev pub HasPiece : Names → List (ℕ × ℕ) → Location → ℕ → DataWidth → Piece → Type 0
HasPiece names image location start width (Value terms) = HasValue names image location start (width_size width) terms
HasPiece names image location start width (Text text) = HasText image location start text

-- an item is there once, or as many times as the constant before DUP says
abbrev pub HasCount : Names → Item → Type 0
HasCount names (Once piece) = times_of names (Once piece) ≡ 1
HasCount names (Repeated count each) = constant_of names count ≡ Some (pos (times_of names (Repeated count each)))

-- how many bytes an item has, with its repeats
abbrev pub item_size : Names → DataWidth → Item → ℕ
item_size names width item = times_of names item * sum_by (piece_size width) (pieces_of item)

-- A piece of a data line, and how many bytes stand before it: those of the items before its own, of the copies before
-- its own, and of the pieces before it in the copy.
pub record StandsAfter (names : Names) (width : DataWidth) (items : List Item) (piece : Piece) (start : ℕ) : Type 0
  where
    pub before : List Item
    pub item : Item
    pub after : List Item
    pub items_are : items ≡ before ++ item ∷ after
    pub copy : ℕ
    pub is_copy : copy < times_of names item
    pub front : List Piece
    pub back : List Piece
    pub pieces_are : pieces_of item ≡ front ++ piece ∷ back
    pub counted : start ≡ sum_by (item_size names width) before
        + (copy * sum_by (piece_size width) (pieces_of item) + sum_by (piece_size width) front)

-- A data line stands in a segment, has as many bytes as its items, and has each piece at the place that is counted for
-- it. So the i-th number of DW x, y and z is two times i bytes on, the i-th character of DB 'AB' i bytes, and the i-th
-- copy of n DUP (x) i times the width of x.
pub record PlacesData (names : Names) (image : List (ℕ × ℕ)) (row : LocatedLine) (width : DataWidth)
    (items : List Item) : Type 0 where
  pub location : Location
  pub has_place : row.location ≡ Some location
  pub counts : (item : Item) → Contains items item → HasCount names item
  pub size : row.size ≡ sum_by (item_size names width) items
  pub pieces : (piece : Piece) (start : ℕ) → StandsAfter names width items piece start
      → HasPiece names image location start width piece
  pub numbers : (values : List (List Term)) → items ≡ map (λ terms. Once (Value terms)) values
      → (i : ℕ) (d : List Term) → i < length values
      → HasValue names image location (i * width_size width) (width_size width) (get_or values i d)
  pub text : (text : List ℕ) → items ≡ Once (Text text) ∷ [] → HasText image location 0 text
  pub copies : (count terms : List Term) (n : ℕ) → items ≡ Repeated count (Value terms ∷ []) ∷ []
      → constant_of names count ≡ Some (pos n)
      → (i : ℕ) → i < n → HasValue names image location (i * width_size width) (width_size width) terms

-- the image of an accepted source has each data line at the place that is counted for it, low bytes first
abbrev pub DataGoesLowByteFirst : Type 0
DataGoesLowByteFirst =
    (source : List ℕ) (image : List (ℕ × ℕ)) (gives : Gives source image) (row : LocatedLine) (width : DataWidth)
    (items : List Item)
    → Contains gives.located_lines row → row.line.statement ≡ Data width items
    → PlacesData (names_of gives.located_lines) image row width items
