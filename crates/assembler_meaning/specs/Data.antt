-- Data lines: DB, DW and DD. The low byte of a number comes first.
-- To be believed: the headline rests on it.
use Rattle.std.specs.Prelude.{ℕ, ℤ, pos, negsuc, ◌+◌, ◌*◌, ◌/◌, ◌%◌, Bool, true, false, not, List}
use Rattle.std.specs.Prelude.{[], ◌∷◌, length, Option, None, Some, is_some, is_none, replicate}
use Rattle.std.specs.Option.{option_map_or}
use Rattle.std.specs.List.{list_all, flat_map}
use Rattle.assembler_syntax.specs.declared.expression.Term.{Term}
use Rattle.assembler_syntax.specs.declared.statement.DataWidth.{DataWidth}
use Rattle.assembler_syntax.specs.declared.statement.DataWidth.TheVariants.{Byte, Word, Double}
use Rattle.assembler_syntax.specs.declared.statement.Piece.{Piece}
use Rattle.assembler_syntax.specs.declared.statement.Piece.TheVariants.{Value, Text}
use Rattle.assembler_syntax.specs.declared.statement.Item.{Item}
use Rattle.assembler_syntax.specs.declared.statement.Item.TheVariants.{Once, Repeated}
use Rattle.assembler_form.specs.Takes.{is_within}
use Rattle.assembler_form.specs.Fields.{modulo}
use Rattle.assembler_meaning.specs.Values.{Names, value_of, constant_of}

abbrev pub width_size : DataWidth → ℕ
width_size Byte = 1
width_size Word = 2
width_size Double = 4

-- whether a number fits the width, as a signed or an unsigned number
abbrev pub fits_width : DataWidth → ℤ → Bool
fits_width Byte n = is_within (negsuc 127) (pos 255) n
fits_width Word n = is_within (negsuc 32767) (pos 65535) n
fits_width Double n = is_within (negsuc 2147483647) (pos 4294967295) n

-- the count before DUP, if the item has one
abbrev pub item_counts : Item → List (List Term)
item_counts (Once piece) = []
item_counts (Repeated count each) = count ∷ []

abbrev pub counts_of : List Item → List (List Term)
counts_of items = flat_map item_counts items

-- the pieces of an item, without their repeats
abbrev pub pieces_of : Item → List Piece
pieces_of (Once piece) = piece ∷ []
pieces_of (Repeated count each) = each

abbrev pub natural : ℤ → ℕ
natural (pos n) = n
natural (negsuc n) = 0

-- how many times the pieces of an item are there
abbrev pub times_of : Names → Item → ℕ
times_of names (Once piece) = 1
times_of names (Repeated count each) = option_map_or natural (constant_of names count) 0

abbrev pub piece_size : DataWidth → Piece → ℕ
piece_size width (Value terms) = width_size width
piece_size width (Text text) = length text

abbrev pub pieces_size : DataWidth → List Piece → ℕ
pieces_size width [] = 0
pieces_size width (piece ∷ pieces) = piece_size width piece + pieces_size width pieces

abbrev pub data_size : Names → DataWidth → List Item → ℕ
data_size names width [] = 0
data_size names width (item ∷ items) =
    times_of names item * pieces_size width (pieces_of item) + data_size names width items

-- the bytes of a number, the low one first
abbrev pub number_bytes : DataWidth → ℤ → List ℕ
number_bytes Byte n = modulo 256 n ∷ []
number_bytes Word n = modulo 65536 n % 256 ∷ modulo 65536 n / 256 ∷ []
number_bytes Double n =
    modulo 4294967296 n % 256 ∷ modulo 4294967296 n / 256 % 256 ∷ modulo 4294967296 n / 65536 % 256
    ∷ modulo 4294967296 n / 16777216 ∷ []

-- whether each name in a piece is defined
abbrev pub is_piece_known : Names → ℕ → Piece → Bool
is_piece_known names here (Value terms) = is_some (value_of names here terms)
is_piece_known names here (Text text) = true

-- whether the number of a piece fits, if it is known
abbrev pub does_piece_fit : Names → ℕ → DataWidth → Piece → Bool
does_piece_fit names here width (Value terms) = option_map_or (fits_width width) (value_of names here terms) true
does_piece_fit names here width (Text text) = true

unfoldable pub are_items_known : Names → ℕ → List Item → Bool
are_items_known names here items = list_all (λ item. list_all (is_piece_known names here) (pieces_of item)) items

unfoldable pub do_items_fit : Names → ℕ → DataWidth → List Item → Bool
do_items_fit names here width items =
    list_all (λ item. list_all (does_piece_fit names here width) (pieces_of item)) items

abbrev pub piece_bytes : Names → ℕ → DataWidth → Piece → List ℕ
piece_bytes names here width (Value terms) = option_map_or (number_bytes width) (value_of names here terms) []
piece_bytes names here width (Text text) = text

-- bytes, repeated this many times
abbrev pub repeated : ℕ → List ℕ → List ℕ
repeated times bytes = flat_map (λ each. each) (replicate times bytes)

abbrev pub item_bytes : Names → ℕ → DataWidth → Item → List ℕ
item_bytes names here width item =
    repeated (times_of names item) (flat_map (piece_bytes names here width) (pieces_of item))

unfoldable pub data_bytes : Names → ℕ → DataWidth → List Item → List ℕ
data_bytes names here width items = flat_map (item_bytes names here width) items

-- whether a constant is known and lies outside these bounds
abbrev pub is_other : ℤ → ℤ → Option ℤ → Bool
is_other least greatest (Some n) = not (is_within least greatest n)
is_other least greatest None = false

-- whether a count before DUP is known and isn't 1 to 65,535
abbrev pub is_wrong_count : Names → List Term → Bool
is_wrong_count names n = is_other (pos 1) (pos 65535) (constant_of names n)

-- whether a constant isn't known by the lines before it
abbrev pub is_unknown : Names → List Term → Bool
is_unknown names n = is_none (constant_of names n)
