-- What the rows of an accepted source place are bytes at addresses that can be loaded: they make an image.
use Rattle.std.proofs.Common.{◌≡◌, ◌∙◌, ℕ, ℤ, zero, suc, pos, ◌+◌, ◌*◌, ◌/◌, ◌%◌, ◌<◌, Bool, true, List, []}
use Rattle.std.proofs.Common.{◌∷◌, ◌++◌, length, map, refl, sym, ap, subst, arith, lit<, Option, None, Some}
use Rattle.std.specs.Prelude.{negsuc}
use Rattle.std.specs.Option.{option_map_or}
use Rattle.std.specs.Ordering.{nat_cmp}
use Rattle.std.specs.BTreeMap.{insert_entry}
use Rattle.std.specs.List.{AllByRecursion, flat_map, list_all}
use Rattle.std.proofs.lemmas.Bool.{and_from, and_parts}
use Rattle.std.proofs.lemmas.List.Folds.{list_all-append}
use Rattle.std.proofs.lemmas.List.Sums.{fold-append}
use Rattle.board_types.specs.Image.{IsImage}
use Rattle.isa.specs.declared.form.Base.{Base}
use Rattle.isa.specs.declared.form.Base.TheVariants as bases
use Rattle.isa.specs.declared.form.Form.{Form}
use Rattle.isa.specs.declared.form.Place.{Place}
use Rattle.isa.specs.declared.form.Place.TheVariants as places
use Rattle.isa.specs.declared.form.Prefix.{Prefix}
use Rattle.isa.specs.declared.form.Prefix.TheVariants as prefixes
use Rattle.isa.specs.declared.form.Repeat.TheVariants.{Repne, Rep}
use Rattle.isa.specs.declared.form.Values.{Values}
use Rattle.isa.specs.declared.layout.Field.{Field}
use Rattle.isa.specs.declared.layout.Field.TheVariants as fields
use Rattle.isa.specs.declared.layout.PlacePart.{PlacePart}
use Rattle.isa.specs.declared.layout.PlacePart.TheVariants as place_parts
use Rattle.isa.specs.declared.layout.RegPart.{RegPart}
use Rattle.isa.specs.declared.layout.RegPart.TheVariants as reg_parts
use Rattle.isa.specs.declared.layout.Second.{Second}
use Rattle.isa.specs.declared.layout.Second.TheVariants as seconds
use Rattle.isa.specs.declared.register.SegmentRegister.TheVariants.{Es, Cs, Ss, Ds}
use Rattle.isa.specs.declared.row.Row.{Row as TableRow}
use Rattle.isa.specs.Encoding.{addressing, base_number, code_number, displacement_field, encoding, field_bytes, mod_of, prefix_byte}
use Rattle.isa.specs.Encoding.{reg_number, rm_of, second_bytes, FitsField, FitsForm, FitsPlace, FitsReg, FitsSecond, IsForm}
use Rattle.isa.specs.Layout.{code_part, field_part, second_part}
use Rattle.isa.specs.RowSearch.{HasDigit}
use Rattle.isa.specs.Table.{rows as table}
use Rattle.isa.proofs.Rows.{code_within, digit_within, each}
use Rattle.assembler_form.specs.Fields.{modulo}
use Rattle.assembler_syntax.specs.declared.statement.DataWidth.{DataWidth}
use Rattle.assembler_syntax.specs.declared.statement.DataWidth.TheVariants.{Byte, Word, Double}
use Rattle.assembler_syntax.specs.declared.statement.Instruction.{Instruction as Written}
use Rattle.assembler_syntax.specs.declared.statement.Item.{Item}
use Rattle.assembler_syntax.specs.declared.statement.Item.TheVariants.{Once, Repeated}
use Rattle.assembler_syntax.specs.declared.statement.Piece.{Piece}
use Rattle.assembler_syntax.specs.declared.statement.Piece.TheVariants.{Value, Text}
use Rattle.assembler_syntax.specs.declared.statement.Statement.{Statement}
use Rattle.assembler_syntax.specs.declared.statement.Statement.TheVariants as statements
use Rattle.assembler_meaning.specs.declared.symbol.Location.{Location}
use Rattle.assembler_meaning.specs.Data.{data_bytes, item_bytes, number_bytes, piece_bytes, pieces_of, repeated, times_of}
use Rattle.assembler_meaning.specs.Instructions.{code_bytes, numbers_of, prefixes_of}
use Rattle.assembler_meaning.specs.Values.{Names, value_of}
use Rattle.assembler.specs.declared.kept_line.Content.{Content}
use Rattle.assembler.specs.FirstFault.{AreFaultless}
use Rattle.assembler.specs.Placement.{address_after, addresses_from, bytes_by, bytes_from, content_of, fields_of}
use Rattle.assembler.specs.Placement.{is_loadable, is_placed, late_fault, placed_at, placed_by, placed_by_all, located_fault}
use Rattle.assembler.specs.LocatedLines.{LocatedLine}
use Rattle.assembler.specs.SecondPass.{HasSize, LineHasSize, with_entries}
use Rattle.assembler.proofs.PlacingAddresses.{can_load_at}
use Rattle.assembler.proofs.PlacingImage.{still_image}
use Rattle.assembler.proofs.PlacingLines.{can_stand}
use Rattle.assembler_laws.proofs.CleanRows.{IsClean, HasPlace, fields_fit, has_place}
use Rattle.assembler_laws.proofs.TextBytes.{are_bytes, below_byte, byte_below, has_bytes_texts, is_byte, is_bytes_item, is_bytes_piece, texts_are_bytes}

-- ---- lists of bytes
alone : (b : ℕ) → b < 256 → are_bytes (b ∷ []) ≡ true
alone b is = and_from (is_byte b) true (below_byte b is) refl

following : (b : ℕ) (bs : List ℕ) → b < 256 → are_bytes bs ≡ true → are_bytes (b ∷ bs) ≡ true
following b bs is all = and_from (is_byte b) (are_bytes bs) (below_byte b is) all

joined : (xs ys : List ℕ) → are_bytes xs ≡ true → are_bytes ys ≡ true → are_bytes (xs ++ ys) ≡ true
joined xs ys one two = list_all-append is_byte xs ys ∙ and_from (are_bytes xs) (are_bytes ys) one two

-- what is made of each element that passes, one after another, is bytes
made_bytes : {X : Type 0} (f : X → List ℕ) (p : X → Bool) → ((x : X) → p x ≡ true → are_bytes (f x) ≡ true) → (xs : List X) → list_all p xs ≡ true
    → are_bytes (flat_map f xs) ≡ true
made_bytes f p make [] all = refl
made_bytes f p make (x ∷ xs) all =
    let both = and_parts (p x) (list_all p xs) all in joined (f x) (flat_map f xs) (make x both.0) (made_bytes f p make xs both.1)

-- ---- data
modulo_within : (m : ℕ) (n : ℤ) → 0 < m → modulo m n < m
modulo_within m (pos n) some = omega arith
modulo_within m (negsuc n) some = omega arith

word_bytes : (n : ℕ) → n < 65536 → are_bytes (n % 256 ∷ n / 256 ∷ []) ≡ true
word_bytes n few = following (n % 256) (n / 256 ∷ []) (omega arith) (alone (n / 256) (omega (arith, few)))

double_bytes : (n : ℕ) → n < 4294967296 → are_bytes (n % 256 ∷ n / 256 % 256 ∷ n / 65536 % 256 ∷ n / 16777216 ∷ []) ≡ true
double_bytes n few =
    following (n % 256) (n / 256 % 256 ∷ n / 65536 % 256 ∷ n / 16777216 ∷ []) (omega arith)
    (following (n / 256 % 256) (n / 65536 % 256 ∷ n / 16777216 ∷ []) (omega arith)
    (following (n / 65536 % 256) (n / 16777216 ∷ []) (omega arith) (alone (n / 16777216) (omega (arith, few)))))

number_in : (width : DataWidth) (n : ℤ) → are_bytes (number_bytes width n) ≡ true
number_in Byte n = alone (modulo 256 n) (modulo_within 256 n (lit< tt))
number_in Word n = word_bytes (modulo 65536 n) (modulo_within 65536 n (lit< tt))
number_in Double n = double_bytes (modulo 4294967296 n) (modulo_within 4294967296 n (lit< tt))

value_in : (width : DataWidth) (value : Option ℤ) → are_bytes (option_map_or (number_bytes width) value []) ≡ true
value_in width (Some n) = number_in width n
value_in width None = refl

piece_in : (names : Names) (here : ℕ) (width : DataWidth) (piece : Piece) → is_bytes_piece piece ≡ true → are_bytes (piece_bytes names here width piece) ≡ true
piece_in names here width (Value terms) all = value_in width (value_of names here terms)
piece_in names here width (Text text) all = all

repeated_in : (n : ℕ) (bytes : List ℕ) → are_bytes bytes ≡ true → are_bytes (repeated n bytes) ≡ true
repeated_in zero bytes all = refl
repeated_in (suc n) bytes all = joined bytes (repeated n bytes) all (repeated_in n bytes all)

item_pieces : (item : Item) → is_bytes_item item ≡ true → list_all is_bytes_piece (pieces_of item) ≡ true
item_pieces (Once piece) all = and_from (is_bytes_piece piece) true all refl
item_pieces (Repeated count pieces) all = all

item_in : (names : Names) (here : ℕ) (width : DataWidth) (item : Item) → is_bytes_item item ≡ true → are_bytes (item_bytes names here width item) ≡ true
item_in names here width item all =
    repeated_in (times_of names item) (flat_map (piece_bytes names here width) (pieces_of item))
    (made_bytes (piece_bytes names here width) is_bytes_piece (piece_in names here width) (pieces_of item) (item_pieces item all))

data_in : (names : Names) (here : ℕ) (width : DataWidth) (items : List Item) → list_all is_bytes_item items ≡ true
    → are_bytes (data_bytes names here width items) ≡ true
unfolding data_bytes
data_in names here width items all = made_bytes (item_bytes names here width) is_bytes_item (item_in names here width) items all

-- ---- instructions
prefix_in : (p : Prefix) → prefix_byte p < 256
prefix_in (prefixes.Segment Es) = lit< tt
prefix_in (prefixes.Segment Cs) = lit< tt
prefix_in (prefixes.Segment Ss) = lit< tt
prefix_in (prefixes.Segment Ds) = lit< tt
prefix_in prefixes.Lock = lit< tt
prefix_in (prefixes.Repeat Repne) = lit< tt
prefix_in (prefixes.Repeat Rep) = lit< tt

prefixes_in : (ps : List Prefix) → are_bytes (map prefix_byte ps) ≡ true
prefixes_in [] = refl
prefixes_in (p ∷ ps) = following (prefix_byte p) (map prefix_byte ps) (prefix_in p) (prefixes_in ps)

abbrev is_exact_byte : Second → Bool
is_exact_byte (seconds.Exactly byte) = is_byte byte
is_exact_byte second = true

exact_bytes : list_all (λ (r : TableRow). is_exact_byte (second_part r)) table ≡ true
unfolding table is_byte
exact_bytes = refl

base_below : (b : Base) → base_number b < 8
base_below bases.BxSi = lit< tt
base_below bases.BxDi = lit< tt
base_below bases.BpSi = lit< tt
base_below bases.BpDi = lit< tt
base_below bases.Si = lit< tt
base_below bases.Di = lit< tt
base_below bases.Bp = lit< tt
base_below bases.Bx = lit< tt

rm_below : (part : PlacePart) (p : Place) → FitsPlace part p → rm_of p < 8
rm_below part places.Absent fits = lit< tt
rm_below place_parts.Any (places.Register n) fits = fits
rm_below place_parts.Memory (places.Register n) fits = absurd fits
rm_below part places.Direct fits = lit< tt
rm_below part (places.Base b) fits = base_below b
rm_below part (places.BaseByte b) fits = base_below b
rm_below part (places.BaseWord b) fits = base_below b

mod_below : (p : Place) → mod_of p < 4
mod_below places.Absent = lit< tt
mod_below (places.Register n) = lit< tt
mod_below places.Direct = lit< tt
mod_below (places.Base b) = lit< tt
mod_below (places.BaseByte b) = lit< tt
mod_below (places.BaseWord b) = lit< tt

reg_below : (part : RegPart) (named : PlacePart) (reg : ℕ) → HasDigit (seconds.Addressing part named) → FitsReg part reg → reg_number part reg < 8
reg_below (reg_parts.Digit digit) named reg digit_is fits = digit_is
reg_below reg_parts.Register named reg digit_is fits = fits
reg_below reg_parts.Segment named reg digit_is fits = omega (arith, fits)
reg_below reg_parts.SegmentNotCs named reg digit_is fits = let few = fits.0 in omega (arith, few)

addressing_below : (high reg rm : ℕ) → high < 4 → reg < 8 → rm < 8 → 64 * high + 8 * reg + rm < 256
addressing_below high reg rm one two three = omega (arith, one, two, three)

second_in : (s : Second) (reg : ℕ) (p : Place) → is_exact_byte s ≡ true → HasDigit s → FitsSecond s reg p → are_bytes (second_bytes s reg p) ≡ true
second_in seconds.Absent reg p exact digit fits = refl
second_in (seconds.Exactly byte) reg p exact digit fits = and_from (is_byte byte) true exact refl
second_in (seconds.Addressing part named) reg p exact digit fits =
    alone (addressing (reg_number part reg) p)
    (addressing_below (mod_of p) (reg_number part reg) (rm_of p) (mod_below p) (reg_below part named reg digit fits.0) (rm_below named p fits.1))

field_in : (field : Field) (number segment : ℕ) → FitsField field number segment → are_bytes (field_bytes field number segment) ≡ true
field_in fields.Absent number segment fits = refl
field_in fields.Byte number segment fits = alone number fits.0
field_in fields.Word number segment fits = word_bytes number fits.0
field_in fields.Far number segment fits =
    joined (number % 256 ∷ number / 256 ∷ []) (segment % 256 ∷ segment / 256 ∷ []) (word_bytes number fits.0) (word_bytes segment fits.1)

encoding_in : (f : Form) (v : Values) → IsForm f → FitsForm f v → are_bytes (encoding f v) ≡ true
unfolding encoding
encoding_in f v form fits =
    following (f.row.opcode + code_number (code_part f.row) f.code)
    (second_bytes (second_part f.row) f.reg f.place
    ++ (field_bytes (displacement_field f.place) v.displacement 0 ++ field_bytes (field_part f.row) v.number v.segment))
    (code_within f form)
    (joined (second_bytes (second_part f.row) f.reg f.place)
    (field_bytes (displacement_field f.place) v.displacement 0 ++ field_bytes (field_part f.row) v.number v.segment)
    (second_in (second_part f.row) f.reg f.place
    (each (λ (r : TableRow). is_exact_byte (second_part r)) table f.row exact_bytes form.row) (digit_within f.row form.row) form.second)
    (joined (field_bytes (displacement_field f.place) v.displacement 0) (field_bytes (field_part f.row) v.number v.segment)
    (field_in (displacement_field f.place) v.displacement 0 fits.displacement) (field_in (field_part f.row) v.number v.segment fits.number)))

code_in : (f : Form) (i : Written) (v : Values) → IsForm f → FitsForm f v → are_bytes (code_bytes f i v) ≡ true
code_in f i v form fits = joined (map prefix_byte (prefixes_of i)) (encoding f v) (prefixes_in (prefixes_of i)) (encoding_in f v form fits)

code_by : (f : Form) (i : Written) (o : Option Values) → IsForm f → ((v : Values) → o ≡ Some v → FitsForm f v)
    → are_bytes (option_map_or (code_bytes f i) o []) ≡ true
code_by f i (Some v) form fits = code_in f i v form (fits v refl)
code_by f i None form fits = refl

-- ---- rows
abbrev pub PlacesBytes : Names → LocatedLine → Type 0
PlacesBytes names row = (location : Location) → are_bytes (bytes_by names location row.size (content_of row.line.statement row.form)) ≡ true

instruction_in : (names : Names) (row : LocatedLine) (location : Location) (i : Written) → row.line.statement ≡ statements.Instruction i → HasPlace row i
    → are_bytes (bytes_by names location row.size (content_of (statements.Instruction i) row.form)) ≡ true
instruction_in names row location i is has =
    rw has.has_form
    (code_by has.form i (fields_of names location row.size has.form i) has.is_form
    (λ v found. fields_fit has.form (location.offset + row.size) (numbers_of names location.offset i.operands) v found))

statement_in : (names : Names) (row : LocatedLine) (location : Location) (s : Statement) → row.line.statement ≡ s → has_bytes_texts s ≡ true → IsClean row
    → are_bytes (bytes_by names location row.size (content_of s row.form)) ≡ true
statement_in names row location statements.Empty is texts there = refl
statement_in names row location (statements.Segment name n) is texts there = refl
statement_in names row location statements.Ends is texts there = refl
statement_in names row location (statements.Equ name n) is texts there = refl
statement_in names row location (statements.Org n) is texts there = refl
statement_in names row location (statements.Data width items) is texts there = data_in names location.offset width items texts
statement_in names row location (statements.Instruction i) is texts there = instruction_in names row location i is (has_place row i is there)

pub places_bytes : (names : Names) (row : LocatedLine) → IsClean row → PlacesBytes names row
places_bytes names row there location =
    statement_in names row location row.line.statement refl (texts_are_bytes there.text row.line there.clean.is_located_line.reads) there

pub all_place_bytes : (names : Names) (rows : List LocatedLine) → AllByRecursion IsClean rows → AllByRecursion (PlacesBytes names) rows
all_place_bytes names [] clean = tt
all_place_bytes names (row ∷ rows) clean = (places_bytes names row clean.0, all_place_bytes names rows clean.1)

-- ---- the image
image_from : (image : List (ℕ × ℕ)) (location : Location) (n : ℕ) (bytes : List ℕ)
    → IsImage image → list_all is_loadable (addresses_from location n (length bytes)) ≡ true → are_bytes bytes ≡ true
    → IsImage (with_entries image (bytes_from location n bytes))
image_from image location n [] is loadable all = is
image_from image location n (b ∷ bs) is loadable all =
    let first = and_parts (is_loadable (address_after location n)) (list_all is_loadable (addresses_from location (n + 1) (length bs))) loadable in
    let both = and_parts (is_byte b) (are_bytes bs) all in
    image_from (insert_entry nat_cmp image (address_after location n) b) location (n + 1) bs
    (still_image image (address_after location n) b is (can_load_at (address_after location n) first.0) (byte_below b both.0)) first.1 both.1

image_at : (names : Names) (is_taken : ℕ → Bool) (has_label : Bool) (image : List (ℕ × ℕ)) (here : Option Location) (size : ℕ) (content : Option Content)
    → IsImage image → late_fault names is_taken has_label here size content ≡ None → HasSize names here size content
    → ((location : Location) → are_bytes (bytes_by names location size content) ≡ true) → IsImage (with_entries image (placed_at names here size content))
image_at names is_taken has_label image None size content is none has_size all = is
image_at names is_taken has_label image (Some location) size content is none has_size all =
    let can = can_stand names is_taken has_label location size content none in
    image_from image location 0 (bytes_by names location size content) is
    (ap (λ (n : ℕ). list_all is_loadable (addresses_from location 0 n)) (has_size can.known can.fits) ∙ can.loadable) (all location)

image_by : (names : Names) (before : List LocatedLine) (row : LocatedLine) (image : List (ℕ × ℕ))
    → IsImage image → located_fault names before row ≡ None → LineHasSize names row → PlacesBytes names row → IsImage (with_entries image (placed_by names row))
unfolding placed_by
image_by names before row image is none sized all =
    image_at names (is_placed (placed_by_all names before)) _ image row.location row.size (content_of row.line.statement row.form) is none sized all

pub image_of_rows : (names : Names) (before rows : List LocatedLine) (image : List (ℕ × ℕ)) → IsImage image → AreFaultless names before rows
    → AllByRecursion (LineHasSize names) rows → AllByRecursion (PlacesBytes names) rows → IsImage (with_entries image (placed_by_all names rows))
image_of_rows names before [] image is free sized all = is
image_of_rows names before (row ∷ rows) image is free sized all =
    subst IsImage (sym
    (fold-append (λ (held : List (ℕ × ℕ)) (entry : ℕ × ℕ). insert_entry nat_cmp held entry.0 entry.1) image (placed_by names row) (placed_by_all names rows)))
    (image_of_rows names (before ++ row ∷ []) rows (with_entries image (placed_by names row))
    (image_by names before row image is free.0 sized.0 all.0) free.1 sized.1 all.1)
