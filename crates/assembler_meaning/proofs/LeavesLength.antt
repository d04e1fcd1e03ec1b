-- A line places as many bytes as the first pass counts, though it knows fewer names.
use Rattle.std.proofs.Common.{◌≡◌, ℕ, ℤ, zero, suc, ◌*◌, Bool, true, false, ◌||◌, if◌then◌else◌, cond, List, [], ◌∷◌}
use Rattle.std.proofs.Common.{◌++◌, length, map, Option, None, Some, is_some, is_none, refl, sym, ap, ◌∙◌, arith}
use Rattle.std.specs.List.{list_all, list_any, flat_map}
use Rattle.std.specs.Map.{lookup}
use Rattle.std.specs.Option.{option_map, option_map_or}
use Rattle.std.proofs.lemmas.Bool.{and_parts, or_parts}
use Rattle.std.proofs.lemmas.List.{length-append, length-map}
use Rattle.std.proofs.lemmas.List.Folds.{list_any-append}
use Rattle.isa.specs.declared.form.Form.{Form}
use Rattle.isa.specs.declared.form.Values.{Values}
use Rattle.isa.specs.declared.layout.Field.{Field}
use Rattle.isa.specs.declared.layout.Field.TheVariants as fields
use Rattle.isa.specs.declared.layout.Second.{Second}
use Rattle.isa.specs.declared.layout.Second.TheVariants as seconds
use Rattle.isa.specs.declared.form.Place.{Place}
use Rattle.isa.specs.Encoding.{displacement_field, encoding, field_bytes, form_length, prefix_byte, second_bytes}
use Rattle.isa.specs.Layout.{field_part, field_size, second_part, second_size}
use Rattle.assembler_lexeme.specs.declared.name.Name.{Name}
use Rattle.assembler_syntax.specs.declared.expression.Atom.{Atom}
use Rattle.assembler_syntax.specs.declared.expression.Atom.TheVariants.{Number, Named, Here, SegmentOf}
use Rattle.assembler_syntax.specs.declared.expression.Term.{Term}
use Rattle.assembler_syntax.specs.declared.statement.Instruction.{Instruction}
use Rattle.assembler_syntax.specs.declared.statement.DataWidth.{DataWidth}
use Rattle.assembler_syntax.specs.declared.statement.DataWidth.TheVariants.{Byte, Word, Double}
use Rattle.assembler_syntax.specs.declared.statement.Piece.{Piece}
use Rattle.assembler_syntax.specs.declared.statement.Piece.TheVariants.{Value, Text}
use Rattle.assembler_syntax.specs.declared.statement.Item.{Item}
use Rattle.assembler_syntax.specs.declared.statement.Item.TheVariants.{Once, Repeated}
use Rattle.assembler_meaning.specs.declared.symbol.Symbol.{Symbol}
use Rattle.assembler_meaning.specs.Data.{are_items_known, counts_of, data_bytes, data_size, is_piece_known, item_bytes, item_counts, natural}
use Rattle.assembler_meaning.specs.Data.{number_bytes, piece_bytes, piece_size, pieces_of, pieces_size, repeated, times_of, width_size, is_unknown}
use Rattle.assembler_meaning.specs.Instructions.{instruction_size, prefixes_of, code_bytes}
use Rattle.assembler_meaning.specs.Values.{Names, added, atom_value, constant_of, is_constant_atom, is_constant_symbol}
use Rattle.assembler_meaning.specs.Values.{meaning, same_name, signed, symbol_value, term_value, value_of}

-- names that keep what these stand for
pub record Keeps (before all : Names) : Type 0 where
  pub stays : (name : Name) (symbol : Symbol) → meaning before name ≡ Some symbol → meaning all name ≡ Some symbol

found_by : (passes : Bool) (first symbol : Symbol) (rest whole : Option Symbol) → (rest ≡ Some symbol → whole ≡ Some symbol)
    → cond passes (Some first) rest ≡ Some symbol → cond passes (Some first) whole ≡ Some symbol
found_by true first symbol rest whole stays is = is
found_by false first symbol rest whole stays is = stays is

found_stays : (test : Name → Bool) (before more : Names) (symbol : Symbol) → lookup test before ≡ Some symbol
    → lookup test (before ++ more) ≡ Some symbol
found_stays test [] more symbol is = cc
found_stays test (entry ∷ before) more symbol is =
    found_by (test entry.0) entry.1 symbol (lookup test before) (lookup test (before ++ more)) (found_stays test before more symbol) is

-- names after these change nothing
pub keeps_after : (before more : Names) → Keeps before (before ++ more)
keeps_after before more = record { stays = λ name symbol is. found_stays (same_name name) before more symbol is }

-- a constant keeps its value
symbol_stays : (old new : Option Symbol) → ((symbol : Symbol) → old ≡ Some symbol → new ≡ Some symbol)
    → is_constant_symbol old ≡ true → new ≡ old
symbol_stays (Some symbol) new stays is = stays symbol refl
symbol_stays None new stays is = cc

atom_stays : (before all : Names) → Keeps before all → (atom : Atom) → is_constant_atom before atom ≡ true
    → (is_constant_atom all atom ≡ true) × (atom_value all 0 atom ≡ atom_value before 0 atom)
atom_stays before all keeps (Number n) is = (refl, refl)
atom_stays before all keeps (Named name) is =
    let same = symbol_stays (meaning before name) (meaning all name) (keeps.stays name) is in
    (ap is_constant_symbol same ∙ is, ap (option_map symbol_value) same)
atom_stays before all keeps Here is = (cc, cc)
atom_stays before all keeps (SegmentOf name) is = (cc, cc)

terms_stay : (before all : Names) → Keeps before all → (terms : List Term) → list_all (λ (term : Term). is_constant_atom before term.atom) terms ≡ true
    → (list_all (λ (term : Term). is_constant_atom all term.atom) terms ≡ true) × (value_of all 0 terms ≡ value_of before 0 terms)
unfolding value_of
terms_stay before all keeps [] is = (refl, refl)
terms_stay before all keeps (term ∷ terms) is =
    let parts = and_parts (is_constant_atom before term.atom) (list_all (λ (term : Term). is_constant_atom before term.atom) terms) is in
    let first = atom_stays before all keeps term.atom parts.0 in
    let rest = terms_stay before all keeps terms parts.1 in (
      rw (first.0, rest.0) refl,
      ap (λ v. added (option_map (signed term.is_negative) v) (value_of all 0 terms)) first.1 ∙ ap (added (term_value before 0 term)) rest.1,
    )

constant_by : (old new : Bool) (v w : Option ℤ) (n : ℤ) → (old ≡ true → (new ≡ true) × (w ≡ v)) → (if old then v else None) ≡ Some n
    → (if new then w else None) ≡ Some n
constant_by true new v w n same is = let now = same refl in rw (now.0, now.1) is
constant_by false new v w n same is = cc

pub constant_stays : (before all : Names) → Keeps before all → (terms : List Term) (n : ℤ) → constant_of before terms ≡ Some n
    → constant_of all terms ≡ Some n
unfolding constant_of
constant_stays before all keeps terms n is =
    constant_by (list_all (λ (term : Term). is_constant_atom before term.atom) terms)
    (list_all (λ (term : Term). is_constant_atom all term.atom) terms) (value_of before 0 terms) (value_of all 0 terms) n (terms_stay before all keeps terms) is

-- an item is there as many times with more names
number_stays : (old new : Option ℤ) → ((n : ℤ) → old ≡ Some n → new ≡ Some n) → (is_none old || false) ≡ false → new ≡ old
number_stays (Some n) new stays known = stays n refl
number_stays None new stays known = cc

times_stay : (before all : Names) → Keeps before all → (item : Item) → list_any (is_unknown before) (item_counts item) ≡ false
    → times_of all item ≡ times_of before item
times_stay before all keeps (Once piece) known = refl
times_stay before all keeps (Repeated count each) known =
    ap (λ (n : Option ℤ). option_map_or natural n 0)
    (number_stays (constant_of before count) (constant_of all count) (constant_stays before all keeps count) known)

-- how many bytes there are
number_length : (width : DataWidth) (n : ℤ) → length (number_bytes width n) ≡ width_size width
number_length Byte n = refl
number_length Word n = refl
number_length Double n = refl

value_length : (width : DataWidth) (value : Option ℤ) → is_some value ≡ true → length (option_map_or (number_bytes width) value []) ≡ width_size width
value_length width (Some n) known = number_length width n
value_length width None known = cc

piece_length : (names : Names) (here : ℕ) (width : DataWidth) (piece : Piece) → is_piece_known names here piece ≡ true
    → length (piece_bytes names here width piece) ≡ piece_size width piece
piece_length names here width (Value terms) known = value_length width (value_of names here terms) known
piece_length names here width (Text text) known = refl

pieces_length : (names : Names) (here : ℕ) (width : DataWidth) (pieces : List Piece) → list_all (is_piece_known names here) pieces ≡ true
    → length (flat_map (piece_bytes names here width) pieces) ≡ pieces_size width pieces
pieces_length names here width [] known = refl
pieces_length names here width (piece ∷ pieces) known =
    let parts = and_parts (is_piece_known names here piece) (list_all (is_piece_known names here) pieces) known in
    let first = piece_length names here width piece parts.0 in
    let rest = pieces_length names here width pieces parts.1 in
    omega (arith, first, rest, length-append (piece_bytes names here width piece) (flat_map (piece_bytes names here width) pieces))

repeated_length : (n : ℕ) (bytes : List ℕ) → length (repeated n bytes) ≡ n * length bytes
repeated_length zero bytes = omega arith
repeated_length (suc n) bytes = omega (arith, repeated_length n bytes, length-append bytes (repeated n bytes))

items_length : (before all : Names) → Keeps before all → (here : ℕ) (width : DataWidth) (items : List Item)
    → list_any (is_unknown before) (counts_of items) ≡ false → list_all (λ (item : Item). list_all (is_piece_known all here) (pieces_of item)) items ≡ true
    → length (flat_map (item_bytes all here width) items) ≡ data_size before width items
items_length before all keeps here width [] counts known = refl
items_length before all keeps here width (item ∷ items) counts known =
    let parts = and_parts (list_all (is_piece_known all here) (pieces_of item))
    (list_all (λ (item : Item). list_all (is_piece_known all here) (pieces_of item)) items) known in
    let rights = or_parts (list_any (is_unknown before) (item_counts item)) (list_any (is_unknown before) (counts_of items))
    (sym (list_any-append (is_unknown before) (item_counts item) (counts_of items)) ∙ counts) in
    let times = times_stay before all keeps item rights.0 in
    let each = pieces_length all here width (pieces_of item) parts.0 in
    let first : length (item_bytes all here width item) ≡ times_of before item * pieces_size width (pieces_of item) =
    repeated_length (times_of all item) (flat_map (piece_bytes all here width) (pieces_of item))
    ∙ ap (λ (n : ℕ). n * length (flat_map (piece_bytes all here width) (pieces_of item))) times ∙ ap (λ (n : ℕ). times_of before item * n) each in
    let rest = items_length before all keeps here width items rights.1 parts.1 in
    omega (arith, first, rest, length-append (item_bytes all here width item) (flat_map (item_bytes all here width) items))

-- A data line: by the names `before` the counts are constants, and by the names `all`, which keep what those stand for,
-- each name is known.
pub data_length : (before all : Names) → Keeps before all → (here : ℕ) (width : DataWidth) (items : List Item)
    → list_any (is_unknown before) (counts_of items) ≡ false → are_items_known all here items ≡ true
    → length (data_bytes all here width items) ≡ data_size before width items
unfolding are_items_known data_bytes
data_length before all keeps here width items counts known = items_length before all keeps here width items counts known

second_length : (second : Second) (reg : ℕ) (place : Place) → length (second_bytes second reg place) ≡ second_size second
second_length seconds.Absent reg place = refl
second_length (seconds.Exactly byte) reg place = refl
second_length (seconds.Addressing part named) reg place = refl

field_length : (field : Field) (number segment : ℕ) → length (field_bytes field number segment) ≡ field_size field
field_length fields.Absent number segment = refl
field_length fields.Byte number segment = refl
field_length fields.Word number segment = refl
field_length fields.Far number segment = refl

form_bytes : (f : Form) (v : Values) → length (encoding f v) ≡ form_length f
unfolding encoding form_length
form_bytes f v =
    let second = second_bytes (second_part f.row) f.reg f.place in
    let displacement = field_bytes (displacement_field f.place) v.displacement 0 in
    let number = field_bytes (field_part f.row) v.number v.segment in
    omega (
      arith,
      length-append second (displacement ++ number),
      length-append displacement number,
      second_length (second_part f.row) f.reg f.place,
      field_length (displacement_field f.place) v.displacement 0,
      field_length (field_part f.row) v.number v.segment,
    )

-- an instruction
pub code_length : (f : Form) (i : Instruction) (v : Values) → length (code_bytes f i v) ≡ instruction_size f i
code_length f i v =
    omega (arith, length-append (map prefix_byte (prefixes_of i)) (encoding f v), length-map (prefixes_of i) prefix_byte, form_bytes f v)
