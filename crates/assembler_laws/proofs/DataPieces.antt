-- Where the bytes of a piece stand among those of its data line.
use Rattle.std.proofs.Common.{◌≡◌, ◌∙◌, ℕ, ℤ, zero, suc, ◌+◌, ◌*◌, ◌<◌, ◌||◌, List, [], ◌∷◌, ◌++◌, length, get_or, refl}
use Rattle.std.proofs.Common.{sym, ap, subst, arith, Bool, true, false, Option, None, Some, is_some, append_assoc}
use Rattle.std.specs.Prelude.{sum_by}
use Rattle.std.specs.Option.{option_map_or}
use Rattle.std.specs.List.{flat_map, list_all, list_any}
use Rattle.std.proofs.lemmas.Bool.{and_parts, or_parts}
use Rattle.std.proofs.lemmas.Grind.{flat_map-append}
use Rattle.std.proofs.lemmas.List.{get_or_append_left, get_or-append-add, length-append}
use Rattle.std.proofs.lemmas.List.Folds.{list_all-append, list_any-append}
use Rattle.std.proofs.lemmas.List.Sums.{sum_by-cons}
use Rattle.assembler_syntax.specs.declared.statement.DataWidth.{DataWidth}
use Rattle.assembler_syntax.specs.declared.statement.Piece.{Piece}
use Rattle.assembler_syntax.specs.declared.statement.Piece.TheVariants.{Value, Text}
use Rattle.assembler_syntax.specs.declared.statement.Item.{Item}
use Rattle.assembler_meaning.specs.Data.{are_items_known, data_bytes, do_items_fit, does_piece_fit, is_piece_known, item_bytes}
use Rattle.assembler_meaning.specs.Data.{number_bytes, piece_bytes, piece_size, pieces_of, repeated, times_of, width_size}
use Rattle.assembler_meaning.specs.Values.{Names, value_of}
use Rattle.assembler_laws.specs.DataBytes.{item_size, StandsAfter}
use Rattle.assembler_laws.proofs.DataNumbers.{number_size}

-- ---- a part of some bytes, from a place on
pub record HasPart (bytes : List ℕ) (start : ℕ) (part : List ℕ) : Type 0 where
  pub front : List ℕ
  pub back : List ℕ
  pub are : bytes ≡ front ++ (part ++ back)
  pub counted : length front ≡ start

part_of_part : (bytes mid part : List ℕ) (s t : ℕ) → HasPart bytes s mid → HasPart mid t part → HasPart bytes (s + t) part
part_of_part bytes mid part s t outer inner =
    let regroup : (inner.front ++ (part ++ inner.back)) ++ outer.back ≡ inner.front ++ (part ++ (inner.back ++ outer.back)) =
    append_assoc inner.front (part ++ inner.back) outer.back ∙ ap (λ (bs : List ℕ). inner.front ++ bs) (append_assoc part inner.back outer.back) in
    let one : length outer.front ≡ s = outer.counted in
    let two : length inner.front ≡ t = inner.counted in
    record {
      front = outer.front ++ inner.front;
      back = inner.back ++ outer.back;
      are = outer.are ∙ ap (λ (bs : List ℕ). outer.front ++ (bs ++ outer.back)) inner.are
          ∙ (ap (λ (bs : List ℕ). outer.front ++ bs) regroup ∙ sym (append_assoc outer.front inner.front (part ++ (inner.back ++ outer.back))));
      counted = omega (arith, length-append outer.front inner.front, one, two);
    }

pub part_there : (bytes part : List ℕ) (start k d : ℕ) → HasPart bytes start part → k < length part → get_or bytes (start + k) d ≡ get_or part k d
part_there bytes part start k d has within =
    ap (λ (bs : List ℕ). get_or bs (start + k) d) has.are ∙ ap (λ (n : ℕ). get_or (has.front ++ (part ++ has.back)) (n + k) d) (sym has.counted)
    ∙ get_or-append-add has.front (part ++ has.back) k d ∙ get_or_append_left part has.back d k within

pub part_within : (bytes part : List ℕ) (start : ℕ) → HasPart bytes start part → start + length part < suc (length bytes)
part_within bytes part start has =
    let is : length bytes ≡ length has.front + (length part + length has.back) =
    ap length has.are ∙ length-append has.front (part ++ has.back) ∙ ap (λ (n : ℕ). length has.front + n) (length-append part has.back) in
    let at : length has.front ≡ start = has.counted in
    omega (arith, is, at)

-- what is made of each element, one after another
made_there : {X : Type 0} (f : X → List ℕ) (front : List X) (x : X) (back : List X) (n : ℕ) → length (flat_map f front) ≡ n
    → HasPart (flat_map f (front ++ x ∷ back)) n (f x)
made_there f front x back n long = record {
  front = flat_map f front;
  back = flat_map f back;
  are = flat_map-append f front (x ∷ back);
  counted = long;
}

-- ---- tests of each
front_all : {X : Type 0} (p : X → Bool) (front : List X) (x : X) (back : List X) → list_all p (front ++ x ∷ back) ≡ true → list_all p front ≡ true
front_all p front x back all = (and_parts (list_all p front) (list_all p (x ∷ back)) (sym (list_all-append p front (x ∷ back)) ∙ all)).0

pub there_all : {X : Type 0} (p : X → Bool) (front : List X) (x : X) (back : List X) → list_all p (front ++ x ∷ back) ≡ true → p x ≡ true
there_all p front x back all =
    (and_parts (p x) (list_all p back) (and_parts (list_all p front) (list_all p (x ∷ back)) (sym (list_all-append p front (x ∷ back)) ∙ all)).1).0

pub there_none : {X Y : Type 0} (f : X → List Y) (p : Y → Bool) (front : List X) (x : X) (back : List X) → list_any p (flat_map f (front ++ x ∷ back)) ≡ false
    → list_any p (f x) ≡ false
there_none f p front x back none =
    let parts : list_any p (flat_map f (front ++ x ∷ back)) ≡ (list_any p (flat_map f front) || (list_any p (f x) || list_any p (flat_map f back))) =
    ap (list_any p) (flat_map-append f front (x ∷ back)) ∙ list_any-append p (flat_map f front) (f x ++ flat_map f back)
    ∙ ap (λ (b : Bool). list_any p (flat_map f front) || b) (list_any-append p (f x) (flat_map f back)) in
    (or_parts (list_any p (f x)) (list_any p (flat_map f back))
    (or_parts (list_any p (flat_map f front)) (list_any p (f x) || list_any p (flat_map f back)) (sym parts ∙ none)).1).0

-- ---- how many bytes there are
value_size : (width : DataWidth) (value : Option ℤ) → is_some value ≡ true → length (option_map_or (number_bytes width) value []) ≡ width_size width
value_size width (Some n) known = number_size width n
value_size width None known = absurd (let never : false ≡ true = known in cc)

piece_count : (names : Names) (here : ℕ) (width : DataWidth) (piece : Piece) → is_piece_known names here piece ≡ true
    → length (piece_bytes names here width piece) ≡ piece_size width piece
piece_count names here width (Value terms) known = value_size width (value_of names here terms) known
piece_count names here width (Text text) known = refl

made_count : {X : Type 0} (f : X → List ℕ) (size : X → ℕ) (p : X → Bool) → ((x : X) → p x ≡ true → length (f x) ≡ size x)
    → (xs : List X) → list_all p xs ≡ true → length (flat_map f xs) ≡ sum_by size xs
made_count f size p each [] all = refl
made_count f size p each (x ∷ xs) all =
    let is = and_parts (p x) (list_all p xs) all in
    let first = each x is.0 in
    let rest = made_count f size p each xs is.1 in
    omega (arith, first, rest, length-append (f x) (flat_map f xs), sum_by-cons size x xs)

pieces_count : (names : Names) (here : ℕ) (width : DataWidth) (pieces : List Piece) → list_all (is_piece_known names here) pieces ≡ true
    → length (flat_map (piece_bytes names here width) pieces) ≡ sum_by (piece_size width) pieces
pieces_count names here width pieces all =
    made_count (piece_bytes names here width) (piece_size width) (is_piece_known names here) (piece_count names here width) pieces all

repeated_count : (n : ℕ) (bytes : List ℕ) → length (repeated n bytes) ≡ n * length bytes
repeated_count zero bytes = omega arith
repeated_count (suc n) bytes = omega (arith, repeated_count n bytes, length-append bytes (repeated n bytes))

abbrev is_item_known : Names → ℕ → Item → Bool
is_item_known names here item = list_all (is_piece_known names here) (pieces_of item)

item_count : (names : Names) (here : ℕ) (width : DataWidth) (item : Item) → is_item_known names here item ≡ true
    → length (item_bytes names here width item) ≡ item_size names width item
item_count names here width item all =
    repeated_count (times_of names item) (flat_map (piece_bytes names here width) (pieces_of item))
    ∙ ap (λ (n : ℕ). times_of names item * n) (pieces_count names here width (pieces_of item) all)

pub line_count : (names : Names) (here : ℕ) (width : DataWidth) (items : List Item) → are_items_known names here items ≡ true
    → length (data_bytes names here width items) ≡ sum_by (item_size names width) items
unfolding are_items_known data_bytes
line_count names here width items all =
    made_count (item_bytes names here width) (item_size names width) (is_item_known names here) (item_count names here width) items all

-- ---- a copy among the copies
copy_there : (bytes : List ℕ) (n copy : ℕ) → copy < n → HasPart (repeated n bytes) (copy * length bytes) bytes
copy_there bytes zero copy within = absurd (omega (arith, within))
copy_there bytes (suc n) zero within = record { front = []; back = repeated n bytes; are = refl; counted = omega arith }
copy_there bytes (suc n) (suc copy) within =
    let rest = copy_there bytes n copy (omega (arith, within)) in
    let at : length rest.front ≡ copy * length bytes = rest.counted in
    record {
      front = bytes ++ rest.front;
      back = rest.back;
      are = ap (λ (bs : List ℕ). bytes ++ bs) rest.are ∙ sym (append_assoc bytes rest.front (bytes ++ rest.back));
      counted = omega (arith, length-append bytes rest.front, at);
    }

-- ---- a piece among all bytes of the line
pub record IsInOrder (names : Names) (here : ℕ) (width : DataWidth) (piece : Piece) : Type 0 where
  pub known : is_piece_known names here piece ≡ true
  pub fits : does_piece_fit names here width piece ≡ true

pub in_order : (names : Names) (here : ℕ) (width : DataWidth) (items : List Item) (piece : Piece) (start : ℕ) → are_items_known names here items ≡ true
    → do_items_fit names here width items ≡ true → StandsAfter names width items piece start → IsInOrder names here width piece
unfolding are_items_known do_items_fit
in_order names here width items piece start known fits is =
    let item_known : is_item_known names here is.item ≡ true =
    there_all (is_item_known names here) is.before is.item is.after (sym (ap (list_all (is_item_known names here)) is.items_are) ∙ known) in
    let item_fits : list_all (does_piece_fit names here width) (pieces_of is.item) ≡ true =
    there_all (λ (item : Item). list_all (does_piece_fit names here width) (pieces_of item)) is.before is.item is.after
    (sym (ap (list_all (λ (item : Item). list_all (does_piece_fit names here width) (pieces_of item))) is.items_are) ∙ fits) in
    record {
      known = there_all (is_piece_known names here) is.front piece is.back (sym (ap (list_all (is_piece_known names here)) is.pieces_are) ∙ item_known);
      fits =
          there_all (does_piece_fit names here width) is.front piece is.back (sym (ap (list_all (does_piece_fit names here width)) is.pieces_are) ∙ item_fits);
    }

pub piece_there : (names : Names) (here : ℕ) (width : DataWidth) (items : List Item) (piece : Piece) (start : ℕ) → are_items_known names here items ≡ true
    → StandsAfter names width items piece start → HasPart (data_bytes names here width items) start (piece_bytes names here width piece)
unfolding are_items_known data_bytes
piece_there names here width items piece start known is =
    let all : list_all (is_item_known names here) (is.before ++ is.item ∷ is.after) ≡ true =
    sym (ap (list_all (is_item_known names here)) is.items_are) ∙ known in
    let item_known : is_item_known names here is.item ≡ true = there_all (is_item_known names here) is.before is.item is.after all in
    let once : List ℕ = flat_map (piece_bytes names here width) (pieces_of is.item) in
    let once_long : length once ≡ sum_by (piece_size width) (pieces_of is.item) = pieces_count names here width (pieces_of is.item) item_known in
    let in_line : HasPart (flat_map (item_bytes names here width) items) (sum_by (item_size names width) is.before) (item_bytes names here width is.item) =
    subst
    (λ (its : List Item). HasPart (flat_map (item_bytes names here width) its) (sum_by (item_size names width) is.before) (item_bytes names here width is.item))
    (sym is.items_are)
    (made_there (item_bytes names here width) is.before is.item is.after (sum_by (item_size names width) is.before)
    (made_count (item_bytes names here width) (item_size names width) (is_item_known names here) (item_count names here width) is.before
    (front_all (is_item_known names here) is.before is.item is.after all))) in
    let in_item : HasPart (item_bytes names here width is.item) (is.copy * length once) once = copy_there once (times_of names is.item) is.copy is.is_copy in
    let in_copy : HasPart once (sum_by (piece_size width) is.front) (piece_bytes names here width piece) =
    subst (λ (ps : List Piece). HasPart (flat_map (piece_bytes names here width) ps) (sum_by (piece_size width) is.front) (piece_bytes names here width piece))
    (sym is.pieces_are)
    (made_there (piece_bytes names here width) is.front piece is.back (sum_by (piece_size width) is.front)
    (pieces_count names here width is.front
    (front_all (is_piece_known names here) is.front piece is.back (sym (ap (list_all (is_piece_known names here)) is.pieces_are) ∙ item_known)))) in
    let following : HasPart (flat_map (item_bytes names here width) items)
    (sum_by (item_size names width) is.before + (is.copy * length once + sum_by (piece_size width) is.front)) (piece_bytes names here width piece) =
    part_of_part (flat_map (item_bytes names here width) items) (item_bytes names here width is.item) (piece_bytes names here width piece)
    (sum_by (item_size names width) is.before) (is.copy * length once + sum_by (piece_size width) is.front) in_line
    (part_of_part (item_bytes names here width is.item) once (piece_bytes names here width piece)
    (is.copy * length once) (sum_by (piece_size width) is.front) in_item in_copy) in
    let at : sum_by (item_size names width) is.before + (is.copy * length once + sum_by (piece_size width) is.front) ≡ start =
    ap (λ (n : ℕ). sum_by (item_size names width) is.before + (is.copy * n + sum_by (piece_size width) is.front)) once_long ∙ sym is.counted in
    subst (λ (n : ℕ). HasPart (flat_map (item_bytes names here width) items) n (piece_bytes names here width piece)) at following
