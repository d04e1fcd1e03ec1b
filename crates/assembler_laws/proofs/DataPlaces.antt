-- The image has the bytes of each data line, in the order of the line.
use Rattle.std.proofs.Common.{◌≡◌, ◌∙◌, ℕ, ℤ, zero, suc, pos, ◌+◌, ◌*◌, ◌<◌, List, [], ◌∷◌, ◌++◌, length, get_or, take, drop, map}
use Rattle.std.proofs.Common.{Contains, refl, sym, ap, subst, arith, Bool, true, false, not, Option, None, Some, is_some, is_none}
use Rattle.std.specs.Prelude.{negsuc, sum_by}
use Rattle.std.specs.Option.{option_map_or}
use Rattle.std.specs.List.{AllByRecursion, list_any}
use Rattle.std.proofs.lemmas.Bool.{or_parts}
use Rattle.std.proofs.lemmas.Grind.{flat_map-append}
use Rattle.std.proofs.lemmas.List.{drop_more, length-take-le, map-append, take-append-drop}
use Rattle.std.proofs.lemmas.List.Elements.{Contains-append_right}
use Rattle.std.proofs.lemmas.List.Sums.{sum_by-cons}
use Rattle.board_types.specs.Image.{image_byte}
use Rattle.assembler_syntax.specs.declared.expression.Term.{Term}
use Rattle.assembler_syntax.specs.declared.statement.Line.{Line}
use Rattle.assembler_syntax.specs.declared.statement.DataWidth.{DataWidth}
use Rattle.assembler_syntax.specs.declared.statement.Piece.{Piece}
use Rattle.assembler_syntax.specs.declared.statement.Piece.TheVariants.{Value, Text}
use Rattle.assembler_syntax.specs.declared.statement.Item.{Item}
use Rattle.assembler_syntax.specs.declared.statement.Item.TheVariants.{Once, Repeated}
use Rattle.assembler_syntax.specs.declared.statement.Statement.{Statement}
use Rattle.assembler_syntax.specs.declared.statement.Statement.TheVariants.{Data}
use Rattle.board_types.specs.TextLines.{text_lines}
use Rattle.assembler_meaning.specs.declared.symbol.Location.{Location}
use Rattle.assembler_meaning.specs.Data.{are_items_known, counts_of, data_bytes, do_items_fit, fits_width, is_other, is_unknown}
use Rattle.assembler_meaning.specs.Data.{is_wrong_count, item_counts, natural, number_bytes, piece_bytes, width_size}
use Rattle.assembler_meaning.specs.Values.{Names, constant_of, value_of}
use Rattle.assembler_meaning.proofs.LeavesLength.{constant_stays, keeps_after, Keeps}
use Rattle.assembler.specs.Gives.{Fits, FitsAt}
use Rattle.assembler.specs.Placement.{address_after, bytes_by, bytes_from, content_of, has_wrong_number, lacks_name, placed_by}
use Rattle.assembler.specs.LocatedLines.{LocatedLine, AreLocatedLines, has_unknown_constant, has_wrong_constant, names_of, stands_outside, wants_segment}
use Rattle.assembler.proofs.AnsweringPlaces.{clean_there, fits_there, placed_there as bytes_placed, line_length, CleanThere}
use Rattle.assembler_laws.specs.DataBytes.{DataGoesLowByteFirst, HasCount, HasPiece, HasText, HasValue, PlacesData, StandsAfter, item_size}
use Rattle.assembler_laws.proofs.CleanRows.{placed_there}
use Rattle.assembler_laws.proofs.DataNumbers.{bytes_are, is_number, number_of, number_size}
use Rattle.assembler_laws.proofs.DataPieces.{in_order, line_count, part_there, part_within, piece_there, there_none, HasPart, IsInOrder}
use Rattle.assembler_laws.proofs.Prefixes.{has_none, HasNone}

-- ---- lists
pub record IsSplit {X : Type 0} (xs : List X) (x : X) : Type 0 where
  pub front : List X
  pub back : List X
  pub is : xs ≡ front ++ x ∷ back

split_at : {X : Type 0} (xs : List X) (x : X) (k : ℕ) → k < length xs → get_or xs k x ≡ x → IsSplit xs x
split_at [] x k within is = absurd (omega (arith, within))
split_at (y ∷ ys) x zero within is = record { front = []; back = ys; is = ap (λ z. z ∷ ys) is }
split_at (y ∷ ys) x (suc k) within is =
    let rest = split_at ys x k (omega (arith, within)) is in
    record { front = y ∷ rest.front; back = rest.back; is = ap (λ zs. y ∷ zs) rest.is }

pub split_there : {X : Type 0} (xs : List X) (x : X) → Contains xs x → IsSplit xs x
split_there xs x there = split_at xs x there.0 there.1 there.2

-- ---- bytes at their addresses
from_there : (location : Location) (n : ℕ) (bytes : List ℕ) (k m d : ℕ) → k < length bytes → m ≡ n + k
    → Contains (bytes_from location n bytes) (address_after location m, get_or bytes k d)
from_there location n [] k m d within at = absurd (omega (arith, within))
from_there location n (b ∷ bs) zero m d within at =
    let same : n ≡ m = omega (arith, at) in (0, omega arith, ap (λ (p : ℕ). (address_after location p, b)) same)
from_there location n (b ∷ bs) (suc k) m d within at =
    Contains-append_right ((address_after location n, b) ∷ []) (bytes_from location (n + 1) bs) (address_after location m, get_or bs k d)
    (from_there location (n + 1) bs k m d (omega (arith, within)) (omega (arith, at)))

-- the image has these bytes from a place on
abbrev HasBytes : List (ℕ × ℕ) → Location → List ℕ → Type 0
HasBytes image location bytes = (k d : ℕ) → k < length bytes → image_byte image (address_after location k) ≡ Some (get_or bytes k d)

has_part : (image : List (ℕ × ℕ)) (location : Location) (bytes part : List ℕ) (start : ℕ) → HasBytes image location bytes → HasPart bytes start part
    → HasText image location start part
has_part image location bytes part start has is k d within =
    let inside : start + k < length bytes = (let whole = part_within bytes part start is in omega (arith, whole, within)) in
    has (start + k) d inside ∙ ap Some (part_there bytes part start k d is within)

-- ---- a piece
some_value : (width : DataWidth) (o : Option ℤ) → is_some o ≡ true → option_map_or (fits_width width) o true ≡ true
    → (value : ℤ) × (o ≡ Some value) × (fits_width width value ≡ true)
some_value width (Some value) known fits = (value, refl, fits)
some_value width None known fits = absurd (let never : false ≡ true = known in cc)

has_value : (names : Names) (image : List (ℕ × ℕ)) (location : Location) (start : ℕ) (width : DataWidth) (terms : List Term)
    → IsInOrder names location.offset width (Value terms) → HasText image location start (piece_bytes names location.offset width (Value terms))
    → HasValue names image location start (width_size width) terms
has_value names image location start width terms in_its_order has =
    let is = some_value width (value_of names location.offset terms) in_its_order.known in_its_order.fits in
    let bytes : piece_bytes names location.offset width (Value terms) ≡ number_bytes width is.0 =
    ap (λ (o : Option ℤ). option_map_or (number_bytes width) o []) is.1 in
    let whole = is_number width is.0 is.2 in (
      is.0,
      is.1,
      record {
        number = number_of width is.0;
        below = whole.below;
        is_value = whole.is_value;
        bytes = λ k within.
            subst (λ (bs : List ℕ). HasText image location start bs) bytes has k 0 (subst (λ (n : ℕ). k < n) (sym (number_size width is.0)) within)
            ∙ ap Some (bytes_are width is.0 whole k 0 within);
      },
    )

has_piece : (names : Names) (image : List (ℕ × ℕ)) (location : Location) (start : ℕ) (width : DataWidth) (piece : Piece)
    → IsInOrder names location.offset width piece → HasText image location start (piece_bytes names location.offset width piece)
    → HasPiece names image location start width piece
has_piece names image location start width (Value terms) in_its_order has = has_value names image location start width terms in_its_order has
has_piece names image location start width (Text text) in_its_order has = has

-- ---- how many times an item stands there
count_is : (o : Option ℤ) → is_none o ≡ false → is_other (pos 1) (pos 65535) o ≡ false → o ≡ Some (pos (option_map_or natural o 0))
count_is (Some (pos n)) known fits = refl
count_is (Some (negsuc n)) known fits = absurd (let never : true ≡ false = fits in cc)
count_is None known fits = absurd (let never : true ≡ false = known in cc)

count_stays : (known all : Option ℤ) → ((n : ℤ) → known ≡ Some n → all ≡ Some n) → known ≡ Some (pos (option_map_or natural known 0))
    → all ≡ Some (pos (option_map_or natural all 0))
count_stays known all stays is =
    let now : all ≡ Some (pos (option_map_or natural known 0)) = stays (pos (option_map_or natural known 0)) is in
    now ∙ ap (λ (o : Option ℤ). Some (pos (option_map_or natural o 0))) (sym now)

has_count : (known all : Names) → Keeps known all → (item : Item) → list_any (is_wrong_count known) (item_counts item) ≡ false
    → list_any (is_unknown known) (item_counts item) ≡ false → HasCount all item
has_count known all keeps (Once piece) wrong unknown = refl
has_count known all keeps (Repeated count each) wrong unknown =
    count_stays (constant_of known count) (constant_of all count) (constant_stays known all keeps count)
    (count_is (constant_of known count) (or_parts (is_unknown known count) false unknown).0 (or_parts (is_wrong_count known count) false wrong).0)

-- ---- lines of numbers alone
abbrev number_item : List Term → Item
number_item terms = Once (Value terms)

numbers_size : (names : Names) (width : DataWidth) (values : List (List Term))
    → sum_by (item_size names width) (map number_item values) ≡ length values * width_size width
numbers_size names width [] = omega arith
numbers_size names width (terms ∷ values) =
    let rest = numbers_size names width values in
    let first : item_size names width (number_item terms) ≡ width_size width = omega arith in
    omega (arith, rest, first, sum_by-cons (item_size names width) (number_item terms) (map number_item values))

number_after : (names : Names) (width : DataWidth) (items : List Item) (values : List (List Term)) (i : ℕ) (d : List Term) → i < length values
    → items ≡ map number_item values → StandsAfter names width items (Value (get_or values i d)) (i * width_size width)
number_after names width items values i d within is =
    let parts : values ≡ take i values ++ get_or values i d ∷ drop (i + 1) values =
    sym (take-append-drop i values) ∙ ap (λ vs. take i values ++ vs) (drop_more values i d within) in
    let count : length (take i values) ≡ i = length-take-le i values (omega (arith, within)) in
    let size : sum_by (item_size names width) (map number_item (take i values)) ≡ i * width_size width =
    numbers_size names width (take i values) ∙ ap (λ n. n * width_size width) count in
    record {
      before = map number_item (take i values);
      item = number_item (get_or values i d);
      after = map number_item (drop (i + 1) values);
      items_are = is ∙ ap (map number_item) parts ∙ map-append number_item (take i values) (get_or values i d ∷ drop (i + 1) values);
      copy = 0;
      is_copy = omega arith;
      front = [];
      back = [];
      pieces_are = refl;
      counted = omega (arith, size);
    }

text_after : (names : Names) (width : DataWidth) (items : List Item) (text : List ℕ)
    → items ≡ Once (Text text) ∷ [] → StandsAfter names width items (Text text) 0
text_after names width items text is = record {
  before = [];
  item = Once (Text text);
  after = [];
  items_are = is;
  copy = 0;
  is_copy = omega arith;
  front = [];
  back = [];
  pieces_are = refl;
  counted = omega arith;
}

copy_after : (names : Names) (width : DataWidth) (items : List Item) (count terms : List Term) (n i : ℕ) → items ≡ Repeated count (Value terms ∷ []) ∷ []
    → constant_of names count ≡ Some (pos n) → i < n → StandsAfter names width items (Value terms) (i * width_size width)
copy_after names width items count terms n i is times within = record {
  before = [];
  item = Repeated count (Value terms ∷ []);
  after = [];
  items_are = is;
  copy = i;
  is_copy = subst (λ (o : Option ℤ). i < option_map_or natural o 0) (sym times) within;
  front = [];
  back = [];
  pieces_are = refl;
  counted = omega arith;
}

-- ---- the law
placed_in : (here : Option Location) (line : Line) → wants_segment line.statement ≡ true → stands_outside here line ≡ false
    → (location : Location) × (here ≡ Some location)
placed_in (Some location) line wants placed = (location, refl)
placed_in None line wants placed =
    absurd (let never : true ≡ false = sym wants ∙ (or_parts (is_some line.label) (wants_segment line.statement) placed).1 in cc)

not_false : (b : Bool) → not b ≡ false → b ≡ true
not_false true is = refl
not_false false is = absurd (let never : true ≡ false = is in cc)

places_data : (names : Names) (image : List (ℕ × ℕ)) (row : LocatedLine) (width : DataWidth) (items : List Item) (location : Location)
    → row.location ≡ Some location → are_items_known names location.offset items ≡ true → do_items_fit names location.offset width items ≡ true
    → ((item : Item) → Contains items item → HasCount names item) → length (data_bytes names location.offset width items) ≡ row.size
    → HasBytes image location (data_bytes names location.offset width items) → PlacesData names image row width items
places_data names image row width items location at known fits counts long has =
    let each : (piece : Piece) (start : ℕ) → StandsAfter names width items piece start → HasPiece names image location start width piece = λ piece start is.
    has_piece names image location start width piece (in_order names location.offset width items piece start known fits is)
    (has_part image location (data_bytes names location.offset width items) (piece_bytes names location.offset width piece) start has
    (piece_there names location.offset width items piece start known is)) in
    record {
      location = location;
      has_place = at;
      counts = counts;
      size = sym long ∙ line_count names location.offset width items known;
      pieces = each;
      numbers = λ values is i d within. each (Value (get_or values i d)) (i * width_size width) (number_after names width items values i d within is);
      text = λ text is. each (Text text) 0 (text_after names width items text is);
      copies = λ count terms n is times i within. each (Value terms) (i * width_size width) (copy_after names width items count terms n i is times within);
    }

counts_there : (front : List LocatedLine) (row : LocatedLine) (back : List LocatedLine) (width : DataWidth) (items : List Item)
    → row.line.statement ≡ Data width items → HasNone (names_of front) row.location row.line row.form → (item : Item) → Contains items item
    → HasCount (names_of (front ++ row ∷ back)) item
counts_there front row back width items is none item there =
    let known : Names = names_of front in
    let keeps : Keeps known (names_of (front ++ row ∷ back)) =
    subst (Keeps known) (sym (flat_map-append (λ (r : LocatedLine). r.names) front (row ∷ back))) (keeps_after known (names_of (row ∷ back))) in
    let split = split_there items item there in
    let wrong : list_any (is_wrong_count known) (counts_of items) ≡ false = sym (ap (has_wrong_constant known) is) ∙ none.wrong in
    let unknown : list_any (is_unknown known) (counts_of items) ≡ false = sym (ap (has_unknown_constant known) is) ∙ none.unknown in
    has_count known (names_of (front ++ row ∷ back)) keeps item
    (there_none item_counts (is_wrong_count known) split.front item split.back
    (subst (λ (its : List Item). list_any (is_wrong_count known) (counts_of its) ≡ false) split.is wrong))
    (there_none item_counts (is_unknown known) split.front item split.back
    (subst (λ (its : List Item). list_any (is_unknown known) (counts_of its) ≡ false) split.is unknown))

pub data_goes_low_byte_first : DataGoesLowByteFirst
data_goes_low_byte_first source image gives row width items within is =
    let names : Names = names_of gives.located_lines in
    let split = split_there gives.located_lines row within in
    let there : CleanThere split.front row =
    clean_there [] (text_lines source) split.front row split.back (subst (AreLocatedLines [] (text_lines source)) split.is gives.are_located_lines) in
    let none : HasNone (names_of split.front) row.location row.line row.form =
    has_none (names_of split.front) row.location row.line row.form there.clean.clean in
    let place = placed_in row.location row.line (ap wants_segment is) none.outside in
    let location : Location = place.0 in
    let fits : FitsAt names row location =
    fits_there names split.front row split.back (subst (AllByRecursion (Fits names)) split.is gives.placed.fit) location place.1 in
    let bytes : List ℕ = data_bytes names location.offset width items in
    let placed : placed_by names row ≡ bytes_from location 0 bytes =
    bytes_placed names row location place.1 ∙ ap (λ (s : Statement). bytes_from location 0 (bytes_by names location row.size (content_of s row.form))) is in
    places_data names image row width items location place.1
    (not_false (are_items_known names location.offset items) (sym (ap (λ (s : Statement). lacks_name names location (content_of s row.form)) is) ∙ fits.known))
    (not_false (do_items_fit names location.offset width items)
    (sym (ap (λ (s : Statement). has_wrong_number names location row.size (content_of s row.form)) is) ∙ fits.fits))
    (subst (λ (rows : List LocatedLine). (item : Item) → Contains items item → HasCount (names_of rows) item) (sym split.is)
    (counts_there split.front row split.back width items is none))
    (ap (λ (s : Statement). length (bytes_by names location row.size (content_of s row.form))) (sym is)
    ∙ subst (λ (rows : List LocatedLine). length (bytes_by (names_of rows) location row.size (content_of row.line.statement row.form)) ≡ row.size)
    (sym split.is)
    (line_length split.front row split.back there.text location there.clean
    (subst (λ (rows : List LocatedLine). FitsAt (names_of rows) row location) split.is fits)))
    (λ k d inside.
    (gives.placed.bytes (address_after location k) (get_or bytes k d)).1
    (placed_there (placed_by names) gives.located_lines row (address_after location k, get_or bytes k d) within
    (subst (λ es. Contains es (address_after location k, get_or bytes k d)) (sym placed) (from_there location 0 bytes k k d inside (omega arith)))))
