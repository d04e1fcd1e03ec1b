-- A row whose bytes the image holds has no fault of placing.
use Rattle.std.proofs.Common.{◌≡◌, ◌∙◌, ℕ, ◌+◌, ◌<◌, ◌≤◌, ◌==◌, List, [], ◌∷◌, ◌++◌, length, refl, sym, ap, subst, arith, inl, inr}
use Rattle.std.proofs.Common.{Bool, true, false, ◌||◌, Option, None, Some, is_some, nat_lt, append_assoc, append-nil, Contains}
use Rattle.std.specs.List.{AllByRecursion, IsDistinct, list_all, list_any}
use Rattle.std.specs.Map.{keys_of}
use Rattle.std.specs.Ordering.{nat_cmp}
use Rattle.std.specs.BTreeMap.{is_at}
use Rattle.std.proofs.lemmas.Bool.{and_from, cases_lt, or_from}
use Rattle.std.proofs.lemmas.Bool.Decides.{nat_tests}
use Rattle.std.proofs.lemmas.Grind.{flat_map-append}
use Rattle.std.proofs.lemmas.List.Elements.{All-contains, Contains-append_left, Contains-append_right}
use Rattle.std.proofs.lemmas.Map.Views.{Contains-keys_from_lookup}
use Rattle.board_types.specs.Image.{IsImage, IsLoadable, image_byte}
use Rattle.assembler.specs.declared.kept_line.Content.{Content}
use Rattle.assembler_meaning.specs.declared.symbol.Location.{Location}
use Rattle.assembler_meaning.specs.Values.{Names}
use Rattle.assembler.specs.Placement.{content_of, bytes_by, bytes_from, address_after, addresses_from, placed_at, placed_by, placed_by_all}
use Rattle.assembler.specs.Placement.{lacks_name, has_wrong_number, is_past_end, is_loadable, is_placed, fault_at, late_fault, located_fault}
use Rattle.assembler.specs.LocatedLines.{LocatedLine, AreLocatedLines, IsCleanLine, names_of}
use Rattle.assembler.specs.Gives.{ArePlaced, Fits, FitsAt}
use Rattle.assembler.proofs.LineLength.{keeps_size}

-- addresses that are apart: none of the later ones is one of the earlier ones
abbrev pub NoneIn : List ℕ → List ℕ → Type 0
NoneIn xs ys = AllByRecursion (λ (y : ℕ). list_any (λ (a : ℕ). a == y) xs ≡ false) ys

none_in_nothing : (ys : List ℕ) → NoneIn [] ys
none_in_nothing [] = tt
none_in_nothing (y ∷ ys) = (refl, none_in_nothing ys)

none_in_more : (x : ℕ) (xs ys : List ℕ) → AllByRecursion (λ (y : ℕ). (x == y) ≡ false) ys → NoneIn xs ys → NoneIn (x ∷ xs) ys
none_in_more x xs [] apart none = tt
none_in_more x xs (y ∷ ys) apart none =
    (or_from (x == y) (list_any (λ (a : ℕ). a == y) xs) apart.0 none.0, none_in_more x xs ys apart.1 none.1)

all_after : (x : ℕ) (xs ys : List ℕ) → AllByRecursion (λ (y : ℕ). (x == y) ≡ false) (xs ++ ys) → AllByRecursion (λ (y : ℕ). (x == y) ≡ false) ys
all_after x [] ys apart = apart
all_after x (y ∷ xs) ys apart = all_after x xs ys apart.1

none_before : (xs ys : List ℕ) → IsDistinct (λ (a b : ℕ). a == b) (xs ++ ys) → NoneIn xs ys
unfolding IsDistinct
none_before [] ys apart = none_in_nothing ys
none_before (x ∷ xs) ys apart = none_in_more x xs ys (all_after x xs ys apart.0) (none_before xs ys apart.1)

none_in_front : (xs ys zs : List ℕ) → NoneIn xs (ys ++ zs) → NoneIn xs ys
none_in_front xs [] zs none = tt
none_in_front xs (y ∷ ys) zs none = (none.0, none_in_front xs ys zs none.1)

keys_append : (xs ys : List (ℕ × ℕ)) → keys_of (xs ++ ys) ≡ keys_of xs ++ keys_of ys
keys_append [] ys = refl
keys_append (x ∷ xs) ys = ap (λ (ks : List ℕ). x.0 ∷ ks) (keys_append xs ys)

-- the addresses alone say whether a byte was placed at one
placed_is : (placed : List (ℕ × ℕ)) (address : ℕ) → is_placed placed address ≡ list_any (λ (a : ℕ). a == address) (keys_of placed)
placed_is [] address = refl
placed_is (entry ∷ placed) address = ap (λ (b : Bool). (entry.0 == address) || b) (placed_is placed address)

none_taken : (placed : List (ℕ × ℕ)) (ys : List ℕ) → NoneIn (keys_of placed) ys → list_any (is_placed placed) ys ≡ false
none_taken placed [] none = refl
none_taken placed (y ∷ ys) none = or_from (is_placed placed y) (list_any (is_placed placed) ys) (placed_is placed y ∙ none.0) (none_taken placed ys none.1)

-- the addresses of bytes
addresses_are : (location : Location) (n : ℕ) (bytes : List ℕ) → keys_of (bytes_from location n bytes) ≡ addresses_from location n (length bytes)
addresses_are location n [] = refl
addresses_are location n (b ∷ bs) = ap (λ (ks : List ℕ). address_after location n ∷ ks) (addresses_are location (n + 1) bs)

-- the image can be loaded at its addresses
lt_yes : (a b : ℕ) → a < b → nat_lt a b ≡ true
lt_yes a b h = grind (arith, nat_tests)

lt_not : (a b : ℕ) → b ≤ a → nat_lt a b ≡ false
lt_not a b h = grind (arith, nat_tests)

eq_not : (a b : ℕ) → b < a → (a == b) ≡ false
eq_not a b h = grind (arith, nat_tests)

never_true : false ≡ true → ⊥
never_true is = cc

at_same : (a b : ℕ) → is_at (nat_cmp a) b ≡ true → a ≡ b
at_same a b is = elim (cases_lt a b) [
  | inl below ↦ absurd (never_true (rw (lt_yes a b below) at is))
  | inr not_below ↦ elim (cases_lt b a) [
    | inl above ↦ absurd (never_true (rw (lt_not a b not_below, eq_not a b above) at is))
    | inr not_above ↦ omega arith
  ]
]

loadable_is : (a : ℕ) → IsLoadable a → is_loadable a ≡ true
loadable_is a is = grind (arith, nat_tests)

loadable_in : (image : List (ℕ × ℕ)) (address byte : ℕ) → IsImage image → image_byte image address ≡ Some byte → is_loadable address ≡ true
loadable_in image address byte is at =
    loadable_is address (All-contains IsLoadable (keys_of image) address is.loadable
    (Contains-keys_from_lookup {eq = λ (a b : ℕ). is_at (nat_cmp a) b} at_same address image (ap (λ (o : Option ℕ). is_some o) at)))

all_loadable : (placed : List (ℕ × ℕ)) → ((address byte : ℕ) → Contains placed (address, byte) → is_loadable address ≡ true)
    → list_all is_loadable (keys_of placed) ≡ true
all_loadable [] each = refl
all_loadable (entry ∷ placed) each =
    and_from (is_loadable entry.0) (list_all is_loadable (keys_of placed)) (each entry.0 entry.1 (0, omega arith, refl))
    (all_loadable placed (λ address byte there. each address byte (Contains-append_right (entry ∷ []) placed (address, byte) there)))

-- what a list of rows places is what the rows before one place, what that row places, and what the rows after it place
pub placed_parts : (names : Names) (front : List LocatedLine) (located : LocatedLine) (back : List LocatedLine)
    → placed_by_all names (front ++ located ∷ back) ≡ placed_by_all names front ++ (placed_by names located ++ placed_by_all names back)
placed_parts names front located back = flat_map-append (placed_by names) front (located ∷ back)

pub fits_there : (names : Names) (front : List LocatedLine) (located : LocatedLine) (back : List LocatedLine)
    → AllByRecursion (Fits names) (front ++ located ∷ back) → Fits names located
fits_there names [] located back fits = fits.0
fits_there names (first ∷ front) located back fits = fits_there names front located back fits.1

-- a row that the texts make is clean after the rows before it
pub record CleanThere (before : List LocatedLine) (located : LocatedLine) : Type 0 where
  pub text : List ℕ
  pub clean : IsCleanLine before text located

pub clean_there : (before : List LocatedLine) (texts : List (List ℕ)) (front : List LocatedLine) (located : LocatedLine) (back : List LocatedLine)
    → AreLocatedLines before texts (front ++ located ∷ back) → CleanThere (before ++ front) located
clean_there before [] [] located back are = absurd are
clean_there before (text ∷ texts) [] located back are = record {
  text = text;
  clean = subst (λ (rs : List LocatedLine). IsCleanLine rs text located) (sym (append-nil before)) are.0;
}
clean_there before [] (first ∷ front) located back are = absurd are
clean_there before (text ∷ texts) (first ∷ front) located back are =
    subst (λ (rs : List LocatedLine). CleanThere rs located) (append_assoc before (first ∷ []) front)
    (clean_there (before ++ first ∷ []) texts front located back are.1)

no_fault_at : (names : Names) (is_taken : ℕ → Bool) (has_label : Bool) (location : Location) (size : ℕ) (content : Option Content)
    → lacks_name names location content ≡ false → has_wrong_number names location size content ≡ false → is_past_end location size has_label ≡ false
    → list_any is_taken (addresses_from location 0 size) ≡ false → list_all is_loadable (addresses_from location 0 size) ≡ true
    → fault_at names is_taken has_label location size content ≡ None
no_fault_at names is_taken has_label location size content known fits within free loadable = rw (known, fits, within, free, loadable) refl

-- how a row's bytes stand in an image
pub record StandsIn (names : Names) (front : List LocatedLine) (located : LocatedLine) (location : Location) : Type 0 where
  pub length_is : length (bytes_by names location located.size (content_of located.line.statement located.form)) ≡ located.size
  pub free : list_any (is_placed (placed_by_all names front)) (addresses_from location 0 located.size) ≡ false
  pub loadable : list_all is_loadable (addresses_from location 0 located.size) ≡ true

pub placed_there : (names : Names) (located : LocatedLine) (location : Location) → located.location ≡ Some location
    → placed_by names located ≡ bytes_from location 0 (bytes_by names location located.size (content_of located.line.statement located.form))
unfolding placed_by
placed_there names located location at = ap (λ (o : Option Location). placed_at names o located.size (content_of located.line.statement located.form)) at

names_split : (front : List LocatedLine) (located : LocatedLine) (back : List LocatedLine)
    → names_of (front ++ located ∷ back) ≡ names_of front ++ names_of (located ∷ back)
names_split front located back = flat_map-append (λ (r : LocatedLine). r.names) front (located ∷ back)

-- a clean row has as many bytes as its size says
pub line_length : (front : List LocatedLine) (located : LocatedLine) (back : List LocatedLine) (text : List ℕ) (location : Location)
    → IsCleanLine front text located → FitsAt (names_of (front ++ located ∷ back)) located location
    → length (bytes_by (names_of (front ++ located ∷ back)) location located.size (content_of located.line.statement located.form)) ≡ located.size
line_length front located back text location clean fits =
    keeps_size (names_of front) (names_of (located ∷ back)) (names_of (front ++ located ∷ back)) located.location location
    located.line located.form located.size clean.clean clean.is_located_line.size (names_split front located back) fits.known fits.fits

stands_in : (names : Names) (front : List LocatedLine) (located : LocatedLine) (back : List LocatedLine) (location : Location) (image : List (ℕ × ℕ))
    → located.location ≡ Some location → length (bytes_by names location located.size (content_of located.line.statement located.form)) ≡ located.size
    → IsDistinct (λ (a b : ℕ). a == b) (keys_of (placed_by_all names (front ++ located ∷ back))) → IsImage image
    → ((address byte : ℕ) → Contains (placed_by_all names (front ++ located ∷ back)) (address, byte) → image_byte image address ≡ Some byte)
    → StandsIn names front located location
stands_in names front located back location image at long once is_image holds =
    let before : List (ℕ × ℕ) = placed_by_all names front in
    let own : List (ℕ × ℕ) = placed_by names located in
    let following : List (ℕ × ℕ) = placed_by_all names back in
    let parts : placed_by_all names (front ++ located ∷ back) ≡ before ++ (own ++ following) = placed_parts names front located back in
    let keys : keys_of (placed_by_all names (front ++ located ∷ back)) ≡ keys_of before ++ (keys_of own ++ keys_of following) =
    ap (λ (es : List (ℕ × ℕ)). keys_of es) parts
    ∙ (keys_append before (own ++ following) ∙ ap (λ (ks : List ℕ). keys_of before ++ ks) (keys_append own following)) in
    let addresses : keys_of own ≡ addresses_from location 0 located.size =
    ap (λ (es : List (ℕ × ℕ)). keys_of es) (placed_there names located location at)
    ∙ (addresses_are location 0 (bytes_by names location located.size (content_of located.line.statement located.form))
    ∙ ap (addresses_from location 0) long) in
    let apart : NoneIn (keys_of before) (keys_of own) =
    none_in_front (keys_of before) (keys_of own) (keys_of following)
    (none_before (keys_of before) (keys_of own ++ keys_of following) (subst (IsDistinct (λ (a b : ℕ). a == b)) keys once)) in
    record {
      length_is = long;
      free = ap (list_any (is_placed before)) (sym addresses) ∙ none_taken before (keys_of own) apart;
      loadable = ap (list_all is_loadable) (sym addresses)
          ∙ all_loadable own (λ address byte there. loadable_in image address byte is_image (holds address byte
          (subst (λ (es : List (ℕ × ℕ)). Contains es (address, byte)) (sym parts)
          (Contains-append_right before (own ++ following) (address, byte) (Contains-append_left own following (address, byte) there)))));
    }

no_late : (names : Names) (is_taken : ℕ → Bool) (has_label : Bool) (location : Option Location) (size : ℕ) (content : Option Content)
    → ((place : Location) → location ≡ Some place → fault_at names is_taken has_label place size content ≡ None)
    → late_fault names is_taken has_label location size content ≡ None
unfolding late_fault
no_late names is_taken has_label None size content each = refl
no_late names is_taken has_label (Some place) size content each = each place refl

-- rows that place an image have no fault
pub no_located_fault : (texts : List (List ℕ)) (front : List LocatedLine) (located : LocatedLine) (back : List LocatedLine) (image : List (ℕ × ℕ))
    → AreLocatedLines [] texts (front ++ located ∷ back) → ArePlaced (front ++ located ∷ back) image
    → located_fault (names_of (front ++ located ∷ back)) front located ≡ None
no_located_fault texts front located back image are placed =
    let names : Names = names_of (front ++ located ∷ back) in
    let there : CleanThere front located = clean_there [] texts front located back are in
    let each : (place : Location) → located.location ≡ Some place
    → fault_at names (is_placed (placed_by_all names front)) (is_some located.line.label) place located.size (content_of located.line.statement located.form)
    ≡ None = λ place at.
    let fits : FitsAt names located place = fits_there names front located back placed.fit place at in
    let stands : StandsIn names front located place =
    stands_in names front located back place image at (line_length front located back there.text place there.clean fits) placed.once placed.is_image
    (λ address byte contained. (placed.bytes address byte).1 contained) in
    no_fault_at names (is_placed (placed_by_all names front)) (is_some located.line.label) place located.size (content_of located.line.statement located.form)
    fits.known fits.fits fits.within stands.free stands.loadable in
    no_late names (is_placed (placed_by_all names front))
    (is_some located.line.label) located.location located.size (content_of located.line.statement located.form) each
