-- A kept row is shown as the listing's line.
use Rattle.std.proofs.Common.{◌≡◌, ◌∙◌, ℕ, zero, suc, ◌+◌, ◌-◌, ◌*◌, ◌<◌, ◌≤◌, List, [], ◌∷◌, ◌++◌, length, take, get_or, refl, sym, ap, ap₂, subst}
use Rattle.std.proofs.Common.{arith, Bool, true, false, Option, None, Some, is_some, nat_lt, append_assoc, append-nil, take_all, Contains, inl, inr}
use Rattle.std.specs.Prelude.{slice_get}
use Rattle.std.specs.List.{AllByRecursion, flat_map}
use Rattle.std.specs.Option.{unwrap_or}
use Rattle.std.specs.Str.{IsAscii}
use Rattle.std.proofs.Math.Seq.{take-suc}
use Rattle.std.proofs.lemmas.Bool.{cases_lt}
use Rattle.std.proofs.lemmas.Bool.Decides.{nat_tests}
use Rattle.std.proofs.lemmas.Grind.{flat_map-append}
use Rattle.std.proofs.lemmas.List.Elements.{Contains-append_left, Contains-append_right}
use Rattle.board_types.specs.Image.{image_byte}
use Rattle.board_types.specs.TextLines.{text_lines}
use Rattle.assembler.specs.declared.kept_line.KeptLine.{KeptLine}
use Rattle.assembler_meaning.specs.declared.symbol.Location.{Location}
use Rattle.assembler_meaning.specs.Values.{Names}
use Rattle.assembler.specs.Gives.{ArePlaced, Fits, Gives}
use Rattle.assembler.specs.KeptLines.{AreKept, EndsBy, Keeps, Reads}
use Rattle.board_types.specs.Digits.{hex_byte_text, hex_word}
use Rattle.assembler.specs.Listing.{bytes_part, first_bytes, line_at, listed, more_punctuator, place_part, line_bytes, spaces}
use Rattle.assembler.specs.Placement.{address_after, bytes_by, bytes_from, content_of, is_past_end, placed_by, placed_by_all}
use Rattle.assembler.specs.LocatedLines.{AreLocatedLines, IsCleanLine, LocatedLine, names_of}
use Rattle.assembler.specs.Shown.{said_by, shown_at, shown_byte, shown_count, shown_digits, shown_line, shown_place, shown_location, location_by_size}
use Rattle.assembler.proofs.AnsweringLines.{one_lines}
use Rattle.assembler.proofs.AnsweringPlaces.{fits_there, placed_there, placed_parts, line_length}
use Rattle.assembler.proofs.ListingTexts.{ascii_of, characters_of}

-- a line of the source, with what is kept of it
pub record LineThere (source : List ℕ) (texts : List (List ℕ)) (before located_lines : List LocatedLine) (kept : KeptLine) (i : ℕ) : Type 0 where
  pub text : List ℕ
  pub located : LocatedLine
  pub front : List LocatedLine
  pub back : List LocatedLine
  pub keeps : Keeps source text kept located
  pub split : located_lines ≡ front ++ located ∷ back
  pub clean : IsCleanLine (before ++ front) text located
  pub line : (names : Names) → line_at names texts located_lines i ≡ Some (listed names text located)

none_some : (kept : KeptLine) → None ≡ Some kept → ⊥
none_some kept is = cc

some_none : (kept : KeptLine) → Some kept ≡ None → ⊥
some_none kept is = cc

some_same : (a b : KeptLine) → Some a ≡ Some b → a ≡ b
some_same a b is = cc

line_after : (source text : List ℕ) (texts : List (List ℕ)) (before : List LocatedLine)
    (located : LocatedLine) (located_lines : List LocatedLine) (kept : KeptLine) (i : ℕ)
    → IsCleanLine before text located → LineThere source texts (before ++ located ∷ []) located_lines kept i
    → LineThere source (text ∷ texts) before (located ∷ located_lines) kept (suc i)
line_after source text texts before located located_lines kept i clean there = record {
  text = there.text;
  located = there.located;
  front = located ∷ there.front;
  back = there.back;
  keeps = there.keeps;
  split = ap (λ (rs : List LocatedLine). located ∷ rs) there.split;
  clean = subst (λ (rs : List LocatedLine). IsCleanLine rs there.text there.located) (append_assoc before (located ∷ []) there.front) there.clean;
  line = there.line;
}

pub line_there : (source : List ℕ) (before : List LocatedLine) (texts : List (List ℕ))
    (kepts : List KeptLine) (located_lines : List LocatedLine) (i : ℕ) (kept : KeptLine)
    → AreKept source texts kepts located_lines → AreLocatedLines before texts located_lines → slice_get kepts i ≡ Some kept
    → LineThere source texts before located_lines kept i
line_there source before [] [] [] i kept keeps are is = absurd (none_some kept is)
line_there source before [] [] (located ∷ located_lines) i kept keeps are is = absurd keeps
line_there source before [] (k ∷ ks) located_lines i kept keeps are is = absurd keeps
line_there source before (text ∷ texts) [] located_lines i kept keeps are is = absurd keeps
line_there source before (text ∷ texts) (k ∷ ks) [] i kept keeps are is = absurd keeps
line_there source before (text ∷ texts) (k ∷ ks) (located ∷ located_lines) zero kept keeps are is = record {
  text = text;
  located = located;
  front = [];
  back = located_lines;
  keeps = subst (λ (x : KeptLine). Keeps source text x located) (some_same k kept is) keeps.0;
  split = refl;
  clean = subst (λ (rs : List LocatedLine). IsCleanLine rs text located) (sym (append-nil before)) are.0;
  line = λ names. refl;
}
line_there source before (text ∷ texts) (k ∷ ks) (located ∷ located_lines) (suc i) kept keeps are is =
    line_after source text texts before located located_lines kept i are.0
    (line_there source (before ++ located ∷ []) texts ks located_lines i kept keeps.1 are.1 is)

pub no_line : (source : List ℕ) (names : Names) (texts : List (List ℕ)) (kepts : List KeptLine) (located_lines : List LocatedLine) (i : ℕ)
    → AreKept source texts kepts located_lines → slice_get kepts i ≡ None → line_at names texts located_lines i ≡ None
no_line source names [] [] [] i keeps is = refl
no_line source names [] [] (located ∷ located_lines) i keeps is = absurd keeps
no_line source names [] (k ∷ ks) located_lines i keeps is = absurd keeps
no_line source names (text ∷ texts) [] located_lines i keeps is = absurd keeps
no_line source names (text ∷ texts) (k ∷ ks) [] i keeps is = absurd keeps
no_line source names (text ∷ texts) (k ∷ ks) (located ∷ located_lines) zero keeps is = absurd (some_none k is)
no_line source names (text ∷ texts) (k ∷ ks) (located ∷ located_lines) (suc i) keeps is = no_line source names texts ks located_lines i keeps.1 is

moved : (n k : ℕ) → (n + 1) + k ≡ n + suc k
moved n k = omega arith

nothing_more : (n : ℕ) → n + 0 ≡ n
nothing_more n = omega arith

-- the image's bytes at a row's addresses are the row's
byte_there : (location : Location) (n : ℕ) (bytes : List ℕ) (k : ℕ) → k < length bytes
    → Contains (bytes_from location n bytes) (address_after location (n + k), get_or bytes k 0)
byte_there location n [] k within = absurd (omega arith)
byte_there location n (b ∷ bs) zero within = (0, omega arith, ap (λ (m : ℕ). (address_after location m, b)) (sym (nothing_more n)))
byte_there location n (b ∷ bs) (suc k) within =
    Contains-append_right ((address_after location n, b) ∷ []) (bytes_from location (n + 1) bs) (address_after location (n + suc k), get_or bs k 0)
    (subst (λ (m : ℕ). Contains (bytes_from location (n + 1) bs) (address_after location m, get_or bs k 0))
    (moved n k) (byte_there location (n + 1) bs k (omega arith)))

none_before : (k : ℕ) → 0 + k ≡ k
none_before k = omega arith

last_one : (xs : List ℕ) (b : ℕ) → xs ++ hex_byte_text b ≡ xs ++ flat_map hex_byte_text (b ∷ [])
last_one xs b = refl

never_false : true ≡ false → ⊥
never_false is = cc

-- the image has these bytes from a location on
abbrev pub Holds : List (ℕ × ℕ) → Location → List ℕ → Type 0
Holds image location bytes = (k : ℕ) → k < length bytes → image_byte image (address_after location k) ≡ Some (get_or bytes k 0)

holds_own : (names : Names) (front : List LocatedLine) (located : LocatedLine) (back : List LocatedLine) (image : List (ℕ × ℕ)) (location : Location)
    → located.location ≡ Some location
    → ((address byte : ℕ) → Contains (placed_by_all names (front ++ located ∷ back)) (address, byte) → image_byte image address ≡ Some byte)
    → Holds image location (bytes_by names location located.size (content_of located.line.statement located.form))
holds_own names front located back image location at holds k within =
    let bytes : List ℕ = bytes_by names location located.size (content_of located.line.statement located.form) in
    let here : Contains (bytes_from location 0 bytes) (address_after location k, get_or bytes k 0) =
    subst (λ (m : ℕ). Contains (bytes_from location 0 bytes) (address_after location m, get_or bytes k 0))
    (none_before k) (byte_there location 0 bytes k within) in
    let own : Contains (placed_by names located) (address_after location k, get_or bytes k 0) =
    subst (λ (es : List (ℕ × ℕ)). Contains es (address_after location k, get_or bytes k 0)) (sym (placed_there names located location at)) here in
    holds (address_after location k) (get_or bytes k 0)
    (subst (λ (es : List (ℕ × ℕ)). Contains es (address_after location k, get_or bytes k 0)) (sym (placed_parts names front located back))
    (Contains-append_right (placed_by_all names front) (placed_by names located ++ placed_by_all names back) (address_after location k, get_or bytes k 0)
    (Contains-append_left (placed_by names located) (placed_by_all names back) (address_after location k, get_or bytes k 0) own)))

digits_are : (image : List (ℕ × ℕ)) (location : Location) (bytes : List ℕ) (k : ℕ) → Holds image location bytes → k ≤ length bytes
    → shown_digits image location k ≡ flat_map hex_byte_text (take k bytes)
digits_are image location bytes zero holds within = refl
digits_are image location bytes (suc k) holds within =
    let byte : shown_byte image location k ≡ get_or bytes k 0 = ap (λ (o : Option ℕ). unwrap_or o 0) (holds k (omega arith)) in
    ap₂ (λ (xs : List ℕ) (b : ℕ). xs ++ hex_byte_text b) (digits_are image location bytes k holds (omega arith)) byte
    ∙ (last_one (flat_map hex_byte_text (take k bytes)) (get_or bytes k 0)
    ∙ (sym (flat_map-append hex_byte_text (take k bytes) (get_or bytes k 0 ∷ []))
    ∙ ap (λ (bs : List ℕ). flat_map hex_byte_text bs) (sym (take-suc bytes k 0 (omega arith)))))

lt_yes : (a b : ℕ) → a < b → nat_lt a b ≡ true
lt_yes a b h = grind (arith, nat_tests)

lt_not : (a b : ℕ) → b ≤ a → nat_lt a b ≡ false
lt_not a b h = grind (arith, nat_tests)

count_within : (size : ℕ) → shown_count size ≤ size
count_within size = elim (cases_lt 8 size) [
  | inl more ↦ rw (lt_yes 8 size more) (omega arith)
  | inr not_more ↦ rw (lt_not 8 size (omega arith)) (omega arith)
]

first_eight : (bytes : List ℕ) → take (shown_count (length bytes)) bytes ≡ take 8 bytes
first_eight bytes = elim (cases_lt 8 (length bytes)) [
  | inl more ↦ rw (lt_yes 8 (length bytes) more) refl
  | inr not_more ↦ rw (lt_not 8 (length bytes) (omega arith)) (take_all (length bytes) bytes (omega arith) ∙ sym (take_all 8 bytes (omega arith)))
]

filled_up : (size : ℕ) → 2 * (8 - shown_count size) ≡ 16 - 2 * size
filled_up size = elim (cases_lt 8 size) [
  | inl more ↦ rw (lt_yes 8 size more) (omega arith)
  | inr not_more ↦ rw (lt_not 8 size (omega arith)) (omega arith)
]

place_is : (image : List (ℕ × ℕ)) (location : Location) (bytes : List ℕ) → Holds image location bytes
    → shown_place image location (length bytes) ≡ bytes_part location bytes
unfolding shown_place bytes_part
place_is image location bytes holds =
    let punctuator : List ℕ = more_punctuator bytes ∷ 32 ∷ [] in
    let digits : shown_digits image location (shown_count (length bytes)) ≡ flat_map hex_byte_text (take 8 bytes) =
    digits_are image location bytes (shown_count (length bytes)) holds (count_within (length bytes))
    ∙ ap (λ (bs : List ℕ). flat_map hex_byte_text bs) (first_eight bytes) in
    let whole : shown_digits image location (shown_count (length bytes)) ++ (spaces (2 * (8 - shown_count (length bytes))) ++ punctuator)
    ≡ first_bytes bytes ++ punctuator =
    ap₂ (λ (xs : List ℕ) (n : ℕ). xs ++ (spaces n ++ punctuator)) digits (filled_up (length bytes))
    ∙ sym (append_assoc (flat_map hex_byte_text (take 8 bytes)) (spaces (16 - 2 * length bytes)) punctuator) in
    ap (λ (xs : List ℕ). hex_word location.segment ++ (58 ∷ hex_word location.offset ++ (32 ∷ xs))) whole

part_is : (image : List (ℕ × ℕ)) (location : Location) (bytes : List ℕ) → Holds image location bytes
    → shown_at image (location_by_size (Some location) (length bytes)) (length bytes) ≡ place_part (Some location) bytes
part_is image location [] holds = refl
part_is image location (b ∷ bs) holds = place_is image location (b ∷ bs) holds

nowhere : (image : List (ℕ × ℕ)) (size : ℕ) → shown_at image (location_by_size None size) size ≡ spaces 28
nowhere image zero = refl
nowhere image (suc n) = refl

-- a row with a location has as many bytes as its size says, and the image holds them
abbrev Stands : Names → List (ℕ × ℕ) → LocatedLine → Type 0
Stands names image located =
    (location : Location) → located.location ≡ Some location
    → (length (bytes_by names location located.size (content_of located.line.statement located.form)) ≡ located.size)
    × Holds image location (bytes_by names location located.size (content_of located.line.statement located.form))

line_part_is : (names : Names) (image : List (ℕ × ℕ)) (located : LocatedLine) (location : Option Location)
    → located.location ≡ location → Stands names image located
    → shown_at image (location_by_size location located.size) located.size ≡ place_part location (line_bytes names located location)
line_part_is names image located None at stands = nowhere image located.size
line_part_is names image located (Some location) at stands =
    let bytes : List ℕ = bytes_by names location located.size (content_of located.line.statement located.form) in
    let there = stands location at in
    ap (λ (n : ℕ). shown_at image (location_by_size (Some location) n) n) (sym there.0) ∙ part_is image location bytes there.1

stands_there : (texts : List (List ℕ)) (front : List LocatedLine) (located : LocatedLine) (back : List LocatedLine) (text : List ℕ) (image : List (ℕ × ℕ))
    → IsCleanLine front text located → ArePlaced (front ++ located ∷ back) image → Stands (names_of (front ++ located ∷ back)) image located
stands_there texts front located back text image clean placed location at =
    let names : Names = names_of (front ++ located ∷ back) in (
      line_length front located back text location clean (fits_there names front located back placed.fit location at),
      holds_own names front located back image location at (λ address byte there. (placed.bytes address byte).1 there),
    )

-- the listing's line of a kept row
pub line_is : (source : List ℕ) (texts : List (List ℕ)) (located_lines : List LocatedLine) (kept : KeptLine) (i : ℕ) (image : List (ℕ × ℕ))
    → LineThere source texts [] located_lines kept i → ArePlaced located_lines image
    → Some (shown_line source image kept) ≡ line_at (names_of located_lines) texts located_lines i
line_is source texts located_lines kept i image there placed =
    let stands : Stands (names_of located_lines) image there.located =
    subst (λ (rs : List LocatedLine). Stands (names_of rs) image there.located) (sym there.split)
    (stands_there texts there.front there.located there.back there.text image there.clean
    (subst (λ (rs : List LocatedLine). ArePlaced rs image) there.split placed)) in
    let part : shown_at image (shown_location kept) kept.size
    ≡ place_part there.located.location (line_bytes (names_of located_lines) there.located there.located.location) =
    ap₂ (λ (o : Option Location) (n : ℕ). shown_at image (location_by_size o n) n) there.keeps.location there.keeps.size
    ∙ line_part_is (names_of located_lines) image there.located there.located.location refl stands in
    ap₂ (λ (xs ys : List ℕ). Some (xs ++ ys)) part there.keeps.text ∙ sym (there.line (names_of located_lines))

pub line_ascii : (source : List ℕ) (texts : List (List ℕ)) (located_lines : List LocatedLine) (kept : KeptLine) (i : ℕ)
    → LineThere source texts [] located_lines kept i → IsAscii (said_by source kept)
line_ascii source texts located_lines kept i there =
    subst IsAscii (sym there.keeps.text) (ascii_of there.text (characters_of there.text there.located.line there.clean.is_located_line.reads))

past_end : (location : Location) (n : ℕ) (has_label : Bool) → is_past_end location (suc n) has_label ≡ false → location.offset + suc n ≤ 65536
past_end location n has_label is = elim (cases_lt 65536 (location.offset + suc n)) [
  | inl more ↦ absurd (never_false (rw (lt_yes 0 (suc n) (omega arith), lt_yes 65536 (location.offset + suc n) more) at is))
  | inr not_more ↦ omega arith
]

ends_by : (location : Option Location) (size : ℕ) (has_label : Bool)
    → ((place : Location) → location ≡ Some place → is_past_end place size has_label ≡ false) → EndsBy 65536 (location_by_size location size) size
ends_by location zero has_label within = tt
ends_by None (suc n) has_label within = tt
ends_by (Some place) (suc n) has_label within = past_end place n has_label (within place refl)

pub line_ends : (source : List ℕ) (texts : List (List ℕ)) (located_lines : List LocatedLine) (kept : KeptLine) (i : ℕ) (image : List (ℕ × ℕ))
    → LineThere source texts [] located_lines kept i → ArePlaced located_lines image → EndsBy 65536 (shown_location kept) kept.size
line_ends source texts located_lines kept i image there placed =
    let fit : Fits (names_of located_lines) there.located =
    fits_there (names_of located_lines) there.front there.located there.back (subst (AllByRecursion (Fits (names_of located_lines))) there.split placed.fit) in
    let own : EndsBy 65536 (location_by_size there.located.location there.located.size) there.located.size =
    ends_by there.located.location there.located.size (is_some there.located.line.label) (λ place at. (fit place at).within) in
    let Ends : Option Location → ℕ → Type 0 = λ o n. EndsBy 65536 (location_by_size o n) n in
    subst (λ (n : ℕ). Ends kept.location n) (sym there.keeps.size) (subst (λ (o : Option Location). Ends o there.located.size) (sym there.keeps.location) own)

-- what a listing keeps
module _ (source : List ℕ) (names : Names) (kepts : List KeptLine) (image : List (ℕ × ℕ))
    (reads : Reads source names kepts) (gives : Gives source image) (i : ℕ) where
  own_placed : ArePlaced reads.located_lines image
  own_placed =
      subst (λ (rs : List LocatedLine). ArePlaced rs image)
      (one_lines [] (text_lines source) gives.located_lines reads.located_lines gives.are_located_lines reads.are_located_lines) gives.placed

  pub own_there : (kept : KeptLine) → slice_get kepts i ≡ Some kept → LineThere source (text_lines source) [] reads.located_lines kept i
  own_there kept is = line_there source [] (text_lines source) kepts reads.located_lines i kept reads.are_kept reads.are_located_lines is

  pub own_inside : (kept : KeptLine) → slice_get kepts i ≡ Some kept → kept.start + kept.length ≤ length source
  own_inside kept is = (own_there kept is).keeps.inside

  pub own_ascii : (kept : KeptLine) → slice_get kepts i ≡ Some kept → IsAscii (said_by source kept)
  own_ascii kept is = line_ascii source (text_lines source) reads.located_lines kept i (own_there kept is)

  pub own_ends : (kept : KeptLine) → slice_get kepts i ≡ Some kept → EndsBy 65536 (shown_location kept) kept.size
  own_ends kept is = line_ends source (text_lines source) reads.located_lines kept i image (own_there kept is) own_placed

  one_line : (located_lines : List LocatedLine) → AreLocatedLines [] (text_lines source) located_lines
      → line_at (names_of reads.located_lines) (text_lines source) reads.located_lines i ≡ line_at names (text_lines source) located_lines i
  one_line located_lines are =
      ap₂ (λ (ns : Names) (rs : List LocatedLine). line_at ns (text_lines source) rs i) (sym reads.names_are)
      (one_lines [] (text_lines source) reads.located_lines located_lines reads.are_located_lines are)

  pub own_line : (kept : KeptLine) → slice_get kepts i ≡ Some kept → (located_lines : List LocatedLine) → AreLocatedLines [] (text_lines source) located_lines
      → Some (shown_line source image kept) ≡ line_at names (text_lines source) located_lines i
  own_line kept is located_lines are =
      line_is source (text_lines source) reads.located_lines kept i image (own_there kept is) own_placed ∙ one_line located_lines are

  pub no_own_line : slice_get kepts i ≡ None → (located_lines : List LocatedLine) → AreLocatedLines [] (text_lines source) located_lines
      → None ≡ line_at names (text_lines source) located_lines i
  no_own_line is located_lines are =
      sym (no_line source (names_of reads.located_lines) (text_lines source) kepts reads.located_lines i reads.are_kept is) ∙ one_line located_lines are
