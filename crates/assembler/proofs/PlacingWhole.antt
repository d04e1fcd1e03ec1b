-- What the second pass answers is what the definitions of the image and of the first fault say.
use Rattle.std.proofs.Common.{suc, zero, ◌≡◌, ◌∙◌, ℕ, ◌+◌, ◌<◌, ◌≤◌, ◌==◌, List, [], ◌∷◌, ◌++◌, length, take, drop, get_or, append_assoc}
use Rattle.std.proofs.Common.{append-nil, length-take, refl, sym, ap, subst, arith, inr, Bool, false, Option, None, Some, is_some}
use Rattle.std.specs.List.{AllByRecursion, IsDistinct, list_any}
use Rattle.std.specs.List.Sorted.{IsStrictlySortedBy}
use Rattle.std.specs.Map.{keys_of}
use Rattle.std.specs.Ordering.{nat_cmp}
use Rattle.std.specs.BTreeMap.{insert_entry}
use Rattle.std.proofs.Math.Seq.{drop-cons}
use Rattle.std.proofs.lemmas.List.{map-append, take_all, take_more, take-append-drop}
use Rattle.std.proofs.lemmas.Grind.{flat_map-append}
use Rattle.std.proofs.lemmas.List.Sums.{fold-append}
use Rattle.std.specs.Prelude.{Contains, ◌↔◌}
use Rattle.board_types.specs.Image.{IsImage, image_byte}
use Rattle.board_types.specs.TextLines.{text_lines}
use Rattle.board_types.proofs.LineCounting.{few_lines}
use Rattle.assembler.specs.declared.fault.SourceFault.{SourceFault}
use Rattle.assembler.specs.declared.fault.AsmFault.{AsmFault}
use Rattle.assembler.specs.declared.fault.AsmFault.TheVariants.{SourceTooLong, InLine, Memory}
use Rattle.assembler.specs.declared.kept_line.Content.{Content}
use Rattle.assembler.specs.declared.kept_line.KeptLine.{KeptLine}
use Rattle.assembler_meaning.specs.declared.symbol.Location.{Location}
use Rattle.assembler_meaning.specs.Values.{Names}
use Rattle.assembler.specs.LocatedLines.{AreLocatedLines, LocatedLine, names_of}
use Rattle.assembler.specs.Placement.{addresses_from, bytes_by, content_of, is_past_end, is_placed}
use Rattle.assembler.specs.Placement.{late_fault, placed_at, placed_by, placed_by_all, located_fault}
use Rattle.assembler.specs.Gives.{ArePlaced, Fits, FitsAt, Gives}
use Rattle.assembler.specs.FirstFault.{AreFaultless, HasLateFault, IsFirst}
use Rattle.assembler.specs.KeptLines.{AreKept, Reads, content_in}
use Rattle.assembler.specs.SecondPass.{AreFaultlessKept, AreKeptLines, HasSize, HasSizeAt, IsKept, KeepsSize, LineHasSize}
use Rattle.assembler.specs.SecondPass.{StopsAt, entries_by, entries_by_all, has_byte, kept_fault, with_entries}
use Rattle.assembler.proofs.PlacingAddresses.{addresses_differ, keys_are, still_differ}
use Rattle.assembler.proofs.PlacingImage.{bytes_are, taken_is}
use Rattle.assembler.proofs.LineLength.{keeps_size}
use Rattle.assembler.proofs.PlacingLines.{can_stand, ends_within}

-- ---- rows as they are kept
are_kept_lines : (source : List ℕ) (texts : List (List ℕ)) (kepts : List KeptLine) (located_lines : List LocatedLine)
    → AreKept source texts kepts located_lines → AreKeptLines kepts located_lines
are_kept_lines source [] [] [] are = tt
are_kept_lines source [] [] (located ∷ located_lines) are = absurd are
are_kept_lines source [] (kept ∷ kepts) [] are = absurd are
are_kept_lines source [] (kept ∷ kepts) (located ∷ located_lines) are = absurd are
are_kept_lines source (text ∷ texts) [] [] are = absurd are
are_kept_lines source (text ∷ texts) [] (located ∷ located_lines) are = absurd are
are_kept_lines source (text ∷ texts) (kept ∷ kepts) [] are = absurd are
are_kept_lines source (text ∷ texts) (kept ∷ kepts) (located ∷ located_lines) are = (
  record { label = are.0.label; location = are.0.location; size = are.0.size; content = are.0.content },
  are_kept_lines source texts kepts located_lines are.1,
)

kept_count : (source : List ℕ) (texts : List (List ℕ)) (kepts : List KeptLine) (located_lines : List LocatedLine)
    → AreKept source texts kepts located_lines → length kepts ≡ length texts
kept_count source [] [] [] are = refl
kept_count source [] [] (located ∷ located_lines) are = absurd are
kept_count source [] (kept ∷ kepts) [] are = absurd are
kept_count source [] (kept ∷ kepts) (located ∷ located_lines) are = absurd are
kept_count source (text ∷ texts) [] [] are = absurd are
kept_count source (text ∷ texts) [] (located ∷ located_lines) are = absurd are
kept_count source (text ∷ texts) (kept ∷ kepts) [] are = absurd are
kept_count source (text ∷ texts) (kept ∷ kepts) (located ∷ located_lines) are = ap suc (kept_count source texts kepts located_lines are.1)

pub few_located : (source : List ℕ) (names : Names) (kepts : List KeptLine) → Reads source names kepts → length kepts ≤ 1048576
few_located source names kepts reads =
    let same : length kepts ≡ length (text_lines source) = kept_count source (text_lines source) kepts reads.located_lines reads.are_kept in
    let few : length (text_lines source) ≤ length source = few_lines source in
    let limit : length source ≤ 1048576 = reads.within in
    omega arith

same_length : (kepts : List KeptLine) (located_lines : List LocatedLine) → AreKeptLines kepts located_lines → length located_lines ≡ length kepts
same_length [] [] are = refl
same_length [] (located ∷ located_lines) are = absurd are
same_length (kept ∷ kepts) [] are = absurd are
same_length (kept ∷ kepts) (located ∷ located_lines) are = ap suc (same_length kepts located_lines are.1)

-- ---- rows have their sizes
size_here : (names : Names) (located : LocatedLine) (here : Option Location)
    → located.location ≡ here → ((location : Location) → HasSizeAt names location located.size (content_of located.line.statement located.form))
    → HasSize names here located.size (content_of located.line.statement located.form)
size_here names located None at each = tt
size_here names located (Some location) at each = each location

pub lines_sized : (names : Names) (before : List LocatedLine) (texts : List (List ℕ)) (located_lines : List LocatedLine)
    → AreLocatedLines before texts located_lines → names ≡ names_of (before ++ located_lines) → AllByRecursion (LineHasSize names) located_lines
lines_sized names before [] [] are is = tt
lines_sized names before [] (located ∷ located_lines) are is = absurd are
lines_sized names before (text ∷ texts) [] are is = absurd are
lines_sized names before (text ∷ texts) (located ∷ located_lines) are is =
    let all : names ≡ names_of before ++ names_of (located ∷ located_lines) =
    is ∙ flat_map-append (λ (r : LocatedLine). r.names) before (located ∷ located_lines) in (
      size_here names located located.location refl
          (λ location. keeps_size (names_of before) (names_of (located ∷ located_lines)) names located.location
          location located.line located.form located.size are.0.clean are.0.is_located_line.size all),
      lines_sized names (before ++ located ∷ []) texts located_lines are.1 (is ∙ ap names_of (sym (append_assoc before (located ∷ []) located_lines))),
    )

kept_sized : (names : Names) (kept : KeptLine) (located : LocatedLine) → IsKept kept located → LineHasSize names located → KeepsSize names kept
kept_sized names kept located is size =
    subst (λ (o : Option Location). HasSize names o kept.size (content_in kept)) (sym is.location)
    (subst (λ (n : ℕ). HasSize names located.location n (content_in kept)) (sym is.size)
    (subst (λ (o : Option Content). HasSize names located.location located.size o) (sym is.content) size))

kepts_sized : (names : Names) (kepts : List KeptLine) (located_lines : List LocatedLine)
    → AreKeptLines kepts located_lines → AllByRecursion (LineHasSize names) located_lines → AllByRecursion (KeepsSize names) kepts
kepts_sized names [] [] are sized = tt
kepts_sized names [] (located ∷ located_lines) are sized = absurd are
kepts_sized names (kept ∷ kepts) [] are sized = absurd are
kepts_sized names (kept ∷ kepts) (located ∷ located_lines) are sized =
    (kept_sized names kept located are.0 sized.0, kepts_sized names kepts located_lines are.1 sized.1)

reads_sized : (source : List ℕ) (names : Names) (kepts : List KeptLine) (reads : Reads source names kepts)
    → AllByRecursion (LineHasSize names) reads.located_lines
reads_sized source names kepts reads = lines_sized names [] (text_lines source) reads.located_lines reads.are_located_lines reads.names_are

pub all_sized : (source : List ℕ) (names : Names) (kepts : List KeptLine) → Reads source names kepts → AllByRecursion (KeepsSize names) kepts
all_sized source names kepts reads =
    kepts_sized names kepts reads.located_lines
    (are_kept_lines source (text_lines source) kepts reads.located_lines reads.are_kept) (reads_sized source names kepts reads)

-- ---- what rows place, and their faults
entries_is : (names : Names) (kept : KeptLine) (located : LocatedLine) → IsKept kept located → entries_by names kept ≡ placed_by names located
unfolding placed_by
entries_is names kept located is =
    ap (λ (o : Option Location). placed_at names o kept.size (content_in kept)) is.location
    ∙ ap (λ (n : ℕ). placed_at names located.location n (content_in kept)) is.size
    ∙ ap (λ (o : Option Content). placed_at names located.location located.size o) is.content

entries_are : (names : Names) (kepts : List KeptLine) (located_lines : List LocatedLine) → AreKeptLines kepts located_lines
    → entries_by_all names kepts ≡ placed_by_all names located_lines
entries_are names [] [] are = refl
entries_are names [] (located ∷ located_lines) are = absurd are
entries_are names (kept ∷ kepts) [] are = absurd are
entries_are names (kept ∷ kepts) (located ∷ located_lines) are =
    ap (λ (es : List (ℕ × ℕ)). es ++ entries_by_all names kepts) (entries_is names kept located are.0)
    ∙ ap (λ (es : List (ℕ × ℕ)). placed_by names located ++ es) (entries_are names kepts located_lines are.1)

fault_is : (names : Names) (is_taken : ℕ → Bool) (kept : KeptLine) (located : LocatedLine) → IsKept kept located
    → late_fault names is_taken (is_some located.line.label) located.location located.size (content_of located.line.statement located.form)
    ≡ kept_fault names is_taken kept
fault_is names is_taken kept located is =
    sym (ap (λ (b : Bool). late_fault names is_taken b kept.location kept.size (content_in kept)) is.label
    ∙ ap (λ (o : Option Location). late_fault names is_taken (is_some located.line.label) o kept.size (content_in kept)) is.location
    ∙ ap (λ (n : ℕ). late_fault names is_taken (is_some located.line.label) located.location n (content_in kept)) is.size
    ∙ ap (λ (o : Option Content). late_fault names is_taken (is_some located.line.label) located.location located.size o) is.content)

located_fault_is : (names : Names) (befores : List KeptLine) (before : List LocatedLine) (kept : KeptLine) (located : LocatedLine)
    → AreKeptLines befores before → IsKept kept located → located_fault names before located ≡ kept_fault names (is_placed (entries_by_all names befores)) kept
located_fault_is names befores before kept located are is =
    fault_is names (is_placed (placed_by_all names before)) kept located is
    ∙ ap (λ (es : List (ℕ × ℕ)). kept_fault names (is_placed es) kept) (sym (entries_are names befores before are))

kept_push : (befores : List KeptLine) (before : List LocatedLine) (kept : KeptLine) (located : LocatedLine)
    → AreKeptLines befores before → IsKept kept located → AreKeptLines (befores ++ kept ∷ []) (before ++ located ∷ [])
kept_push [] [] kept located are is = (is, tt)
kept_push [] (r ∷ rs) kept located are is = absurd are
kept_push (k ∷ ks) [] kept located are is = absurd are
kept_push (k ∷ ks) (r ∷ rs) kept located are is = (are.0, kept_push ks rs kept located are.1 is)

faultless_are : (names : Names) (befores : List KeptLine) (before : List LocatedLine) (kepts : List KeptLine) (located_lines : List LocatedLine)
    → AreKeptLines befores before → AreKeptLines kepts located_lines → AreFaultlessKept names befores kepts → AreFaultless names before located_lines
faultless_are names befores before [] [] front are free = tt
faultless_are names befores before [] (located ∷ located_lines) front are free = absurd are
faultless_are names befores before (kept ∷ kepts) [] front are free = absurd are
faultless_are names befores before (kept ∷ kepts) (located ∷ located_lines) front are free = (
  located_fault_is names befores before kept located front are.0 ∙ free.0,
  faultless_are names (befores ++ kept ∷ []) (before ++ located ∷ []) kepts located_lines (kept_push befores before kept located front are.0) are.1 free.1,
)

-- ---- faultless rows fit, and no address is placed twice
few_bytes : (location : Location) (size : ℕ) (has_label : Bool) → is_past_end location size has_label ≡ false → size ≤ 65536
few_bytes location zero has_label within = omega arith
few_bytes location (suc n) has_label within = let ends = ends_within location (suc n) has_label within (omega arith) in omega (arith, ends)

keys_at : (names : Names) (location : Location) (size : ℕ) (content : Option Content) → length (bytes_by names location size content) ≡ size
    → keys_of (placed_at names (Some location) size content) ≡ addresses_from location 0 size
keys_at names location size content long = keys_are location 0 (bytes_by names location size content) ∙ ap (addresses_from location 0) long

pub record Stands (names : Names) (before : List (ℕ × ℕ)) (here : Option Location) (size : ℕ) (content : Option Content) : Type 0 where
  pub differ : IsDistinct (λ a b. a == b) (keys_of (placed_at names here size content))
  pub free : list_any (is_placed before) (keys_of (placed_at names here size content)) ≡ false

stands : (names : Names) (before : List (ℕ × ℕ)) (has_label : Bool) (here : Option Location) (size : ℕ) (content : Option Content)
    → late_fault names (is_placed before) has_label here size content ≡ None → HasSize names here size content → Stands names before here size content
unfolding IsDistinct
stands names before has_label None size content none has_size = record { differ = tt; free = refl }
stands names before has_label (Some location) size content none has_size =
    let can = can_stand names (is_placed before) has_label location size content none in
    let keys = keys_at names location size content (has_size can.known can.fits) in
    record {
      differ =
          subst (λ (ks : List ℕ). IsDistinct (λ a b. a == b) ks) (sym keys) (addresses_differ location 0 size (few_bytes location size has_label can.within));
      free = ap (list_any (is_placed before)) keys ∙ can.free;
    }

fits_at : (names : Names) (is_taken : ℕ → Bool) (located : LocatedLine) (location : Location) → located.location ≡ Some location
    → late_fault names is_taken (is_some located.line.label) located.location located.size (content_of located.line.statement located.form) ≡ None
    → FitsAt names located location
fits_at names is_taken located location at none =
    let can = can_stand names is_taken (is_some located.line.label) location located.size (content_of located.line.statement located.form)
    (ap (λ (o : Option Location). late_fault names is_taken (is_some located.line.label) o located.size (content_of located.line.statement located.form))
    (sym at)
    ∙ none) in
    record { known = can.known; fits = can.fits; within = can.within }

all_fit : (names : Names) (before located_lines : List LocatedLine) → AreFaultless names before located_lines → AllByRecursion (Fits names) located_lines
all_fit names before [] free = tt
all_fit names before (located ∷ located_lines) free = (
  (λ location at. fits_at names (is_placed (placed_by_all names before)) located location at free.0),
  all_fit names (before ++ located ∷ []) located_lines free.1,
)

line_stands : (names : Names) (before : List LocatedLine) (located : LocatedLine) → located_fault names before located ≡ None → LineHasSize names located
    → Stands names (placed_by_all names before) located.location located.size (content_of located.line.statement located.form)
line_stands names before located none has_size =
    stands names (placed_by_all names before) (is_some located.line.label) located.location located.size
    (content_of located.line.statement located.form) none has_size

keys_differ : (names : Names) (before : List LocatedLine) (located : LocatedLine) → located_fault names before located ≡ None → LineHasSize names located
    → IsDistinct (λ a b. a == b) (keys_of (placed_by_all names before)) → IsDistinct (λ a b. a == b) (keys_of (placed_by_all names (before ++ located ∷ [])))
unfolding placed_by
keys_differ names before located none has_size differ =
    let here = placed_at names located.location located.size (content_of located.line.statement located.form) in
    let at = line_stands names before located none has_size in
    let all : placed_by_all names (before ++ located ∷ []) ≡ placed_by_all names before ++ here =
    flat_map-append (placed_by names) before (located ∷ []) ∙ ap (λ (es : List (ℕ × ℕ)). placed_by_all names before ++ es) (append-nil here) in
    let keys : keys_of (placed_by_all names (before ++ located ∷ [])) ≡ keys_of (placed_by_all names before) ++ keys_of here =
    ap keys_of all ∙ map-append (λ (e : ℕ × ℕ). e.0) (placed_by_all names before) here in
    subst (λ (ks : List ℕ). IsDistinct (λ a b. a == b) ks) (sym keys) (still_differ (placed_by_all names before) (keys_of here) differ at.differ at.free)

all_differ : (names : Names) (before located_lines : List LocatedLine) → AreFaultless names before located_lines
    → AllByRecursion (LineHasSize names) located_lines → IsDistinct (λ a b. a == b) (keys_of (placed_by_all names before))
    → IsDistinct (λ a b. a == b) (keys_of (placed_by_all names (before ++ located_lines)))
all_differ names before [] free sized differ =
    subst (λ (rs : List LocatedLine). IsDistinct (λ a b. a == b) (keys_of (placed_by_all names rs))) (sym (append-nil before)) differ
all_differ names before (located ∷ located_lines) free sized differ =
    subst (λ (rs : List LocatedLine). IsDistinct (λ a b. a == b) (keys_of (placed_by_all names rs))) (append_assoc before (located ∷ []) located_lines)
    (all_differ names (before ++ located ∷ []) located_lines free.1 sized.1 (keys_differ names before located free.0 sized.0 differ))

none_differ : IsDistinct (λ (a b : ℕ). a == b) []
unfolding IsDistinct
none_differ = tt

-- ---- the image of all rows
pub are_placed : (names : Names) (located_lines : List LocatedLine) → AreFaultless names [] located_lines
    → AllByRecursion (LineHasSize names) located_lines → names ≡ names_of located_lines → IsImage (with_entries [] (placed_by_all names located_lines))
    → ArePlaced located_lines (with_entries [] (placed_by_all names located_lines))
are_placed names located_lines free sized is is_image =
    let differ : IsDistinct (λ a b. a == b) (keys_of (placed_by_all names located_lines)) = all_differ names [] located_lines free sized none_differ in
    record {
      fit = subst (λ (n : Names). AllByRecursion (Fits n) located_lines) is (all_fit names [] located_lines free);
      once = subst (λ (n : Names). IsDistinct (λ a b. a == b) (keys_of (placed_by_all n located_lines))) is differ;
      is_image = is_image;
      bytes = subst (λ (n : Names). (address byte : ℕ)
          → (image_byte (with_entries [] (placed_by_all names located_lines)) address ≡ Some byte) ↔ Contains (placed_by_all n located_lines) (address, byte))
          is (bytes_are (placed_by_all names located_lines) differ);
    }

pub gives : (source : List ℕ) (names : Names) (kepts : List KeptLine) (image : List (ℕ × ℕ))
    → Reads source names kepts → image ≡ with_entries [] (entries_by_all names kepts) → AreFaultlessKept names [] kepts → IsImage image → Gives source image
gives source names kepts image reads is free is_image =
    let kept = are_kept_lines source (text_lines source) kepts reads.located_lines reads.are_kept in
    let same : image ≡ with_entries [] (placed_by_all names reads.located_lines) =
    is ∙ ap (with_entries []) (entries_are names kepts reads.located_lines kept) in
    record {
      within = reads.within;
      located_lines = reads.located_lines;
      are_located_lines = reads.are_located_lines;
      placed = subst (λ (im : List (ℕ × ℕ)). ArePlaced reads.located_lines im) (sym same)
          (are_placed names reads.located_lines (faultless_are names [] [] kepts reads.located_lines tt kept free)
          (reads_sized source names kepts reads) reads.names_are
          (subst (λ (im : List (ℕ × ℕ)). IsImage im) same is_image));
    }

-- ---- the fault of a row
pub record SplitsAt (front : List KeptLine) (kept : KeptLine) (located_lines : List LocatedLine) : Type 0 where
  pub before : List LocatedLine
  pub located : LocatedLine
  pub back : List LocatedLine
  pub split : located_lines ≡ before ++ located ∷ back
  pub are_kept : AreKeptLines front before
  pub is_kept : IsKept kept located

splits_at : (front : List KeptLine) (kept : KeptLine) (back : List KeptLine) (located_lines : List LocatedLine)
    → AreKeptLines (front ++ kept ∷ back) located_lines → SplitsAt front kept located_lines
splits_at [] kept back [] are = absurd are
splits_at [] kept back (located ∷ located_lines) are =
    record { before = []; located = located; back = located_lines; split = refl; are_kept = tt; is_kept = are.0 }
splits_at (k ∷ ks) kept back [] are = absurd are
splits_at (k ∷ ks) kept back (located ∷ located_lines) are =
    let rest = splits_at ks kept back located_lines are.1 in
    record {
      before = located ∷ rest.before;
      located = rest.located;
      back = rest.back;
      split = ap (λ (rs : List LocatedLine). located ∷ rs) rest.split;
      are_kept = (are.0, rest.are_kept);
      is_kept = rest.is_kept;
    }

late_fault_at : (names : Names) (front : List KeptLine) (kept : KeptLine) (located_lines : List LocatedLine) (fault : SourceFault) (number : ℕ)
    → SplitsAt front kept located_lines → names ≡ names_of located_lines → AreFaultlessKept names [] front
    → kept_fault names (is_placed (entries_by_all names front)) kept ≡ Some fault → number ≡ length front + 1 → HasLateFault located_lines fault number
late_fault_at names front kept located_lines fault number at is free found counted = record {
  front = at.before;
  located = at.located;
  back = at.back;
  split = at.split;
  counted = ap (λ (n : ℕ). n + 1) (same_length front at.before at.are_kept) ∙ sym counted;
  placed = subst (λ (n : Names). AreFaultless n [] at.before) is (faultless_are names [] [] front at.before tt at.are_kept free);
  found = subst (λ (n : Names). located_fault n at.before at.located ≡ Some fault) is
      (located_fault_is names front at.before kept at.located at.are_kept at.is_kept ∙ found);
}

item_split : (kepts : List KeptLine) (i : ℕ) (kept : KeptLine) → i < length kepts → get_or kepts i kept ≡ kept
    → kepts ≡ take i kepts ++ kept ∷ drop (suc i) kepts
item_split kepts i kept within is =
    sym (take-append-drop i kepts)
    ∙ ap (λ (ks : List KeptLine). take i kepts ++ ks) (drop-cons kepts i kept within ∙ ap (λ (k : KeptLine). k ∷ drop (suc i) kepts) is)

first_fault : (source : List ℕ) (names : Names) (kepts : List KeptLine) (image : List (ℕ × ℕ)) (i : ℕ) (kept : KeptLine) (fault : SourceFault) (number : ℕ)
    → Reads source names kepts → i < length kepts → get_or kepts i kept ≡ kept → image ≡ with_entries [] (entries_by_all names (take i kepts))
    → AreFaultlessKept names [] (take i kepts) → kept_fault names (has_byte image) kept ≡ Some fault → number ≡ i + 1 → IsFirst source (InLine fault number)
first_fault source names kepts image i kept fault number reads within item is free found counted =
    let are = are_kept_lines source (text_lines source) kepts reads.located_lines reads.are_kept in
    let at : SplitsAt (take i kepts) kept reads.located_lines =
    splits_at (take i kepts) kept (drop (suc i) kepts) reads.located_lines
    (subst (λ (ks : List KeptLine). AreKeptLines ks reads.located_lines) (item_split kepts i kept within item) are) in
    let judged : kept_fault names (is_placed (entries_by_all names (take i kepts))) kept ≡ Some fault =
    sym (ap (λ (im : List (ℕ × ℕ)). kept_fault names (has_byte im) kept) is
    ∙ ap (λ (t : ℕ → Bool). kept_fault names t kept) (taken_is (entries_by_all names (take i kepts)))) ∙ found in
    let long : length (take i kepts) ≡ i = simp length-take (omega arith) in (
      reads.within,
      inr (record {
        located_lines = reads.located_lines;
        clean = reads.are_located_lines;
        found = late_fault_at names (take i kepts) kept reads.located_lines fault number at reads.names_are free judged
            (counted ∙ ap (λ (n : ℕ). n + 1) (sym long));
      }),
    )

pub stops_first : (source : List ℕ) (names : Names) (kepts : List KeptLine) (image : List (ℕ × ℕ)) (i : ℕ) (kept : KeptLine) (fault : AsmFault) (number : ℕ)
    → Reads source names kepts → i < length kepts → get_or kepts i kept ≡ kept → image ≡ with_entries [] (entries_by_all names (take i kepts))
    → AreFaultlessKept names [] (take i kepts) → StopsAt number (kept_fault names (has_byte image) kept) fault → number ≡ i + 1 → IsFirst source fault
stops_first source names kepts image i kept (InLine fault at) number reads within item is free stops counted =
    first_fault source names kepts image i kept fault at reads within item is free stops.1 (stops.0 ∙ counted)
stops_first source names kepts image i kept SourceTooLong number reads within item is free stops counted = absurd stops
stops_first source names kepts image i kept Memory number reads within item is free stops counted = tt

-- ---- one more row
front_more : (kepts : List KeptLine) (i : ℕ) (kept : KeptLine) → i < length kepts → get_or kepts i kept ≡ kept → take (i + 1) kepts ≡ take i kepts ++ kept ∷ []
front_more kepts i kept within is = take_more kepts i kept within ∙ ap (λ (k : KeptLine). take i kepts ++ k ∷ []) is

pub placed_more : (names : Names) (kepts : List KeptLine) (i : ℕ) (kept : KeptLine) (image new : List (ℕ × ℕ)) → i < length kepts → get_or kepts i kept ≡ kept
    → image ≡ with_entries [] (entries_by_all names (take i kepts)) → new ≡ with_entries image (entries_by names kept)
    → new ≡ with_entries [] (entries_by_all names (take (i + 1) kepts))
placed_more names kepts i kept image new within item is put =
    let all : entries_by_all names (take (i + 1) kepts) ≡ entries_by_all names (take i kepts) ++ entries_by names kept =
    ap (entries_by_all names) (front_more kepts i kept within item) ∙ flat_map-append (entries_by names) (take i kepts) (kept ∷ [])
    ∙ ap (λ (es : List (ℕ × ℕ)). entries_by_all names (take i kepts) ++ es) (append-nil (entries_by names kept)) in
    put ∙ ap (λ (im : List (ℕ × ℕ)). with_entries im (entries_by names kept)) is
    ∙ sym (ap (with_entries []) all
    ∙ fold-append (λ (held : List (ℕ × ℕ)) (entry : ℕ × ℕ). insert_entry nat_cmp held entry.0 entry.1)
    [] (entries_by_all names (take i kepts)) (entries_by names kept))

faultless_push : (names : Names) (before front : List KeptLine) (kept : KeptLine) → AreFaultlessKept names before front
    → kept_fault names (is_placed (entries_by_all names (before ++ front))) kept ≡ None → AreFaultlessKept names before (front ++ kept ∷ [])
faultless_push names before [] kept free none =
    (ap (λ (ks : List KeptLine). kept_fault names (is_placed (entries_by_all names ks)) kept) (sym (append-nil before)) ∙ none, tt)
faultless_push names before (k ∷ ks) kept free none = (
  free.0,
  faultless_push names (before ++ k ∷ []) ks kept free.1
      (ap (λ (rs : List KeptLine). kept_fault names (is_placed (entries_by_all names rs)) kept) (append_assoc before (k ∷ []) ks) ∙ none),
)

pub faultless_more : (names : Names) (kepts : List KeptLine) (i : ℕ) (kept : KeptLine) (image : List (ℕ × ℕ)) → i < length kepts → get_or kepts i kept ≡ kept
    → image ≡ with_entries [] (entries_by_all names (take i kepts)) → AreFaultlessKept names [] (take i kepts) → kept_fault names (has_byte image) kept ≡ None
    → AreFaultlessKept names [] (take (i + 1) kepts)
faultless_more names kepts i kept image within item is free none =
    let judged : kept_fault names (is_placed (entries_by_all names (take i kepts))) kept ≡ None =
    sym (ap (λ (im : List (ℕ × ℕ)). kept_fault names (has_byte im) kept) is
    ∙ ap (λ (t : ℕ → Bool). kept_fault names t kept) (taken_is (entries_by_all names (take i kepts)))) ∙ none in
    subst (λ (ks : List KeptLine). AreFaultlessKept names [] ks)
    (sym (front_more kepts i kept within item)) (faultless_push names [] (take i kepts) kept free judged)

pub whole : (kepts : List KeptLine) (i : ℕ) → length kepts ≤ i → take i kepts ≡ kepts
whole kepts i past = take_all i kepts past

pub no_entries : IsImage []
unfolding IsStrictlySortedBy
no_entries = record { loadable = λ k d h. absurd (omega arith); rising = tt; bytes = λ k d h. absurd (omega arith) }
