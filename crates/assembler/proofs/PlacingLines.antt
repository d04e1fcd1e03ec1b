-- What stands at a location, if it has no fault.
use Rattle.std.proofs.Common.{◌≡◌, ◌∙◌, ℕ, ◌+◌, ◌<◌, ◌≤◌, ◌&&◌, List, length, refl, sym, ap, subst}
use Rattle.std.proofs.Common.{arith, Bool, true, false, Option, None, Some, nat_lt, if◌then◌else◌}
use Rattle.std.specs.List.{list_all, list_any}
use Rattle.std.proofs.lemmas.Bool.{or_parts}
use Rattle.std.proofs.lemmas.Bool.Decides.{nat_tests}
use Rattle.assembler.specs.declared.fault.SourceFault.{SourceFault}
use Rattle.assembler.specs.declared.fault.SourceFault.TheVariants.{Undefined, OutOfRange, OutOfSegment, Overlap, NotLoadable}
use Rattle.assembler.specs.declared.kept_line.Content.{Content}
use Rattle.assembler.specs.declared.kept_line.KeptLine.{KeptLine}
use Rattle.assembler_meaning.specs.declared.symbol.Location.{Location}
use Rattle.assembler_meaning.specs.Values.{Names}
use Rattle.assembler.specs.Placement.{addresses_from, bytes_by, has_wrong_number, is_loadable, is_past_end, lacks_name, late_fault}
use Rattle.assembler.specs.KeptLines.{content_in}
use Rattle.assembler.specs.SecondPass.{CanStand, HasSize, HasSizeAt, KeepsSize, content_fault, kept_fault}

pub record IsElse (test : Bool) (rest : Option SourceFault) : Type 0 where
  pub fails : test ≡ false
  pub goes_on : rest ≡ None

pub is_else : (test : Bool) (fault : SourceFault) (rest : Option SourceFault) → (if test then Some fault else rest) ≡ None → IsElse test rest
is_else true fault rest none = cc
is_else false fault rest none = record { fails = refl; goes_on = none }

at_last : (test : Bool) (fault : SourceFault) → (if test then None else Some fault) ≡ None → test ≡ true
at_last true fault none = refl
at_last false fault none = cc

pub can_stand : (names : Names) (is_taken : ℕ → Bool) (has_label : Bool) (location : Location) (size : ℕ) (content : Option Content)
    → late_fault names is_taken has_label (Some location) size content ≡ None → CanStand names is_taken has_label location size content
unfolding late_fault
can_stand names is_taken has_label location size content none =
    let first = is_else (lacks_name names location content) Undefined _ none in
    let second = is_else (has_wrong_number names location size content) OutOfRange _ first.goes_on in
    let third = is_else (is_past_end location size has_label) OutOfSegment _ second.goes_on in
    let fourth = is_else (list_any is_taken (addresses_from location 0 size)) Overlap _ third.goes_on in
    record {
      known = first.fails;
      fits = second.fails;
      within = third.fails;
      free = fourth.fails;
      loadable = at_last (list_all is_loadable (addresses_from location 0 size)) NotLoadable fourth.goes_on;
    }

below_end : (size last : ℕ) → (nat_lt 0 size && nat_lt 65536 last) ≡ false → 0 < size → last ≤ 65536
below_end size last none some = grind (arith, nat_tests)

pub ends_within : (location : Location) (size : ℕ) (has_label : Bool) → is_past_end location size has_label ≡ false → 0 < size → location.offset + size ≤ 65536
ends_within location size has_label within some =
    below_end size (location.offset + size)
    (or_parts (nat_lt 0 size && nat_lt 65536 (location.offset + size)) (has_label && nat_lt 65535 location.offset) within).0 some

-- what a kept row places, if it has no fault
pub kept_stands : (names : Names) (is_taken : ℕ → Bool) (kept : KeptLine) (location : Location) (content : Option Content) → kept.location ≡ Some location
    → content_in kept ≡ content → kept_fault names is_taken kept ≡ None → CanStand names is_taken kept.has_label location kept.size content
kept_stands names is_taken kept location content at is none =
    can_stand names is_taken kept.has_label location kept.size content
    (sym (ap (λ (o : Option Location). late_fault names is_taken kept.has_label o kept.size (content_in kept)) at
    ∙ ap (λ (o : Option Content). late_fault names is_taken kept.has_label (Some location) kept.size o) is) ∙ none)

pub kept_size : (names : Names) (kept : KeptLine) (location : Location) (content : Option Content) → kept.location ≡ Some location → content_in kept ≡ content
    → KeepsSize names kept → HasSizeAt names location kept.size content
kept_size names kept location content at is size =
    subst (λ (o : Option Content). HasSize names (Some location) kept.size o) is
    (subst (λ (o : Option Location). HasSize names o kept.size (content_in kept)) at size)

no_content_fault : (known fits : Bool) → known ≡ false → fits ≡ false → (if known then Some Undefined else (if fits then Some OutOfRange else None)) ≡ None
no_content_fault known fits one two = rw (one, two) refl

pub content_free : (names : Names) (is_taken : ℕ → Bool) (has_label : Bool) (location : Location) (size : ℕ) (content : Option Content)
    → CanStand names is_taken has_label location size content → content_fault names location size content ≡ None
content_free names is_taken has_label location size content stands =
    no_content_fault (lacks_name names location content) (has_wrong_number names location size content) stands.known stands.fits

-- bytes without a fault are within the segment, at addresses that the board can be loaded at
pub bytes_within : (names : Names) (is_taken : ℕ → Bool) (has_label : Bool) (location : Location) (size : ℕ) (content : Option Content) (bytes : List ℕ)
    → CanStand names is_taken has_label location size content → HasSizeAt names location size content → bytes ≡ bytes_by names location size content
    → 0 < length bytes → location.offset + length bytes ≤ 65536
bytes_within names is_taken has_label location size content bytes stands has_size is some =
    let long : length bytes ≡ size = ap length is ∙ has_size stands.known stands.fits in
    rw long (ends_within location size has_label stands.within (rw long at some))

pub bytes_loadable : (names : Names) (is_taken : ℕ → Bool) (has_label : Bool) (location : Location) (size : ℕ) (content : Option Content) (bytes : List ℕ)
    → CanStand names is_taken has_label location size content → HasSizeAt names location size content → bytes ≡ bytes_by names location size content
    → list_all is_loadable (addresses_from location 0 (length bytes)) ≡ true
bytes_loadable names is_taken has_label location size content bytes stands has_size is =
    ap (λ (n : ℕ). list_all is_loadable (addresses_from location 0 n)) (ap length is ∙ has_size stands.known stands.fits) ∙ stands.loadable
