-- The second pass, by the rows that the first pass keeps.
-- For proofs alone: no public contract rests on it.
use Rattle.std.specs.Prelude.{ℕ, ◌≡◌, Bool, not, true, false, List, [], ◌∷◌, ◌++◌}
use Rattle.std.specs.Prelude.{length, fold, Option, None, Some, is_some, if◌then◌else◌}
use Rattle.std.specs.List.{flat_map, list_all, list_any}
use Rattle.std.specs.Ordering.{nat_cmp}
use Rattle.std.specs.BTreeMap.{insert_entry}
use Rattle.board_types.specs.Image.{image_byte}
use Rattle.assembler_syntax.specs.declared.statement.Item.{Item}
use Rattle.assembler_syntax.specs.declared.statement.DataWidth.{DataWidth}
use Rattle.assembler.specs.declared.fault.SourceFault.{SourceFault}
use Rattle.assembler.specs.declared.fault.SourceFault.TheVariants.{Undefined, OutOfRange}
use Rattle.assembler.specs.declared.fault.SourceFault.TheVariants.{OutOfSegment, Overlap, NotLoadable}
use Rattle.assembler.specs.declared.fault.AsmFault.{AsmFault}
use Rattle.assembler.specs.declared.fault.AsmFault.TheVariants.{SourceTooLong, InLine, Memory}
use Rattle.assembler.specs.declared.kept_line.Content.{Content}
use Rattle.assembler.specs.declared.kept_line.KeptLine.{KeptLine}
use Rattle.assembler_meaning.specs.declared.symbol.Location.{Location}
use Rattle.assembler_meaning.specs.Values.{Names}
use Rattle.assembler_meaning.specs.Data.{are_items_known, do_items_fit}
use Rattle.assembler.specs.Placement.{addresses_from, bytes_by, content_of, has_wrong_number, is_loadable}
use Rattle.assembler.specs.Placement.{is_past_end, lacks_name, late_fault, placed_at, is_placed}
use Rattle.assembler.specs.KeptLines.{content_in}
use Rattle.assembler.specs.LocatedLines.{LocatedLine}

-- whether the image has a byte at the address
abbrev pub has_byte : List (ℕ × ℕ) → ℕ → Bool
has_byte image address = is_some (image_byte image address)

-- an image with each of these bytes put into it
abbrev pub with_entries : List (ℕ × ℕ) → List (ℕ × ℕ) → List (ℕ × ℕ)
with_entries image placed = fold (λ held entry. insert_entry nat_cmp held entry.0 entry.1) image placed

-- what a kept row places: addresses, each with its byte
abbrev pub entries_by : Names → KeptLine → List (ℕ × ℕ)
entries_by names kept = placed_at names kept.location kept.size (content_in kept)

abbrev pub entries_by_all : Names → List KeptLine → List (ℕ × ℕ)
entries_by_all names located_lines = flat_map (entries_by names) located_lines

-- the fault of a kept row, if these addresses are taken
abbrev pub kept_fault : Names → (ℕ → Bool) → KeptLine → Option SourceFault
kept_fault names is_taken kept = late_fault names is_taken kept.has_label kept.location kept.size (content_in kept)

-- the fault in the names and numbers of what stands at a location
abbrev pub content_fault : Names → Location → ℕ → Option Content → Option SourceFault
content_fault names location size content =
    if lacks_name names location content then Some Undefined else (
    if has_wrong_number names location size content then Some OutOfRange else None)

abbrev pub data_fault : Names → Location → DataWidth → List Item → Option SourceFault
data_fault names location width items =
    if not (are_items_known names location.offset items) then Some Undefined else (
    if not (do_items_fit names location.offset width items) then Some OutOfRange else None)

-- the fault in the place of this many bytes, if these addresses are taken
abbrev pub placing_fault : (ℕ → Bool) → Bool → Location → ℕ → Option SourceFault
placing_fault is_taken has_label location size =
    if is_past_end location size has_label then Some OutOfSegment else (
    if list_any is_taken (addresses_from location 0 size) then Some Overlap else (
    if list_all is_loadable (addresses_from location 0 size) then None else Some NotLoadable))

-- if its names are defined and its numbers fit, what stands at a location has as many bytes as its row says
abbrev pub HasSizeAt : Names → Location → ℕ → Option Content → Type 0
HasSizeAt names location size content =
    lacks_name names location content ≡ false → has_wrong_number names location size content ≡ false
    → length (bytes_by names location size content) ≡ size

abbrev pub HasSize : Names → Option Location → ℕ → Option Content → Type 0
HasSize names (Some location) size content = HasSizeAt names location size content
HasSize names None size content = Unit {0}

abbrev pub KeepsSize : Names → KeptLine → Type 0
KeepsSize names kept = HasSize names kept.location kept.size (content_in kept)

-- the pass stops at the line with this number, for this fault or for want of memory
abbrev pub StopsAt : ℕ → Option SourceFault → AsmFault → Type 0
StopsAt number found (InLine fault at) = (at ≡ number) × (found ≡ Some fault)
StopsAt number found SourceTooLong = ⊥
StopsAt number found Memory = Unit {0}

-- no kept row has a fault in the light of those before it
abbrev pub AreFaultlessKept : Names → List KeptLine → List KeptLine → Type 0
AreFaultlessKept names before [] = Unit {0}
AreFaultlessKept names before (kept ∷ more) =
    (kept_fault names (is_placed (entries_by_all names before)) kept ≡ None)
    × AreFaultlessKept names (before ++ kept ∷ []) more

-- what stands at a location has no fault if these addresses are taken
pub record CanStand (names : Names) (is_taken : ℕ → Bool) (has_label : Bool) (location : Location) (size : ℕ)
    (content : Option Content) : Type 0 where
  pub known : lacks_name names location content ≡ false
  pub fits : has_wrong_number names location size content ≡ false
  pub within : is_past_end location size has_label ≡ false
  pub free : list_any is_taken (addresses_from location 0 size) ≡ false
  pub loadable : list_all is_loadable (addresses_from location 0 size) ≡ true

-- what is kept of a row
pub record IsKept (kept : KeptLine) (located : LocatedLine) : Type 0 where
  pub label : kept.has_label ≡ is_some located.line.label
  pub location : kept.location ≡ located.location
  pub size : kept.size ≡ located.size
  pub content : content_in kept ≡ content_of located.line.statement located.form

abbrev pub AreKeptLines : List KeptLine → List LocatedLine → Type 0
AreKeptLines [] [] = Unit {0}
AreKeptLines [] (located ∷ located_lines) = ⊥
AreKeptLines (kept ∷ more) [] = ⊥
AreKeptLines (kept ∷ more) (located ∷ located_lines) = IsKept kept located × AreKeptLines more located_lines

abbrev pub LineHasSize : Names → LocatedLine → Type 0
LineHasSize names located = HasSize names located.location located.size (content_of located.line.statement located.form)
