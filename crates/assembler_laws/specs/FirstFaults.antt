-- The order of faults.
-- Laws: claims above the definitions, each proved as the contract of a function.
use Rattle.std.specs.Prelude.{ℕ, ◌≡◌, ◌≢◌, ◌⊎◌, ◌<◌, ◌≤◌, ◌+◌, ◌↔◌, Bool, true, false}
use Rattle.std.specs.Prelude.{◌||◌, List, [], ◌∷◌, ◌++◌, length, take, Option, Some}
use Rattle.std.specs.List.{list_all, list_any}
use Rattle.isa.specs.declared.form.Form.{Form}
use Rattle.assembler_syntax.specs.declared.statement.Line.{Line}
use Rattle.board_types.specs.TextLines.{text_lines}
use Rattle.assembler_meaning.specs.declared.symbol.Location.{Location}
use Rattle.assembler_meaning.specs.Values.{Names}
use Rattle.assembler.specs.declared.fault.AsmFault.{AsmFault}
use Rattle.assembler.specs.declared.fault.AsmFault.TheVariants.{InLine, Memory}
use Rattle.assembler.specs.declared.fault.SourceFault.{SourceFault}
use Rattle.assembler.specs.declared.fault.SourceFault.TheVariants.{BadLine, UnknownName, BadForm, TwiceDefined}
use Rattle.assembler.specs.declared.fault.SourceFault.TheVariants.{Undefined, OutOfRange, OutOfSegment}
use Rattle.assembler.specs.declared.fault.SourceFault.TheVariants.{Overlap, NoSegment, NotLoadable}
use Rattle.assembler.specs.declared.kept_line.Content.{Content}
use Rattle.assembler.specs.FirstFault.{IsEarlyFault, IsFirst, IsLateFault, source_fault_number}
use Rattle.assembler.specs.Gives.{source_limit, Gives}
use Rattle.assembler.specs.Placement.{addresses_from, fault_at, has_wrong_number, is_loadable, is_past_end, lacks_name}
use Rattle.assembler.specs.LocatedLines.{AreLocatedLines, LocatedLine, defines_again, early_fault, has_unknown_constant}
use Rattle.assembler.specs.LocatedLines.{has_wrong_constant, lacks_form, opens_within, stands_outside}

-- at most one fault is first, not counting want of memory
abbrev pub OneFaultIsFirst : Type 0
OneFaultIsFirst =
    (source : List ℕ) (a b : AsmFault) → a ≢ Memory → b ≢ Memory → IsFirst source a → IsFirst source b → a ≡ b

-- each source has a first fault other than want of memory, or gives an image
abbrev pub EachSourceHasAnOutcome : Type 0
EachSourceHasAnOutcome =
    (source : List ℕ) → ((fault : AsmFault) × (fault ≢ Memory) × IsFirst source fault)
    ⊎ ((image : List (ℕ × ℕ)) × Gives source image)

-- a source that gives an image has no fault but want of memory
abbrev pub NoFaultBesideImage : Type 0
NoFaultBesideImage =
    (source : List ℕ) (image : List (ℕ × ℕ)) (fault : AsmFault) → Gives source image → IsFirst source fault
    → fault ≡ Memory

-- the faults of the first pass, which lines have by themselves or in the light of the lines before; the other faults
-- are those of the second pass, in the light of all lines
abbrev pub is_early : SourceFault → Bool
is_early Undefined = false
is_early OutOfRange = false
is_early OutOfSegment = false
is_early Overlap = false
is_early NotLoadable = false
is_early fault = true

-- Each fault belongs to one pass, and a source that has one of the first pass, on whatever line, has none of the
-- second.
pub record ComeInPasses (source : List ℕ) : Type 0 where
  pub early : (fault : SourceFault) (number : ℕ) → IsEarlyFault source fault number → is_early fault ≡ true
  pub late : (fault : SourceFault) (number : ℕ) → IsLateFault source fault number → is_early fault ≡ false
  pub never_both : (a b : SourceFault) (m n : ℕ) → IsEarlyFault source a m → IsLateFault source b n → ⊥

abbrev pub FaultsComeInPasses : Type 0
FaultsComeInPasses = (source : List ℕ) → ComeInPasses source

-- The line of the first fault is one of the source; each line before it makes a clean row, and if the fault is one of
-- the second pass, all lines do.
pub record IsFirstLine (source : List ℕ) (fault : SourceFault) (number : ℕ) : Type 0 where
  pub counted : (0 < number) × (number ≤ length (text_lines source))
  pub before : (front : List (List ℕ)) (text : List ℕ) (back : List (List ℕ))
      → text_lines source ≡ front ++ text ∷ back → length front + 1 < number
      → (rows : List LocatedLine) × AreLocatedLines [] (front ++ text ∷ []) rows
  pub all : is_early fault ≡ false → (rows : List LocatedLine) × AreLocatedLines [] (text_lines source) rows

abbrev pub LinesBeforeAreClean : Type 0
LinesBeforeAreClean =
    (source : List ℕ) (fault : SourceFault) (number : ℕ) → IsFirst source (InLine fault number)
    → IsFirstLine source fault number

-- A fault of the first pass stays the first fault, whatever lines follow its own.
abbrev pub LaterLinesDoNotCount : Type 0
LaterLinesDoNotCount =
    (s t : List ℕ) (fault : SourceFault) (number : ℕ) → IsEarlyFault s fault number
    → take number (text_lines t) ≡ take number (text_lines s)
    → length t ≤ source_limit → IsFirst t (InLine fault number)

-- which faults a line that is read has, in the light of the lines before it
abbrev pub HasEarly : Names → Option Location → Line → Option Form → SourceFault → Type 0
HasEarly known location line form BadLine =
    (opens_within location line.statement || has_wrong_constant known line.statement) ≡ true
HasEarly known location line form UnknownName = has_unknown_constant known line.statement ≡ true
HasEarly known location line form BadForm = lacks_form line.statement form ≡ true
HasEarly known location line form TwiceDefined = defines_again known line ≡ true
HasEarly known location line form NoSegment = stands_outside location line ≡ true
HasEarly known location line form fault = ⊥

-- which faults what stands at a place has, in the light of all names and of the addresses that are taken
abbrev pub HasLate : Names → (ℕ → Bool) → Bool → Location → ℕ → Option Content → SourceFault → Type 0
HasLate names is_taken has_label location size content Undefined = lacks_name names location content ≡ true
HasLate names is_taken has_label location size content OutOfRange = has_wrong_number names location size content ≡ true
HasLate names is_taken has_label location size content OutOfSegment = is_past_end location size has_label ≡ true
HasLate names is_taken has_label location size content Overlap =
    list_any is_taken (addresses_from location 0 size) ≡ true
HasLate names is_taken has_label location size content NotLoadable =
    list_all is_loadable (addresses_from location 0 size) ≡ false
HasLate names is_taken has_label location size content fault = ⊥

-- the fault is there, and no other that is there has a lesser number
pub record IsLeast (Has : SourceFault → Type 0) (fault : SourceFault) : Type 0 where
  pub has : Has fault
  pub least : (other : SourceFault) → Has other → source_fault_number fault ≤ source_fault_number other

-- in each pass, the fault of a line that is read is the one with the least number of those that it has
pub record LeastNumbersComeFirst : Type 0 where
  pub early : (known : Names) (location : Option Location) (line : Line) (form : Option Form) (fault : SourceFault)
      → (early_fault known location line form ≡ Some fault) ↔ IsLeast (HasEarly known location line form) fault
  pub late : (names : Names) (is_taken : ℕ → Bool) (has_label : Bool) (location : Location) (size : ℕ)
      (content : Option Content) (fault : SourceFault)
      → (fault_at names is_taken has_label location size content ≡ Some fault)
      ↔ IsLeast (HasLate names is_taken has_label location size content) fault
