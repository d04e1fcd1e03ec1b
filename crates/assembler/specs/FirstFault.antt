-- The first fault of a source.
-- To be believed: the headline rests on it.
use Rattle.std.specs.Prelude.{ℕ, ◌≡◌, ◌≤◌, ◌<◌, ◌+◌, ◌⊎◌, codes, List, [], ◌∷◌, ◌++◌, length, Option, None, Some, Err}
use Rattle.assembler_lexeme.specs.declared.fault.SyntaxFault.{SyntaxFault}
use Rattle.assembler_lexeme.specs.declared.fault.SyntaxFault.TheVariants as line_faults
use Rattle.board_types.specs.TextLines.{text_lines}
use Rattle.assembler_syntax.specs.Lines.{read_line}
use Rattle.assembler.specs.declared.fault.SourceFault.{SourceFault}
use Rattle.assembler.specs.declared.fault.SourceFault.TheVariants.{BadCharacter, BadLine, UnknownName, BadForm}
use Rattle.assembler.specs.declared.fault.SourceFault.TheVariants.{TwiceDefined, Undefined, OutOfRange}
use Rattle.assembler.specs.declared.fault.SourceFault.TheVariants.{OutOfSegment, Overlap, NoSegment, NotLoadable}
use Rattle.assembler.specs.declared.fault.AsmFault.{AsmFault}
use Rattle.assembler.specs.declared.fault.AsmFault.TheVariants.{SourceTooLong, InLine, Memory}
use Rattle.assembler_meaning.specs.declared.symbol.Location.{Location}
use Rattle.assembler_meaning.specs.Values.{Names}
use Rattle.assembler.specs.LocatedLines.{LocatedLine, IsLocatedLine, AreLocatedLines}
use Rattle.assembler.specs.LocatedLines.{early_fault, names_of, location_following}
use Rattle.assembler.specs.Placement.{located_fault}
use Rattle.assembler.specs.Gives.{source_limit}

abbrev pub fault_of_line : SyntaxFault → SourceFault
fault_of_line line_faults.BadCharacter = BadCharacter
fault_of_line line_faults.BadLine = BadLine
fault_of_line line_faults.UnknownName = UnknownName

-- the fault of a text that can't be read
abbrev pub IsReadFault : List ℕ → SourceFault → Type 0
IsReadFault text fault = (found : SyntaxFault) × (read_line text ≡ Err found) × (fault ≡ fault_of_line found)

-- the fault of a text's row, in the light of the lines before it
abbrev pub IsLineFault : Names → Option Location → List ℕ → SourceFault → Type 0
IsLineFault names location text fault =
    (located : LocatedLine) × IsLocatedLine names location text located
    × (early_fault names located.location located.line located.form ≡ Some fault)

abbrev pub IsTextFault : Names → Option Location → List ℕ → SourceFault → Type 0
IsTextFault names location text fault = IsReadFault text fault ⊎ IsLineFault names location text fault

-- a fault that the first pass finds: the lines before the one with this number are clean, and it has the fault
pub record IsEarlyFault (source : List ℕ) (fault : SourceFault) (number : ℕ) : Type 0 where
  pub front : List (List ℕ)
  pub text : List ℕ
  pub back : List (List ℕ)
  pub texts : text_lines source ≡ front ++ text ∷ back
  pub counted : length front + 1 ≡ number
  pub located_lines : List LocatedLine
  pub clean : AreLocatedLines [] front located_lines
  pub found : IsTextFault (names_of located_lines) (location_following located_lines) text fault

-- no row has a fault in the light of those before it
abbrev pub AreFaultless : Names → List LocatedLine → List LocatedLine → Type 0
AreFaultless names before [] = Unit {0}
AreFaultless names before (located ∷ located_lines) =
    (located_fault names before located ≡ None) × AreFaultless names (before ++ located ∷ []) located_lines

-- the row with this number, from 1 on, has the fault, and the rows before it can be placed
pub record HasLateFault (located_lines : List LocatedLine) (fault : SourceFault) (number : ℕ) : Type 0 where
  pub front : List LocatedLine
  pub located : LocatedLine
  pub back : List LocatedLine
  pub split : located_lines ≡ front ++ located ∷ back
  pub counted : length front + 1 ≡ number
  pub placed : AreFaultless (names_of located_lines) [] front
  pub found : located_fault (names_of located_lines) front located ≡ Some fault

-- a fault that the second pass finds: all lines are clean, and the first of their rows that can't be placed has it
pub record IsLateFault (source : List ℕ) (fault : SourceFault) (number : ℕ) : Type 0 where
  pub located_lines : List LocatedLine
  pub clean : AreLocatedLines [] (text_lines source) located_lines
  pub found : HasLateFault located_lines fault number

-- The fault that is answered for a source. One that is too long has that fault; otherwise the first fault of the first
-- pass is answered, and if there is none, that of the second. Want of memory may come for any source.
abbrev pub IsFirst : List ℕ → AsmFault → Type 0
IsFirst source SourceTooLong = source_limit < length source
IsFirst source (InLine fault number) =
    (length source ≤ source_limit) × (IsEarlyFault source fault number ⊎ IsLateFault source fault number)
IsFirst source Memory = Unit {0}

-- a fault's title: its number and its name
abbrev pub source_fault_title : SourceFault → ℕ × List ℕ
source_fault_title BadCharacter = (2, codes "BadCharacter")
source_fault_title BadLine = (3, codes "BadLine")
source_fault_title UnknownName = (4, codes "UnknownName")
source_fault_title BadForm = (5, codes "BadForm")
source_fault_title TwiceDefined = (6, codes "TwiceDefined")
source_fault_title Undefined = (7, codes "Undefined")
source_fault_title OutOfRange = (8, codes "OutOfRange")
source_fault_title OutOfSegment = (9, codes "OutOfSegment")
source_fault_title Overlap = (10, codes "Overlap")
source_fault_title NoSegment = (11, codes "NoSegment")
source_fault_title NotLoadable = (12, codes "NotLoadable")

abbrev pub fault_title : AsmFault → ℕ × List ℕ
fault_title SourceTooLong = (1, codes "SourceTooLong")
fault_title (InLine fault line) = source_fault_title fault
fault_title Memory = (13, codes "Memory")

abbrev pub source_fault_number : SourceFault → ℕ
source_fault_number fault = (source_fault_title fault).0

abbrev pub source_fault_name : SourceFault → List ℕ
source_fault_name fault = (source_fault_title fault).1

abbrev pub fault_number : AsmFault → ℕ
fault_number fault = (fault_title fault).0

abbrev pub fault_name : AsmFault → List ℕ
fault_name fault = (fault_title fault).1

-- the line that a fault names, if it names one
abbrev pub fault_line : AsmFault → Option ℕ
fault_line (InLine fault line) = Some line
fault_line _ = None
