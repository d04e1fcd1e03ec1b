-- Where the lines of an accepted source stand, by counting and not by walking the lines.
-- Laws: claims above the definitions, each proved as the contract of a function.
use Rattle.std.specs.Prelude.{ℕ, ℤ, pos, ◌≡◌, ◌+◌, ◌↔◌, Bool, true, false, List}
use Rattle.std.specs.Prelude.{◌∷◌, ◌++◌, length, sum_by, Option, None, Some}
use Rattle.std.specs.List.{AllByRecursion}
use Rattle.assembler_lexeme.specs.declared.name.Name.{Name}
use Rattle.assembler_syntax.specs.declared.expression.Term.{Term}
use Rattle.assembler_syntax.specs.declared.statement.Statement.{Statement}
use Rattle.assembler_syntax.specs.declared.statement.Statement.TheVariants.{Segment, Ends, Equ, Org}
use Rattle.assembler_meaning.specs.declared.symbol.Location.{Location}
use Rattle.assembler_meaning.specs.declared.symbol.Symbol.TheVariants.{Label, Constant}
use Rattle.assembler_meaning.specs.Values.{Names, constant_of, meaning}
use Rattle.assembler.specs.Placement.{placed_by}
use Rattle.assembler.specs.LocatedLines.{LocatedLine, names_of}
use Rattle.assembler.specs.Gives.{Gives}

-- the statements after which no segment is open, or another one
abbrev pub changes_segment : Statement → Bool
changes_segment (Segment name n) = true
changes_segment Ends = true
changes_segment statement = false

-- the statements after which the location isn't that of the line before plus its bytes
abbrev pub sets_location : Statement → Bool
sets_location (Segment name n) = true
sets_location Ends = true
sets_location (Org n) = true
sets_location statement = false

-- the paragraph that SEGMENT says: its constant
abbrev pub SaysParagraph : Names → Statement → ℕ → Type 0
SaysParagraph known (Segment name n) paragraph = constant_of known n ≡ Some (pos paragraph)
SaysParagraph known statement paragraph = ⊥

-- the offset that a statement says: 0 for SEGMENT, its constant for ORG
abbrev pub SaysOffset : Names → Statement → ℕ → Type 0
SaysOffset known (Segment name n) offset = offset ≡ 0
SaysOffset known (Org n) offset = constant_of known n ≡ Some (pos offset)
SaysOffset known statement offset = ⊥

-- After these lines a segment is open at this paragraph: the last SEGMENT says it, and no ENDS follows that.
pub record IsOpenAt (lines : List LocatedLine) (paragraph : ℕ) : Type 0 where
  pub before : List LocatedLine
  pub opening : LocatedLine
  pub since : List LocatedLine
  pub split : lines ≡ before ++ opening ∷ since
  pub says : SaysParagraph (names_of before) opening.line.statement paragraph
  pub stays : AllByRecursion (λ row. changes_segment row.line.statement ≡ false) since

-- After these lines the next byte goes to this offset: what the last SEGMENT or ORG says, plus the sizes of the lines
-- since then; no ENDS is among them.
pub record IsCountedTo (lines : List LocatedLine) (offset : ℕ) : Type 0 where
  pub before : List LocatedLine
  pub setting : LocatedLine
  pub since : List LocatedLine
  pub split : lines ≡ before ++ setting ∷ since
  pub base : ℕ
  pub says : SaysOffset (names_of before) setting.line.statement base
  pub stays : AllByRecursion (λ row. sets_location row.line.statement ≡ false) since
  pub counted : offset ≡ base + sum_by (λ row. row.size) since

-- the name that SEGMENT or EQU defines, and its constant
abbrev pub said_constant : Statement → Option (Name × List Term)
said_constant (Segment name n) = Some (name, n)
said_constant (Equ name n) = Some (name, n)
said_constant statement = None

-- A line after these stands at a place if and only if they open its segment and count to its offset. A label on it is
-- that place in the names of the source, and a line with a label has a place. What SEGMENT or EQU names is there its
-- constant, by the lines before. A line places as many bytes as its size says.
pub record StandsWhereCounted (names : Names) (front : List LocatedLine) (row : LocatedLine) : Type 0 where
  pub place : (location : Location) → (row.location ≡ Some location)
      ↔ (IsOpenAt front location.segment × IsCountedTo front location.offset)
  pub label : (name : Name) → row.line.label ≡ Some name
      → (location : Location) × (row.location ≡ Some location) × (meaning names name ≡ Some (Label location))
  pub constant : (name : Name) (terms : List Term) → said_constant row.line.statement ≡ Some (name, terms)
      → (n : ℤ) × (constant_of (names_of front) terms ≡ Some n) × (meaning names name ≡ Some (Constant n))
  pub bytes : length (placed_by names row) ≡ row.size

-- each line of a source that gives an image stands where it is counted to
abbrev pub LinesStandWhereCounted : Type 0
LinesStandWhereCounted =
    (source : List ℕ) (image : List (ℕ × ℕ)) (gives : Gives source image) (front : List LocatedLine) (row : LocatedLine)
    (back : List LocatedLine)
    → gives.located_lines ≡ front ++ row ∷ back → StandsWhereCounted (names_of gives.located_lines) front row
