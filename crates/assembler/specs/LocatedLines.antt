-- Lines in the light of the lines before them: where they stand, what they define, and which faults they have.
-- To be believed: the headline rests on it.
use Rattle.std.specs.Prelude.{ℕ, ℤ, pos, negsuc, ◌≡◌, ◌+◌, Bool, true, false, ◌||◌, if◌then◌else◌, List}
use Rattle.std.specs.Prelude.{[], ◌∷◌, ◌++◌, Option, None, Some, Ok, is_some, fold, option_and_then}
use Rattle.std.specs.Option.{option_map, option_map_or}
use Rattle.std.specs.List.{list_any, flat_map}
use Rattle.isa.specs.declared.form.Form.{Form}
use Rattle.assembler_lexeme.specs.declared.name.Name.{Name}
use Rattle.assembler_syntax.specs.declared.statement.Line.{Line}
use Rattle.assembler_syntax.specs.declared.statement.Statement.{Statement}
use Rattle.assembler_syntax.specs.declared.statement.Statement.TheVariants.{Segment, Ends, Equ, Org, Data, Instruction}
use Rattle.assembler_syntax.specs.Lines.{read_line}
use Rattle.assembler.specs.declared.fault.SourceFault.{SourceFault}
use Rattle.assembler.specs.declared.fault.SourceFault.TheVariants.{BadLine, UnknownName, BadForm}
use Rattle.assembler.specs.declared.fault.SourceFault.TheVariants.{TwiceDefined, NoSegment}
use Rattle.assembler_meaning.specs.declared.symbol.Location.{Location}
use Rattle.assembler_meaning.specs.declared.symbol.Symbol.TheVariants.{Label, Constant}
use Rattle.assembler_meaning.specs.Values.{Names, same_name, constant_of, is_defined}
use Rattle.assembler_meaning.specs.Instructions.{instruction_asked, instruction_size, IsFormFor}
use Rattle.assembler_meaning.specs.Data.{counts_of, data_size, natural, is_other, is_wrong_count, is_unknown}

-- a line of a source, with the form that its instruction has, how many bytes it places, where the first of them goes,
-- where the byte after them goes, and the names that it defines, its label first
pub record LocatedLine : Type 0 where
  pub line : Line
  pub form : Option Form
  pub size : ℕ
  pub location : Option Location
  pub next : Option Location
  pub names : Names

-- what these lines define
abbrev pub names_of : List LocatedLine → Names
names_of located_lines = flat_map (λ located. located.names) located_lines

-- where the byte after these lines goes
abbrev pub location_following : List LocatedLine → Option Location
location_following located_lines = fold (λ location located. located.next) None located_lines

abbrev pub IsFormOf : Names → Statement → Option Form → Type 0
IsFormOf names (Instruction i) form = IsFormFor (instruction_asked names i) form
IsFormOf names statement form = form ≡ None

-- how many bytes a line places; of an instruction its form is enough to say so
abbrev pub size_of : Names → Statement → Option Form → ℕ
size_of names (Data width items) form = data_size names width items
size_of names (Instruction i) (Some f) = instruction_size f i
size_of names statement form = 0

-- the start of a segment
abbrev pub opened_at : ℤ → Location
opened_at n = record { segment = natural n; offset = 0 }

abbrev pub set_to : ℤ → Location → Location
set_to n location = record location { offset = natural n }

abbrev pub moved_on : ℕ → Location → Location
moved_on size location = record location { offset = location.offset + size }

-- where the byte after a statement goes: SEGMENT opens a segment at offset 0, ENDS closes it, ORG sets the offset, and
-- all else moves on
abbrev pub location_after : Names → Option Location → Statement → ℕ → Option Location
location_after names location (Segment name n) size = option_map opened_at (constant_of names n)
location_after names location Ends size = None
location_after names location (Org n) size = option_and_then (λ v. option_map (set_to v) location) (constant_of names n)
location_after names location statement size = option_map (moved_on size) location

-- a label stands for the place of the next byte
abbrev pub label_definition : Option Location → Option Name → Names
label_definition (Some location) (Some name) = (name, Label location) ∷ []
label_definition location label = []

-- a name of SEGMENT or EQU stands for its constant
abbrev pub constant_definition : Name → Option ℤ → Names
constant_definition name (Some n) = (name, Constant n) ∷ []
constant_definition name None = []

abbrev pub statement_definition : Names → Statement → Names
statement_definition names (Segment name n) = constant_definition name (constant_of names n)
statement_definition names (Equ name n) = constant_definition name (constant_of names n)
statement_definition names statement = []

-- a text makes this row, in the light of the names so far and of where the lines before it end
pub record IsLocatedLine (known : Names) (here : Option Location) (text : List ℕ) (located : LocatedLine) : Type 0 where
  pub reads : read_line text ≡ Ok located.line
  pub form : IsFormOf known located.line.statement located.form
  pub size : located.size ≡ size_of known located.line.statement located.form
  pub location : located.location ≡ here
  pub next : located.next ≡ location_after known here located.line.statement located.size
  pub names : located.names
      ≡ label_definition here located.line.label ++ statement_definition known located.line.statement

-- whether a constant of a statement is out of range: paragraphs and locations are words, counts before DUP are words
-- but not 0, and EQU takes any number of a double word
abbrev pub has_wrong_constant : Names → Statement → Bool
has_wrong_constant names (Segment name n) = is_other (pos 0) (pos 65535) (constant_of names n)
has_wrong_constant names (Org n) = is_other (pos 0) (pos 65535) (constant_of names n)
has_wrong_constant names (Equ name n) = is_other (negsuc 2147483647) (pos 4294967295) (constant_of names n)
has_wrong_constant names (Data width items) = list_any (is_wrong_count names) (counts_of items)
has_wrong_constant names statement = false

abbrev pub has_unknown_constant : Names → Statement → Bool
has_unknown_constant names (Segment name n) = is_unknown names n
has_unknown_constant names (Org n) = is_unknown names n
has_unknown_constant names (Equ name n) = is_unknown names n
has_unknown_constant names (Data width items) = list_any (is_unknown names) (counts_of items)
has_unknown_constant names statement = false

abbrev pub opens_within : Option Location → Statement → Bool
opens_within (Some location) (Segment name n) = true
opens_within location statement = false

abbrev pub lacks_form : Statement → Option Form → Bool
lacks_form (Instruction i) None = true
lacks_form statement form = false

-- the name that SEGMENT or EQU defines
abbrev pub statement_name : Statement → Option Name
statement_name (Segment name n) = Some name
statement_name (Equ name n) = Some name
statement_name statement = None

abbrev pub is_same : Option Name → Option Name → Bool
is_same (Some a) (Some b) = same_name a b
is_same a b = false

-- whether a line defines a name that is defined already, or defines one twice
abbrev pub defines_again : Names → Line → Bool
defines_again names line =
    option_map_or (is_defined names) line.label false
    || (option_map_or (is_defined names) (statement_name line.statement) false
    || is_same line.label (statement_name line.statement))

-- the statements that need an open segment
abbrev pub wants_segment : Statement → Bool
wants_segment Ends = true
wants_segment (Org n) = true
wants_segment (Data width items) = true
wants_segment (Instruction i) = true
wants_segment statement = false

-- whether a line needs an open segment, as all labels do, and there is none
abbrev pub stands_outside : Option Location → Line → Bool
stands_outside (Some location) line = false
stands_outside None line = is_some line.label || wants_segment line.statement

-- The fault that a line has in the light of the lines before it. If there are several, it is the one with the least
-- number.
unfoldable pub early_fault : Names → Option Location → Line → Option Form → Option SourceFault
early_fault names location line form =
    if opens_within location line.statement || has_wrong_constant names line.statement then Some BadLine else (
    if has_unknown_constant names line.statement then Some UnknownName else (
    if lacks_form line.statement form then Some BadForm else (
    if defines_again names line then Some TwiceDefined else (
    if stands_outside location line then Some NoSegment else None))))

-- a text makes this row after the rows before it, and has no fault there
pub record IsCleanLine (before : List LocatedLine) (text : List ℕ) (located : LocatedLine) : Type 0 where
  pub is_located_line : IsLocatedLine (names_of before) (location_following before) text located
  pub clean : early_fault (names_of before) located.location located.line located.form ≡ None

-- the texts make these rows, each of them clean after those before it
abbrev pub AreLocatedLines : List LocatedLine → List (List ℕ) → List LocatedLine → Type 0
AreLocatedLines before [] [] = Unit {0}
AreLocatedLines before [] (located ∷ located_lines) = ⊥
AreLocatedLines before (text ∷ texts) [] = ⊥
AreLocatedLines before (text ∷ texts) (located ∷ located_lines) =
    IsCleanLine before text located × AreLocatedLines (before ++ located ∷ []) texts located_lines
