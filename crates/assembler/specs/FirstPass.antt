-- What the first pass does with a line, and what it has read before one.
-- For proofs alone: no public contract rests on it.
use Rattle.std.specs.Prelude.{ℕ, ◌≡◌, ◌≤◌, ◌+◌, ◌*◌, ◌^◌, false, List, []}
use Rattle.std.specs.Prelude.{◌∷◌, ◌++◌, length, Option, None, Some, is_some}
use Rattle.std.specs.List.{AllByRecursion}
use Rattle.isa.specs.declared.form.Form.{Form}
use Rattle.assembler_lexeme.specs.declared.name.Name.{Name}
use Rattle.assembler_syntax.specs.declared.statement.Line.{Line}
use Rattle.board_types.specs.TextLines.{text_lines}
use Rattle.assembler.specs.declared.fault.AsmFault.{AsmFault}
use Rattle.assembler.specs.declared.fault.AsmFault.TheVariants.{SourceTooLong, InLine, Memory}
use Rattle.assembler.specs.declared.fault.LineStop.{LineStop}
use Rattle.assembler.specs.declared.fault.LineStop.TheVariants as stops
use Rattle.assembler.specs.declared.kept_line.KeptLine.{KeptLine}
use Rattle.assembler.specs.declared.early.Before.{Before}
use Rattle.assembler_meaning.specs.declared.symbol.Location.{Location}
use Rattle.assembler_meaning.specs.declared.symbol.Symbol.{Symbol}
use Rattle.assembler_meaning.specs.Values.{Names, AreSmall, is_defined}
use Rattle.assembler.specs.LocatedLines.{LocatedLine, IsLocatedLine, AreLocatedLines, early_fault, label_definition}
use Rattle.assembler.specs.LocatedLines.{names_of, size_of, location_after, location_following, statement_definition}
use Rattle.assembler.specs.Placement.{content_of}
use Rattle.assembler.specs.FirstFault.{IsTextFault}
use Rattle.assembler.specs.KeptLines.{AreKept, IsSteady, content_in}

-- how far into its segment the next byte goes
abbrev pub offset_of : Option Location → ℕ
offset_of (Some location) = location.offset
offset_of None = 0

-- the names of a definition, if there is one
abbrev pub definition_names : Option (Name × Symbol) → Names
definition_names (Some definition) = definition ∷ []
definition_names None = []

abbrev pub IsNewDefinition : Names → Option (Name × Symbol) → Type 0
IsNewDefinition names (Some definition) = is_defined names definition.0 ≡ false
IsNewDefinition names None = Unit {0}

-- how many bytes a line places at most, by the length of its text
abbrev pub size_limit : ℕ → ℕ
size_limit n = 2 ^ 18 * (n + 1)

-- the row of a line with its form, in the light of the lines before it
abbrev pub located_of : Names → Option Location → Line → Option Form → LocatedLine
located_of names location line form = record {
  line = line;
  form = form;
  size = size_of names line.statement form;
  location = location;
  next = location_after names location line.statement (size_of names line.statement form);
  names = label_definition location line.label ++ statement_definition names line.statement;
}

-- what is kept of a row, with the place of its text
pub record KeepsLine (start length : ℕ) (kept : KeptLine) (located : LocatedLine) : Type 0 where
  pub starts : kept.start ≡ start
  pub ends : kept.length ≡ length
  pub label : kept.has_label ≡ is_some located.line.label
  pub location : kept.location ≡ located.location
  pub size : kept.size ≡ located.size
  pub content : content_in kept ≡ content_of located.line.statement located.form

-- a row is added to the lines before it, and kept
pub record AddsLine (old new : Before) (start length : ℕ) (located : LocatedLine) (kept : KeptLine) : Type 0 where
  pub location : new.location ≡ located.next
  pub names : new.symbols.entries ≡ old.symbols.entries ++ located.names
  pub keeps : KeepsLine start length kept located
  pub steady : IsSteady kept
  pub small : AreSmall new.symbols.entries
  pub grows : offset_of new.location ≤ offset_of old.location + size_limit length + 65535

-- a text is read, and its row is added
pub record AddsText (old new : Before) (start : ℕ) (text : List ℕ) (kept : KeptLine) : Type 0 where
  pub located : LocatedLine
  pub is_located_line : IsLocatedLine old.symbols.entries old.location text located
  pub clean : early_fault old.symbols.entries located.location located.line located.form ≡ None
  pub adds : AddsLine old new start (length text) located kept

-- a text is read, and what is kept of its row is added to what is kept
pub record KeepsText (old new : Before) (start : ℕ) (text : List ℕ) (before after : List KeptLine) : Type 0 where
  pub kept : KeptLine
  pub kept_last : after ≡ before ++ kept ∷ []
  pub adds : AddsText old new start text kept

-- why a text isn't added: its fault, or want of memory
abbrev pub StopsText : Before → List ℕ → LineStop → Type 0
StopsText old text (stops.Fault fault) = IsTextFault old.symbols.entries old.location text fault
StopsText old text stops.Memory = Unit {0}

abbrev pub StopsAt : Before → List ℕ → ℕ → AsmFault → Type 0
StopsAt old text number (InLine fault at) = (at ≡ number) × IsTextFault old.symbols.entries old.location text fault
StopsAt old text number SourceTooLong = ⊥
StopsAt old text number Memory = Unit {0}

-- the source's lines before this rest of it are read: they make these rows, which are kept
pub record HasRead (source rest : List ℕ) (number : ℕ) (state : Before) (kept : List KeptLine) : Type 0 where
  pub front : List (List ℕ)
  pub located_lines : List LocatedLine
  pub passed : List ℕ
  pub texts : text_lines source ≡ front ++ text_lines rest
  pub bytes : source ≡ passed ++ rest
  pub are_located_lines : AreLocatedLines [] front located_lines
  pub are_kept : AreKept source front kept located_lines
  pub names : state.symbols.entries ≡ names_of located_lines
  pub location : state.location ≡ location_following located_lines
  pub counted : number ≡ length front
  pub each_takes : number ≤ length passed
  pub room : offset_of state.location ≤ 2 ^ 20 * length passed
  pub small : AreSmall state.symbols.entries
  pub steady : AllByRecursion IsSteady kept
