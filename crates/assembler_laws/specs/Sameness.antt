-- Sources that say the same give the same image.
-- Laws: claims above the definitions, each proved as the contract of a function.
use Rattle.std.specs.Prelude.{ℕ, ◌≡◌, ◌≤◌, List, [], ◌∷◌, length, map, Ok}
use Rattle.std.specs.List.{list_all}
use Rattle.std.specs.Option.{option_map}
use Rattle.assembler_lexeme.specs.declared.name.Name.{Name}
use Rattle.assembler_syntax.specs.declared.expression.Atom.{Atom}
use Rattle.assembler_syntax.specs.declared.expression.Atom.TheVariants.{Number, Named, Here, SegmentOf}
use Rattle.assembler_syntax.specs.declared.expression.Term.{Term}
use Rattle.assembler_syntax.specs.declared.operand.Address.{Address}
use Rattle.assembler_syntax.specs.declared.operand.Operand.{Operand}
use Rattle.assembler_syntax.specs.declared.operand.Operand.TheVariants as operands
use Rattle.assembler_syntax.specs.declared.statement.Piece.{Piece}
use Rattle.assembler_syntax.specs.declared.statement.Piece.TheVariants as pieces
use Rattle.assembler_syntax.specs.declared.statement.Item.{Item}
use Rattle.assembler_syntax.specs.declared.statement.Item.TheVariants.{Once, Repeated}
use Rattle.assembler_syntax.specs.declared.statement.Instruction.{Instruction as InstructionType}
use Rattle.assembler_syntax.specs.declared.statement.Statement.{Statement}
use Rattle.assembler_syntax.specs.declared.statement.Statement.TheVariants.{Empty, Segment, Ends, Equ}
use Rattle.assembler_syntax.specs.declared.statement.Statement.TheVariants.{Org, Data, Instruction}
use Rattle.assembler_syntax.specs.declared.statement.Line.{Line}
use Rattle.assembler_syntax.specs.Lines.{read_line}
use Rattle.assembler_meaning.specs.Values.{same_name}
use Rattle.assembler_lexeme.specs.Lexemes.{is_character, lexemes, folded}
use Rattle.board_types.specs.TextLines.{text_lines}
use Rattle.assembler.specs.Gives.{source_limit, Gives}

-- there are as many lines as others, and each stands in this relation to the other in its place
abbrev pub StandPairwise : (List ℕ → List ℕ → Type 0) → List (List ℕ) → List (List ℕ) → Type 0
StandPairwise StandSo [] [] = Unit {0}
StandPairwise StandSo [] (other ∷ others) = ⊥
StandPairwise StandSo (line ∷ lines) [] = ⊥
StandPairwise StandSo (line ∷ lines) (other ∷ others) = StandSo line other × StandPairwise StandSo lines others

-- two lines that are equal but for case outside quotes, blanks and comments; both have a character that no line may
-- have, or neither has
pub record DifferInCase (line other : List ℕ) : Type 0 where
  pub characters : list_all is_character line ≡ list_all is_character other
  pub same_lexemes : map folded (lexemes line) ≡ map folded (lexemes other)

-- Two sources whose lines differ only in case outside quotes, blanks and comments give the same image. The other must
-- be within a source's length, as blanks and comments may make it longer.
abbrev pub CaseDoesNotCount : Type 0
CaseDoesNotCount =
    (s t : List ℕ) (image : List (ℕ × ℕ)) → StandPairwise DifferInCase (text_lines s) (text_lines t)
    → length t ≤ source_limit
    → Gives s image → Gives t image

-- a renaming gives no two names the same name
abbrev pub IsOneToOne : (Name → Name) → Type 0
IsOneToOne rename = (a b : Name) → same_name (rename a) (rename b) ≡ same_name a b

-- an atom with its name renamed
abbrev pub renamed_atom : (Name → Name) → Atom → Atom
renamed_atom rename (Number n) = Number n
renamed_atom rename (Named name) = Named (rename name)
renamed_atom rename Here = Here
renamed_atom rename (SegmentOf name) = SegmentOf (rename name)

abbrev pub renamed_term : (Name → Name) → Term → Term
renamed_term rename term = record term { atom = renamed_atom rename term.atom }

abbrev pub renamed_terms : (Name → Name) → List Term → List Term
renamed_terms rename terms = map (renamed_term rename) terms

-- an address with its names renamed
abbrev pub renamed_address : (Name → Name) → Address → Address
renamed_address rename a = record a { displacement = option_map (renamed_terms rename) a.displacement }

abbrev pub renamed_operand : (Name → Name) → Operand → Operand
renamed_operand rename (operands.Register r) = operands.Register r
renamed_operand rename operands.One = operands.One
renamed_operand rename (operands.Value terms) = operands.Value (renamed_terms rename terms)
renamed_operand rename (operands.Memory a) = operands.Memory (renamed_address rename a)
renamed_operand rename (operands.Short terms) = operands.Short (renamed_terms rename terms)
renamed_operand rename (operands.FarLabel name) = operands.FarLabel (rename name)
renamed_operand rename (operands.FarPointer s o) = operands.FarPointer (renamed_terms rename s) (renamed_terms rename o)

abbrev pub renamed_instruction : (Name → Name) → InstructionType → InstructionType
renamed_instruction rename i = record i { operands = map (renamed_operand rename) i.operands }

-- a piece of data with its names renamed
abbrev pub renamed_piece : (Name → Name) → Piece → Piece
renamed_piece rename (pieces.Value terms) = pieces.Value (renamed_terms rename terms)
renamed_piece rename (pieces.Text text) = pieces.Text text

abbrev pub renamed_item : (Name → Name) → Item → Item
renamed_item rename (Once piece) = Once (renamed_piece rename piece)
renamed_item rename (Repeated count each) = Repeated (renamed_terms rename count) (map (renamed_piece rename) each)

-- a statement with its names renamed, and with those that it defines
abbrev pub renamed_statement : (Name → Name) → Statement → Statement
renamed_statement rename Empty = Empty
renamed_statement rename (Segment name n) = Segment (rename name) (renamed_terms rename n)
renamed_statement rename Ends = Ends
renamed_statement rename (Equ name n) = Equ (rename name) (renamed_terms rename n)
renamed_statement rename (Org n) = Org (renamed_terms rename n)
renamed_statement rename (Data width items) = Data width (map (renamed_item rename) items)
renamed_statement rename (Instruction i) = Instruction (renamed_instruction rename i)

abbrev pub renamed_line : (Name → Name) → Line → Line
renamed_line rename line = record {
  label = option_map rename line.label;
  statement = renamed_statement rename line.statement;
}

-- the other line says what this line says, with its names renamed
pub record DifferInNames (rename : Name → Name) (line other : List ℕ) : Type 0 where
  pub says : Line
  pub reads : read_line line ≡ Ok says
  pub reads_renamed : read_line other ≡ Ok (renamed_line rename says)

-- two sources whose lines say the same but for a one-to-one renaming give the same image, unless the new names make the
-- other longer than a source may be
abbrev pub RenamingDoesNotCount : Type 0
RenamingDoesNotCount =
    (rename : Name → Name) → IsOneToOne rename → (s t : List ℕ) (image : List (ℕ × ℕ))
    → StandPairwise (DifferInNames rename) (text_lines s) (text_lines t) → length t ≤ source_limit → Gives s image
    → Gives t image
