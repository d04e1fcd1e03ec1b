-- How much a statement holds: no more than its line has bytes.
-- To be believed by callers of this crate: the headline does not rest on it.
use Rattle.std.specs.Prelude.{ℕ, ◌≡◌, ◌≤◌, nat_le, Bool, true, ◌&&◌, List, length, sum_by, Option, None, Some}
use Rattle.std.specs.List.{list_all}
use Rattle.assembler_syntax.specs.declared.expression.Term.{Term}
use Rattle.assembler_syntax.specs.declared.operand.Operand.{Operand}
use Rattle.assembler_syntax.specs.declared.operand.Operand.TheVariants as operands
use Rattle.assembler_syntax.specs.declared.statement.Piece.{Piece}
use Rattle.assembler_syntax.specs.declared.statement.Piece.TheVariants as kinds
use Rattle.assembler_syntax.specs.declared.statement.Item.{Item}
use Rattle.assembler_syntax.specs.declared.statement.Item.TheVariants as items
use Rattle.assembler_syntax.specs.declared.statement.Statement.{Statement}
use Rattle.assembler_syntax.specs.declared.statement.Statement.TheVariants as statements

-- an expression has at most n terms
abbrev pub is_expression_within : ℕ → List Term → Bool
is_expression_within n terms = nat_le (length terms) n

abbrev pub is_displacement_within : ℕ → Option (List Term) → Bool
is_displacement_within n None = true
is_displacement_within n (Some terms) = is_expression_within n terms

-- each expression of an operand has at most n terms
abbrev pub is_operand_within : ℕ → Operand → Bool
is_operand_within n (operands.Value value) = is_expression_within n value
is_operand_within n (operands.Memory a) = is_displacement_within n a.displacement
is_operand_within n (operands.Short target) = is_expression_within n target
is_operand_within n (operands.FarPointer segment offset) =
    is_expression_within n segment && is_expression_within n offset
is_operand_within n operand = true

-- the expression of a piece has at most n terms
abbrev pub is_piece_within : ℕ → Piece → Bool
is_piece_within n (kinds.Value value) = is_expression_within n value
is_piece_within n (kinds.Text text) = true

-- each expression of an item has at most n terms
abbrev pub is_item_within : ℕ → Item → Bool
is_item_within n (items.Once piece) = is_piece_within n piece
is_item_within n (items.Repeated count each) = is_expression_within n count && list_all (is_piece_within n) each

-- each expression of a statement has at most n terms
abbrev pub are_terms_within : ℕ → Statement → Bool
are_terms_within n (statements.Segment name paragraph) = is_expression_within n paragraph
are_terms_within n (statements.Equ name value) = is_expression_within n value
are_terms_within n (statements.Org location) = is_expression_within n location
are_terms_within n (statements.Data width each) = list_all (is_item_within n) each
are_terms_within n (statements.Instruction i) = list_all (is_operand_within n) i.operands
are_terms_within n statement = true

-- the weight of a piece: 1 for a value, and its number of characters for a text
abbrev pub piece_weight : Piece → ℕ
piece_weight (kinds.Value value) = 1
piece_weight (kinds.Text text) = length text

abbrev pub pieces_weight : List Piece → ℕ
pieces_weight each = sum_by piece_weight each

-- the weight of an item, in which what DUP repeats counts once
abbrev pub item_weight : Item → ℕ
item_weight (items.Once piece) = piece_weight piece
item_weight (items.Repeated count each) = pieces_weight each

abbrev pub items_weight : List Item → ℕ
items_weight each = sum_by item_weight each

-- how much the items of a data line weigh; another statement weighs nothing
abbrev pub statement_weight : Statement → ℕ
statement_weight (statements.Data width each) = items_weight each
statement_weight statement = 0

-- a statement that is no larger than one in a text of n bytes
pub record IsWithin (n : ℕ) (s : Statement) : Type 0 where
  pub terms : are_terms_within n s ≡ true
  pub pieces : statement_weight s ≤ n
