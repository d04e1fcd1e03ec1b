-- Items of data lines in the code's own steps.
-- For proofs alone: no public contract rests on it.
use Rattle.std.specs.Prelude.{List, [], ◌∷◌, if◌then◌else◌, Option, None, Some, Result, Ok, Err}
use Rattle.assembler_lexeme.specs.declared.fault.SyntaxFault.{SyntaxFault}
use Rattle.assembler_lexeme.specs.declared.fault.SyntaxFault.TheVariants.{BadLine}
use Rattle.assembler_syntax.specs.declared.statement.DataWidth.{DataWidth}
use Rattle.assembler_syntax.specs.declared.statement.DataWidth.TheVariants as widths
use Rattle.assembler_syntax.specs.declared.statement.Piece.{Piece}
use Rattle.assembler_syntax.specs.declared.statement.Piece.TheVariants as pieces
use Rattle.assembler_syntax.specs.declared.statement.Item.{Item}
use Rattle.assembler_syntax.specs.declared.statement.Item.TheVariants as items
use Rattle.assembler_lexeme.specs.declared.token.Token.{Token}
use Rattle.assembler_lexeme.specs.declared.token.Token.TheVariants.{Quoted}
use Rattle.assembler_lexeme.specs.Faults.{◌>>=◌, all_of}
use Rattle.assembler_syntax.specs.PartSteps.{parts, around, closed, is_dup, is_open_parenthesis, is_close_parenthesis}
use Rattle.assembler_syntax.specs.ExpressionSteps.{expression_of, constant_of}

abbrev pub value_piece : List Token → Result Piece SyntaxFault
value_piece ts = expression_of ts >>= (λ value. Ok (pieces.Value value))

-- a piece of one token: an expression, or in DB a quoted text
abbrev pub single_piece : DataWidth → Token → Result Piece SyntaxFault
single_piece widths.Byte (Quoted text) = Ok (pieces.Text text)
single_piece width t = value_piece (t ∷ [])

unfoldable pub piece_of : DataWidth → List Token → Result Piece SyntaxFault
piece_of width (t ∷ []) = single_piece width t
piece_of width ts = value_piece ts

unfoldable pub pieces_of : DataWidth → List Token → Result (List Piece) SyntaxFault
pieces_of width ts = all_of (piece_of width) (parts ts)

-- the tokens of the pieces that DUP repeats, which are in parentheses
abbrev pub in_parentheses : List Token → Result (List Token) SyntaxFault
in_parentheses [] = Err BadLine
in_parentheses (t ∷ ts) = if is_open_parenthesis t then closed (around is_close_parenthesis ts) else Err BadLine

unfoldable pub repeated : DataWidth → List Token → List Token → Result Item SyntaxFault
repeated width front back =
    constant_of front
    >>= (λ count. in_parentheses back >>= (λ inner. pieces_of width inner >>= (λ each. Ok (items.Repeated count each))))

abbrev pub once : DataWidth → List Token → Result Item SyntaxFault
once width ts = piece_of width ts >>= (λ piece. Ok (items.Once piece))

abbrev pub item_by : Option (List Token × List Token) → DataWidth → List Token → Result Item SyntaxFault
item_by (Some dup) width ts = repeated width dup.0 dup.1
item_by None width ts = once width ts

-- an item of a data line: pieces that DUP repeats, or one piece
unfoldable pub item_of : DataWidth → List Token → Result Item SyntaxFault
item_of width ts = item_by (around is_dup ts) width ts

unfoldable pub items_of : DataWidth → List Token → Result (List Item) SyntaxFault
items_of width ts = all_of (item_of width) (parts ts)
