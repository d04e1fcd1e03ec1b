-- Items of data lines.
-- To be believed: the headline rests on it.
use Rattle.std.specs.Prelude.{List, [], ◌∷◌, Option, None, Some, Result, Ok, Err}
use Rattle.assembler_lexeme.specs.declared.fault.SyntaxFault.{SyntaxFault}
use Rattle.assembler_lexeme.specs.declared.fault.SyntaxFault.TheVariants.{BadLine}
use Rattle.assembler_syntax.specs.declared.statement.DataWidth.{DataWidth}
use Rattle.assembler_syntax.specs.declared.statement.DataWidth.TheVariants as widths
use Rattle.assembler_syntax.specs.declared.statement.Piece.{Piece}
use Rattle.assembler_syntax.specs.declared.statement.Piece.TheVariants as pieces
use Rattle.assembler_syntax.specs.declared.statement.Item.{Item}
use Rattle.assembler_syntax.specs.declared.statement.Item.TheVariants as items
use Rattle.assembler_lexeme.specs.declared.token.Token.{Token}
use Rattle.assembler_lexeme.specs.declared.token.Token.TheVariants.{Punctuator, Quoted}
use Rattle.assembler_lexeme.specs.declared.token.Punctuator.TheVariants.{OpenParenthesis}
use Rattle.assembler_lexeme.specs.Faults.{◌>>=◌, all_of}
use Rattle.assembler_syntax.specs.TokenParts.{parts, around, closed, is_dup, is_close_parenthesis}
use Rattle.assembler_syntax.specs.Expressions.{expression_of, constant_of}

-- a piece: an expression, or in DB a quoted text
unfoldable pub piece_of : DataWidth → List Token → Result Piece SyntaxFault
piece_of widths.Byte (Quoted text ∷ []) = Ok (pieces.Text text)
piece_of width ts = do
  value ← expression_of ts
  Ok (pieces.Value value)

unfoldable pub pieces_of : DataWidth → List Token → Result (List Piece) SyntaxFault
pieces_of width ts = all_of (piece_of width) (parts ts)

-- the tokens of the pieces that DUP repeats, which are in parentheses
abbrev pub in_parentheses : List Token → Result (List Token) SyntaxFault
in_parentheses (Punctuator OpenParenthesis ∷ ts) = closed (around is_close_parenthesis ts)
in_parentheses ts = Err BadLine

unfoldable pub repeated : DataWidth → List Token → List Token → Result Item SyntaxFault
repeated width front back = do
  count ← constant_of front
  inner ← in_parentheses back
  each ← pieces_of width inner
  Ok (items.Repeated count each)

abbrev pub item_by : Option (List Token × List Token) → DataWidth → List Token → Result Item SyntaxFault
item_by (Some dup) width ts = repeated width dup.0 dup.1
item_by None width ts = do
  piece ← piece_of width ts
  Ok (items.Once piece)

-- an item of a data line: pieces that DUP repeats, or one piece
unfoldable pub item_of : DataWidth → List Token → Result Item SyntaxFault
item_of width ts = item_by (around is_dup ts) width ts

unfoldable pub items_of : DataWidth → List Token → Result (List Item) SyntaxFault
items_of width ts = all_of (item_of width) (parts ts)
