-- Expressions: terms joined by signs.
-- To be believed: the headline rests on it.
use Rattle.std.specs.Prelude.{Bool, true, false, List, [], ◌∷◌, if◌then◌else◌, Result, Ok, Err}
use Rattle.std.specs.List.{list_all}
use Rattle.dialect.specs.declared.meaning.Meaning.TheVariants.{Keyword}
use Rattle.dialect.specs.declared.keyword.Keyword.TheVariants.{Seg}
use Rattle.assembler_lexeme.specs.declared.fault.SyntaxFault.{SyntaxFault}
use Rattle.assembler_lexeme.specs.declared.fault.SyntaxFault.TheVariants.{BadLine}
use Rattle.assembler_syntax.specs.declared.expression.Atom.{Atom}
use Rattle.assembler_syntax.specs.declared.expression.Atom.TheVariants as atoms
use Rattle.assembler_syntax.specs.declared.expression.Term.{Term}
use Rattle.assembler_lexeme.specs.declared.token.Token.{Token}
use Rattle.assembler_lexeme.specs.declared.token.Token.TheVariants.{One, Number, Named, Word, Punctuator}
use Rattle.assembler_lexeme.specs.declared.token.Punctuator.TheVariants.{Dollar}
use Rattle.assembler_lexeme.specs.Faults.{◌>>=◌, all_of}
use Rattle.assembler_syntax.specs.TokenParts.{Signed, signed_parts}

-- an atom: a number, a name, $, or SEG and a name
unfoldable pub atom_of : List Token → Result Atom SyntaxFault
atom_of (One ∷ []) = Ok (atoms.Number 1)
atom_of (Number n ∷ []) = Ok (atoms.Number n)
atom_of (Named name ∷ []) = Ok (atoms.Named name)
atom_of (Punctuator Dollar ∷ []) = Ok atoms.Here
atom_of (Word (Keyword Seg) ∷ Named name ∷ []) = Ok (atoms.SegmentOf name)
atom_of ts = Err BadLine

abbrev pub term_of : Signed → Result Term SyntaxFault
term_of part = do
  atom ← atom_of part.tokens
  Ok (record { is_negative = part.is_negative; atom = atom })

unfoldable pub expression_of : List Token → Result (List Term) SyntaxFault
expression_of ts = all_of term_of (signed_parts ts)

-- whether an atom may stand in a constant, as $ and SEG may not
abbrev pub is_constant_atom : Atom → Bool
is_constant_atom (atoms.Number n) = true
is_constant_atom (atoms.Named name) = true
is_constant_atom _ = false

abbrev pub is_constant : Term → Bool
is_constant term = is_constant_atom term.atom

-- an expression that must be a constant: without $ and SEG
unfoldable pub constant_of : List Token → Result (List Term) SyntaxFault
constant_of ts = do
  terms ← expression_of ts
  if list_all is_constant terms then Ok terms else Err BadLine
