-- Expressions in the code's own steps.
-- For proofs alone: no public contract rests on it.
use Rattle.std.specs.Prelude.{List, [], ◌∷◌, if◌then◌else◌, Result, Ok, Err}
use Rattle.std.specs.List.{list_all}
use Rattle.dialect.specs.declared.meaning.Meaning.TheVariants.{Keyword}
use Rattle.dialect.specs.declared.keyword.Keyword.TheVariants.{Seg}
use Rattle.assembler_lexeme.specs.declared.fault.SyntaxFault.{SyntaxFault}
use Rattle.assembler_lexeme.specs.declared.fault.SyntaxFault.TheVariants.{BadLine}
use Rattle.assembler_syntax.specs.declared.expression.Atom.{Atom}
use Rattle.assembler_syntax.specs.declared.expression.Atom.TheVariants as atoms
use Rattle.assembler_syntax.specs.declared.expression.Term.{Term}
use Rattle.assembler_lexeme.specs.declared.token.Token.{Token}
use Rattle.assembler_lexeme.specs.declared.token.Token.TheVariants.{One, Number, Named, Word, Punctuator}
use Rattle.assembler_lexeme.specs.declared.token.Punctuator.TheVariants.{Dollar}
use Rattle.assembler_lexeme.specs.Faults.{◌>>=◌, all_of}
use Rattle.assembler_syntax.specs.PartSteps.{Signed, signed_parts}
pub use Rattle.assembler_syntax.specs.Expressions.{is_constant, is_constant_atom}

abbrev pub single_atom : Token → Result Atom SyntaxFault
single_atom One = Ok (atoms.Number 1)
single_atom (Number n) = Ok (atoms.Number n)
single_atom (Named name) = Ok (atoms.Named name)
single_atom (Punctuator Dollar) = Ok atoms.Here
single_atom t = Err BadLine

abbrev pub segment_atom : Token → Token → Result Atom SyntaxFault
segment_atom (Word (Keyword Seg)) (Named name) = Ok (atoms.SegmentOf name)
segment_atom s t = Err BadLine

-- an atom: a number, a name, $, or SEG and a name
unfoldable pub atom_of : List Token → Result Atom SyntaxFault
atom_of (t ∷ []) = single_atom t
atom_of (s ∷ t ∷ []) = segment_atom s t
atom_of ts = Err BadLine

abbrev pub term_of : Signed → Result Term SyntaxFault
term_of part = atom_of part.tokens >>= (λ atom. Ok (record { is_negative = part.is_negative; atom = atom }))

unfoldable pub expression_of : List Token → Result (List Term) SyntaxFault
expression_of ts = all_of term_of (signed_parts ts)

-- an expression that must be a constant: without $ and SEG
unfoldable pub constant_of : List Token → Result (List Term) SyntaxFault
constant_of ts = expression_of ts >>= (λ terms. if list_all is_constant terms then Ok terms else Err BadLine)
