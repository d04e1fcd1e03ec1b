-- Operands of instructions.
-- To be believed: the headline rests on it.
use Rattle.std.specs.Prelude.{List, [], ◌∷◌, ◌++◌, if◌then◌else◌, Option, None, Some, Result, Ok, Err}
use Rattle.isa.specs.declared.form.Base.{Base}
use Rattle.isa.specs.declared.form.Base.TheVariants as bases
use Rattle.isa.specs.declared.register.SegmentRegister.{SegmentRegister}
use Rattle.isa.specs.declared.register.WordRegister.{WordRegister}
use Rattle.isa.specs.declared.register.WordRegister.TheVariants.{Bx, Bp, Si, Di}
use Rattle.dialect.specs.declared.meaning.Meaning.TheVariants.{Keyword, Register}
use Rattle.dialect.specs.declared.register.Register.{Register as RegisterType}
use Rattle.dialect.specs.declared.register.Register.TheVariants as registers
use Rattle.dialect.specs.declared.keyword.Keyword.TheVariants as keywords
use Rattle.dialect.specs.declared.size.Size.{Size}
use Rattle.dialect.specs.declared.size.Size.TheVariants as sizes
use Rattle.assembler_lexeme.specs.declared.fault.SyntaxFault.{SyntaxFault}
use Rattle.assembler_lexeme.specs.declared.fault.SyntaxFault.TheVariants.{BadLine}
use Rattle.assembler_syntax.specs.declared.expression.Term.{Term}
use Rattle.assembler_syntax.specs.declared.operand.Address.{Address}
use Rattle.assembler_syntax.specs.declared.operand.Operand.{Operand}
use Rattle.assembler_syntax.specs.declared.operand.Operand.TheVariants as operands
use Rattle.assembler_lexeme.specs.declared.token.Token.{Token}
use Rattle.assembler_lexeme.specs.declared.token.Token.TheVariants.{One, Named, Word, Punctuator}
use Rattle.assembler_lexeme.specs.declared.token.Punctuator.TheVariants.{Colon, OpenBracket}
use Rattle.assembler_lexeme.specs.Faults.{◌>>=◌, wanted, all_of}
use Rattle.assembler_syntax.specs.TokenParts.{Signed, parts, signed_parts, around, closed, is_colon, is_close_bracket}
use Rattle.assembler_syntax.specs.Expressions.{expression_of, term_of}

-- a base with one more register: at most one of BX and BP, and at most one of SI and DI
abbrev pub base_with : Option Base → WordRegister → Option Base
base_with None Bx = Some bases.Bx
base_with None Bp = Some bases.Bp
base_with None Si = Some bases.Si
base_with None Di = Some bases.Di
base_with (Some bases.Bx) Si = Some bases.BxSi
base_with (Some bases.Bx) Di = Some bases.BxDi
base_with (Some bases.Bp) Si = Some bases.BpSi
base_with (Some bases.Bp) Di = Some bases.BpDi
base_with (Some bases.Si) Bx = Some bases.BxSi
base_with (Some bases.Si) Bp = Some bases.BpSi
base_with (Some bases.Di) Bx = Some bases.BxDi
base_with (Some bases.Di) Bp = Some bases.BpDi
base_with base r = None

abbrev pub with_register : Address → RegisterType → Result Address SyntaxFault
with_register a (registers.Word r) = do
  base ← wanted (base_with a.base r)
  Ok (record a { base = Some base })
with_register a r = Err BadLine

abbrev pub terms_with : Option (List Term) → Term → List Term
terms_with None term = term ∷ []
terms_with (Some terms) term = terms ++ term ∷ []

abbrev pub with_term : Address → Term → Address
with_term a term = record a { displacement = Some (terms_with a.displacement term) }

-- the register that a part in brackets is, if it is one
abbrev pub register_of : List Token → Option RegisterType
register_of (Word (Register r) ∷ []) = Some r
register_of ts = None

-- an address with one more part, a register or a term; no minus may stand before a register
abbrev pub with_part_by : Option RegisterType → Address → Signed → Result Address SyntaxFault
with_part_by (Some r) a part = if part.is_negative then Err BadLine else with_register a r
with_part_by None a part = do
  term ← term_of part
  Ok (with_term a term)

unfoldable pub with_part : Address → Signed → Result Address SyntaxFault
with_part a part = with_part_by (register_of part.tokens) a part

abbrev pub with_parts : Address → List Signed → Result Address SyntaxFault
with_parts a [] = Ok a
with_parts a (part ∷ parts) = do
  b ← with_part a part
  with_parts b parts

abbrev pub empty_address : Option Size → Option SegmentRegister → Address
empty_address size segment = record { size = size; segment = segment; base = None; displacement = None }

-- an operand in memory, from the tokens after its open bracket: parts, and the closing bracket
unfoldable pub memory_of : Option Size → Option SegmentRegister → List Token → Result Operand SyntaxFault
memory_of size segment ts = do
  inner ← closed (around is_close_bracket ts)
  a ← with_parts (empty_address size segment) (signed_parts inner)
  Ok (operands.Memory a)

unfoldable pub value_of : List Token → Result Operand SyntaxFault
value_of ts = do
  value ← expression_of ts
  Ok (operands.Value value)

-- the tokens after the open bracket of an operand in memory, with the segment register before it, if there is one
unfoldable pub brackets_of : List Token → Option (Option SegmentRegister × List Token)
brackets_of (Punctuator OpenBracket ∷ ts) = Some (None, ts)
brackets_of (Word (Register (registers.Segment s)) ∷ Punctuator Colon ∷ Punctuator OpenBracket ∷ ts) = Some (Some s, ts)
brackets_of ts = None

-- an operand in memory, if brackets were found, or else another one
abbrev pub memory_or : Option Size → Option (Option SegmentRegister × List Token) → Result Operand SyntaxFault
    → Result Operand SyntaxFault
memory_or size (Some brackets) other = memory_of size brackets.0 brackets.1
memory_or size None other = other

-- a far operand without a colon: FAR and a label
abbrev pub far_label : List Token → Result Operand SyntaxFault
far_label (Named label ∷ []) = Ok (operands.FarLabel label)
far_label ts = Err BadLine

-- a far operand with a colon: FAR segment:offset
abbrev pub far_pointer : List Token → List Token → Result Operand SyntaxFault
far_pointer segment offset = do
  s ← expression_of segment
  o ← expression_of offset
  Ok (operands.FarPointer s o)

abbrev pub far_target : Option (List Token × List Token) → List Token → Result Operand SyntaxFault
far_target (Some colon) ts = far_pointer colon.0 colon.1
far_target None ts = far_label ts

abbrev pub short_of : List Token → Result Operand SyntaxFault
short_of ts = do
  target ← expression_of ts
  Ok (operands.Short target)

unfoldable pub operand_of : List Token → Result Operand SyntaxFault
operand_of (Word (Register r) ∷ []) = Ok (operands.Register r)
operand_of (One ∷ []) = Ok operands.One
operand_of (Word (Keyword keywords.Short) ∷ ts) = short_of ts
operand_of (Word (Keyword keywords.Byte) ∷ ts) = memory_or (Some sizes.Byte) (brackets_of ts) (Err BadLine)
operand_of (Word (Keyword keywords.Word) ∷ ts) = memory_or (Some sizes.Word) (brackets_of ts) (Err BadLine)
operand_of (Word (Keyword keywords.Far) ∷ ts) =
    memory_or (Some sizes.Far) (brackets_of ts) (far_target (around is_colon ts) ts)
operand_of ts = memory_or None (brackets_of ts) (value_of ts)

-- the operands of an instruction: none, or some with commas between them
unfoldable pub operands_of : List Token → Result (List Operand) SyntaxFault
operands_of [] = Ok []
operands_of (t ∷ ts) = all_of operand_of (parts (t ∷ ts))
