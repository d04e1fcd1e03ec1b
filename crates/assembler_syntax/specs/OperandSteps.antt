-- Operands of instructions in the code's own steps.
-- For proofs alone: no public contract rests on it.
use Rattle.std.specs.Prelude.{◌&&◌, List, [], ◌∷◌, if◌then◌else◌, Option, None, Some, Result, Ok, Err}
use Rattle.std.specs.Borrow.{Bor}
use Rattle.isa.specs.declared.register.SegmentRegister.{SegmentRegister}
use Rattle.dialect.specs.declared.meaning.Meaning.TheVariants.{Keyword, Register}
use Rattle.dialect.specs.declared.register.Register.{Register as RegisterType}
use Rattle.dialect.specs.declared.register.Register.TheVariants as registers
use Rattle.dialect.specs.declared.keyword.Keyword.TheVariants as keywords
use Rattle.dialect.specs.declared.size.Size.{Size}
use Rattle.dialect.specs.declared.size.Size.TheVariants as sizes
use Rattle.assembler_lexeme.specs.declared.fault.SyntaxFault.{SyntaxFault}
use Rattle.assembler_lexeme.specs.declared.fault.SyntaxFault.TheVariants.{BadLine}
use Rattle.assembler_syntax.specs.declared.operand.Address.{Address}
use Rattle.assembler_syntax.specs.declared.operand.Operand.{Operand}
use Rattle.assembler_syntax.specs.declared.operand.Operand.TheVariants as operands
use Rattle.assembler_lexeme.specs.declared.token.Token.{Token}
use Rattle.assembler_lexeme.specs.declared.token.Token.TheVariants.{One, Named, Word, Punctuator}
use Rattle.assembler_lexeme.specs.declared.token.Punctuator.TheVariants.{OpenBracket}
use Rattle.assembler_lexeme.specs.Faults.{◌>>=◌, all_of}
use Rattle.assembler_syntax.specs.PartSteps.{Signed, parts, signed_parts, around, closed}
use Rattle.assembler_syntax.specs.PartSteps.{is_colon, is_open_bracket, is_close_bracket}
use Rattle.assembler_syntax.specs.ExpressionSteps.{expression_of, term_of}
pub use Rattle.assembler_syntax.specs.Operands.{base_with, empty_address, terms_with, with_register, with_term}

-- the register that a token is, if it is one
abbrev pub single_register : Token → Option RegisterType
single_register (Word (Register r)) = Some r
single_register t = None

abbrev pub register_of : List Token → Option RegisterType
register_of (t ∷ []) = single_register t
register_of ts = None

-- an address with one more part, a register or a term; no minus may stand before a register
abbrev pub with_part_by : Option RegisterType → Address → Signed → Result Address SyntaxFault
with_part_by (Some r) a part = if part.is_negative then Err BadLine else with_register a r
with_part_by None a part = term_of part >>= (λ term. Ok (with_term a term))

unfoldable pub with_part : Address → Signed → Result Address SyntaxFault
with_part a part = with_part_by (register_of part.tokens) a part

abbrev pub with_parts : Address → List Signed → Result Address SyntaxFault
with_parts a [] = Ok a
with_parts a (part ∷ parts) = with_part a part >>= (λ b. with_parts b parts)

-- an operand in memory, from the tokens after its open bracket: parts, and the closing bracket
unfoldable pub memory_of : Option Size → Option SegmentRegister → List Token → Result Operand SyntaxFault
memory_of size segment ts =
    closed (around is_close_bracket ts)
    >>= (λ inner. with_parts (empty_address size segment) (signed_parts inner) >>= (λ a. Ok (operands.Memory a)))

unfoldable pub value_of : List Token → Result Operand SyntaxFault
value_of ts = expression_of ts >>= (λ value. Ok (operands.Value value))

-- what `brackets_of` gives, from the slice that the code gives
abbrev pub brackets_view : Option (Option SegmentRegister × Bor (List Token))
    → Option (Option SegmentRegister × List Token)
brackets_view (Some b) = Some (b.0, b.1.now)
brackets_view None = None

-- the tokens after the open bracket of an operand in memory, if it follows this segment register and a colon
abbrev pub after_segment : RegisterType → List Token → Option (Option SegmentRegister × List Token)
after_segment (registers.Segment s) (t ∷ u ∷ ts) = if is_colon t && is_open_bracket u then Some (Some s, ts) else None
after_segment r ts = None

abbrev pub brackets_by : Token → List Token → Option (Option SegmentRegister × List Token)
brackets_by (Punctuator OpenBracket) ts = Some (None, ts)
brackets_by (Word (Register r)) ts = after_segment r ts
brackets_by t ts = None

unfoldable pub brackets_of : List Token → Option (Option SegmentRegister × List Token)
brackets_of [] = None
brackets_of (t ∷ ts) = brackets_by t ts

abbrev pub memory_in : Option Size → Option (Option SegmentRegister × List Token) → Result Operand SyntaxFault
memory_in size (Some brackets) = memory_of size brackets.0 brackets.1
memory_in size None = Err BadLine

-- a far operand of one token: FAR and a label
abbrev pub single_label : Token → Result Operand SyntaxFault
single_label (Named label) = Ok (operands.FarLabel label)
single_label t = Err BadLine

abbrev pub far_label : List Token → Result Operand SyntaxFault
far_label (t ∷ []) = single_label t
far_label ts = Err BadLine

abbrev pub far_pointer : List Token → List Token → Result Operand SyntaxFault
far_pointer segment offset =
    expression_of segment >>= (λ s. expression_of offset >>= (λ o. Ok (operands.FarPointer s o)))

abbrev pub far_target : Option (List Token × List Token) → List Token → Result Operand SyntaxFault
far_target (Some colon) ts = far_pointer colon.0 colon.1
far_target None ts = far_label ts

abbrev pub far_by : Option (Option SegmentRegister × List Token) → List Token → Result Operand SyntaxFault
far_by (Some brackets) ts = memory_of (Some sizes.Far) brackets.0 brackets.1
far_by None ts = far_target (around is_colon ts) ts

unfoldable pub far_of : List Token → Result Operand SyntaxFault
far_of ts = far_by (brackets_of ts) ts

abbrev pub short_of : List Token → Result Operand SyntaxFault
short_of ts = expression_of ts >>= (λ target. Ok (operands.Short target))

-- an operand of one token
abbrev pub single_operand : Token → Result Operand SyntaxFault
single_operand (Word (Register r)) = Ok (operands.Register r)
single_operand One = Ok operands.One
single_operand t = value_of (t ∷ [])

abbrev pub place_or_value : Option (Option SegmentRegister × List Token) → List Token → Result Operand SyntaxFault
place_or_value (Some brackets) ts = memory_of None brackets.0 brackets.1
place_or_value None ts = value_of ts

-- an operand of more than one token, by its first
abbrev pub led_operand : Token → List Token → Result Operand SyntaxFault
led_operand (Word (Keyword keywords.Short)) ts = short_of ts
led_operand (Word (Keyword keywords.Byte)) ts = memory_in (Some sizes.Byte) (brackets_of ts)
led_operand (Word (Keyword keywords.Word)) ts = memory_in (Some sizes.Word) (brackets_of ts)
led_operand (Word (Keyword keywords.Far)) ts = far_of ts
led_operand t ts = place_or_value (brackets_of (t ∷ ts)) (t ∷ ts)

unfoldable pub operand_of : List Token → Result Operand SyntaxFault
operand_of [] = Err BadLine
operand_of (t ∷ []) = single_operand t
operand_of (t ∷ u ∷ ts) = led_operand t (u ∷ ts)

-- the operands of an instruction: none, or some with commas between them
unfoldable pub operands_of : List Token → Result (List Operand) SyntaxFault
operands_of [] = Ok []
operands_of (t ∷ ts) = all_of operand_of (parts (t ∷ ts))
