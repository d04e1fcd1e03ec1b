-- When a row of the encoding table takes what a line asks: its operation is the line's, and its kinds are those of the
-- line's operands.
-- To be believed: the headline rests on it.
use Rattle.std.specs.Prelude.{ℤ, pos, negsuc, ◌≡◌, Bool, true, false, ◌&&◌, IsTrue, Option, Some, is_none, int_le}
use Rattle.isa.specs.declared.operation.Operation.{Operation}
use Rattle.isa.specs.declared.operation.Operation.TheVariants.{Control}
use Rattle.isa.specs.declared.operation.Control.TheVariants.{Jmp}
use Rattle.isa.specs.declared.register.ByteRegister.TheVariants as byte_registers
use Rattle.isa.specs.declared.register.WordRegister.TheVariants as word_registers
use Rattle.isa.specs.declared.register.SegmentRegister.TheVariants.{Cs}
use Rattle.isa.specs.declared.row.Kind.{Kind}
use Rattle.isa.specs.declared.row.Kind.TheVariants as kinds
use Rattle.isa.specs.declared.row.Row.{Row}
use Rattle.isa.specs.Row.{operation_of, first_of, second_of}
use Rattle.dialect.specs.declared.register.Register.TheVariants.{Byte, Word, Segment}
use Rattle.dialect.specs.declared.size.Size.{Size}
use Rattle.dialect.specs.declared.size.Size.TheVariants as sizes
use Rattle.assembler_form.specs.declared.operand.Number.TheVariants.{Constant}
use Rattle.assembler_form.specs.declared.operand.KnownOperand.{KnownOperand}
use Rattle.assembler_form.specs.declared.operand.KnownOperand.TheVariants.{Nothing, Register, One}
use Rattle.assembler_form.specs.declared.operand.KnownOperand.TheVariants.{Number, Short, Far, Memory}
use Rattle.assembler_form.specs.declared.asked.Asked.{Asked}
use Rattle.assembler_form.specs.Asked.{is_far_size}

abbrev pub is_within : ℤ → ℤ → ℤ → Bool
is_within least greatest n = int_le least n && int_le n greatest

-- whether an operand is known to be within bounds, as only a constant is
abbrev pub is_constant_within : ℤ → ℤ → KnownOperand → Bool
is_constant_within least greatest One = is_within least greatest (pos 1)
is_constant_within least greatest (Number (Constant n)) = is_within least greatest n
is_constant_within least greatest _ = false

abbrev pub is_number : KnownOperand → Bool
is_number One = true
is_number (Number _) = true
is_number _ = false

abbrev pub is_byte_size : Option Size → Bool
is_byte_size (Some sizes.Byte) = true
is_byte_size _ = false

abbrev pub is_word_size : Option Size → Bool
is_word_size (Some sizes.Word) = true
is_word_size _ = false

-- the size that memory has as a pointer: a far jump or call goes through an offset and a segment; LEA, LES and LDS name
-- a word
abbrev pub is_pointer_size : Operation → Option Size → Bool
is_pointer_size (Control _) size = is_far_size size
is_pointer_size _ size = is_word_size size

-- the target of a short jump: JMP must say SHORT, since its near form would be taken otherwise, and no other jump says
-- it
abbrev pub is_near : Operation → KnownOperand → Bool
is_near (Control Jmp) Short = true
is_near (Control Jmp) _ = false
is_near _ operand = is_number operand

-- whether an operand is of a kind, in a row of the operation; At8 and At16 are memory without registers
abbrev pub is_of : Operation → Kind → KnownOperand → Bool
is_of _ kinds.Nothing Nothing = true
is_of _ kinds.Ten Nothing = true
is_of _ kinds.Al (Register (Byte byte_registers.Al)) = true
is_of _ kinds.Ax (Register (Word word_registers.Ax)) = true
is_of _ kinds.Cl (Register (Byte byte_registers.Cl)) = true
is_of _ kinds.Dx (Register (Word word_registers.Dx)) = true
is_of _ kinds.One One = true
is_of _ kinds.Code8 (Register (Byte _)) = true
is_of _ kinds.Code16 (Register (Word _)) = true
is_of _ kinds.CodeSegment (Register (Segment _)) = true
is_of _ kinds.CodeSegmentNotCs (Register (Segment Cs)) = false
is_of _ kinds.CodeSegmentNotCs (Register (Segment _)) = true
is_of _ kinds.EscNumber operand = is_constant_within (pos 0) (pos 63) operand
is_of _ kinds.Reg8 (Register (Byte _)) = true
is_of _ kinds.Reg16 (Register (Word _)) = true
is_of _ kinds.Segment (Register (Segment _)) = true
is_of _ kinds.SegmentNotCs (Register (Segment Cs)) = false
is_of _ kinds.SegmentNotCs (Register (Segment _)) = true
is_of _ kinds.Rm8 (Register (Byte _)) = true
is_of _ kinds.Rm8 (Memory m) = is_byte_size m.size
is_of _ kinds.Rm16 (Register (Word _)) = true
is_of _ kinds.Rm16 (Memory m) = is_word_size m.size
is_of operation kinds.Memory (Memory m) = is_pointer_size operation m.size
is_of _ kinds.Imm8 operand = is_number operand
is_of _ kinds.Imm16 operand = is_number operand
is_of _ kinds.Signed8 operand = is_constant_within (negsuc 127) (pos 127) operand
is_of operation kinds.Rel8 operand = is_near operation operand
is_of _ kinds.Rel16 operand = is_number operand
is_of _ kinds.At8 (Memory m) = is_none m.base && is_byte_size m.size
is_of _ kinds.At16 (Memory m) = is_none m.base && is_word_size m.size
is_of _ kinds.Far Far = true
is_of _ _ _ = false

-- the row takes what is asked
pub record Takes (r : Row) (a : Asked) : Type 0 where
  pub operation : operation_of r ≡ a.operation
  pub first : IsTrue (is_of a.operation (first_of r) a.first)
  pub second : IsTrue (is_of a.operation (second_of r) a.second)
