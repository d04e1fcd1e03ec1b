-- What operands put into the parts of a row's bytes (8086 Family User's Manual, "Machine Instruction Encoding and
-- Decoding").
-- To be believed: the headline rests on it.
use Rattle.std.specs.Prelude.{ℕ, ℤ, pos, negsuc, ◌+◌, ◌/◌, ◌%◌, Bool, false, nat_lt, if◌then◌else◌, Option, Some, None}
use Rattle.isa.specs.declared.form.Base.{Base as BaseType}
use Rattle.isa.specs.declared.form.Base.TheVariants.{Bp}
use Rattle.isa.specs.declared.form.Place.{Place}
use Rattle.isa.specs.declared.form.Place.TheVariants.{Absent, Register, Direct, Base, BaseByte, BaseWord}
use Rattle.isa.specs.declared.form.Form.{Form}
use Rattle.isa.specs.declared.row.Kind.{Kind}
use Rattle.isa.specs.declared.row.Kind.TheVariants as kinds
use Rattle.isa.specs.declared.row.Row.{Row}
use Rattle.isa.specs.Row.{first_of, second_of}
use Rattle.isa.specs.RegisterNumbers.{byte_register_number, segment_register_number, word_register_number}
use Rattle.dialect.specs.declared.register.Register.TheVariants as registers
use Rattle.assembler_form.specs.declared.operand.Number.{Number as NumberType}
use Rattle.assembler_form.specs.declared.operand.Number.TheVariants.{Constant, Later}
use Rattle.assembler_form.specs.declared.operand.KnownOperand.{KnownOperand}
use Rattle.assembler_form.specs.declared.operand.KnownOperand.TheVariants as operands
use Rattle.assembler_form.specs.declared.asked.Asked.{Asked}
use Rattle.assembler_form.specs.Takes.{is_within}

-- the number of a register; another operand has 0
abbrev pub register_number : KnownOperand → ℕ
register_number (operands.Register (registers.Byte r)) = byte_register_number r
register_number (operands.Register (registers.Word r)) = word_register_number r
register_number (operands.Register (registers.Segment r)) = segment_register_number r
register_number _ = 0

-- a number from 0 to 63; another one counts as 0
abbrev pub below_64 : ℤ → ℕ
below_64 (pos n) = if nat_lt n 64 then n else 0
below_64 (negsuc _) = 0

-- an ESC's number, which is below 64
abbrev pub escape_number : KnownOperand → ℕ
escape_number operands.One = 1
escape_number (operands.Number (Constant n)) = below_64 n
escape_number _ = 0

-- a place in memory whose displacement is the constant 0: it isn't written, but BP alone has a byte of 0
abbrev pub place_without : BaseType → Place
place_without Bp = BaseByte Bp
place_without base = Base base

abbrev pub is_zero : ℤ → Bool
is_zero (pos n) = nat_lt n 1
is_zero (negsuc _) = false

-- a place in memory with registers: a constant from -128 to 127 is a byte, any other number a word
abbrev pub place_with : BaseType → NumberType → Place
place_with base (Constant n) =
    if is_zero n then place_without base else
    (if is_within (negsuc 127) (pos 127) n then BaseByte base else BaseWord base)
place_with base Later = BaseWord base

-- a place in memory; without registers its displacement is a word
abbrev pub place_at : Option BaseType → NumberType → Place
place_at None _ = Direct
place_at (Some base) displacement = place_with base displacement

abbrev pub place_of : KnownOperand → Place
place_of (operands.Memory m) = place_at m.base m.displacement
place_of operand = Register (register_number operand)

-- what an operand of a kind puts into the opcode
abbrev pub in_opcode : Kind → KnownOperand → ℕ
in_opcode kinds.Code8 operand = register_number operand
in_opcode kinds.Code16 operand = register_number operand
in_opcode kinds.CodeSegment operand = register_number operand
in_opcode kinds.CodeSegmentNotCs operand = register_number operand
in_opcode kinds.EscNumber operand = escape_number operand / 8
in_opcode _ operand = 0

-- what an operand of a kind puts into reg
abbrev pub in_reg : Kind → KnownOperand → ℕ
in_reg kinds.Reg8 operand = register_number operand
in_reg kinds.Reg16 operand = register_number operand
in_reg kinds.Segment operand = register_number operand
in_reg kinds.SegmentNotCs operand = register_number operand
in_reg kinds.EscNumber operand = escape_number operand % 8
in_reg _ operand = 0

-- what an operand of a kind puts into mod and r/m
abbrev pub in_place : Kind → KnownOperand → Place
in_place kinds.Rm8 operand = place_of operand
in_place kinds.Rm16 operand = place_of operand
in_place kinds.Memory operand = place_of operand
in_place _ operand = Absent

abbrev pub first_place : Place → Place → Place
first_place Absent other = other
first_place place _ = place

-- The form of a row with these operands. It has all that both put into it, since no row has two operands in one part.
unfoldable pub form_with : Row → Asked → Form
form_with r a = record {
  row = r;
  code = in_opcode (first_of r) a.first + in_opcode (second_of r) a.second;
  reg = in_reg (first_of r) a.first + in_reg (second_of r) a.second;
  place = first_place (in_place (first_of r) a.first) (in_place (second_of r) a.second);
}
