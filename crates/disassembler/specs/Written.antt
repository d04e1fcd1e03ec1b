-- What is written for the operands of an instruction (8086 Family User's Manual, "Machine Instruction Encoding and
-- Decoding"; the size words and SHORT are this board's assembler dialect).
-- To be believed: the headline rests on it.
use Rattle.std.specs.Prelude.{ℕ, ◌+◌, ◌*◌, ◌%◌, Bool, true, false, if◌then◌else◌, Option, Some, None}
use Rattle.isa.specs.declared.operation.Operation.{Operation}
use Rattle.isa.specs.declared.operation.Operation.TheVariants.{Control}
use Rattle.isa.specs.declared.operation.Control.TheVariants.{Jmp}
use Rattle.isa.specs.declared.register.ByteRegister.TheVariants as byte_registers
use Rattle.isa.specs.declared.register.WordRegister.TheVariants as word_registers
use Rattle.isa.specs.declared.form.Base.{Base as BaseType}
use Rattle.isa.specs.declared.form.Place.{Place}
use Rattle.isa.specs.declared.form.Place.TheVariants as places
use Rattle.isa.specs.declared.form.Form.{Form}
use Rattle.isa.specs.declared.form.Values.{Values}
use Rattle.isa.specs.declared.row.Kind.{Kind}
use Rattle.isa.specs.declared.row.Kind.TheVariants as kinds
use Rattle.isa.specs.Row.{operation_of}
use Rattle.isa.specs.RegisterNumbers.{byte_register_of, segment_register_of, word_register_of}
use Rattle.isa.specs.Encoding.{sign_extended}
use Rattle.dialect.specs.declared.keyword.Keyword.{Keyword}
use Rattle.dialect.specs.declared.keyword.Keyword.TheVariants as keywords
use Rattle.dialect.specs.declared.register.Register.TheVariants as registers
use Rattle.disassembler.specs.declared.written.Written.{Written}
use Rattle.disassembler.specs.declared.written.Written.TheVariants.{Nothing, Register, One, Byte}
use Rattle.disassembler.specs.declared.written.Written.TheVariants.{Word, Short, Far, Memory}

-- a byte register by its number
abbrev pub byte_register : ℕ → Written
byte_register n = Register (registers.Byte (byte_register_of n))

abbrev pub word_register : ℕ → Written
word_register n = Register (registers.Word (word_register_of n))

abbrev pub segment_register : ℕ → Written
segment_register n = Register (registers.Segment (segment_register_of n))

-- a jump's target, which is counted from the next instruction on, and wraps
abbrev pub target_after : ℕ → ℕ → ℕ
target_after next distance = (next + distance) % 65536

-- a short jump's target: JMP says SHORT before it, because it has a near form, too
abbrev pub target_operand : Operation → ℕ → Written
target_operand (Control Jmp) target = Short target
target_operand _ target = Word target

-- the number of an ESC
abbrev pub escape_operand : ℕ → ℕ → Written
escape_operand code reg = Byte ((8 * code + reg) % 256)

-- Whether an operand tells the size of memory beside it, which then has no size word. CL as a count tells none.
abbrev pub tells_size : Kind → Bool
tells_size kinds.Reg8 = true
tells_size kinds.Reg16 = true
tells_size kinds.Segment = true
tells_size kinds.SegmentNotCs = true
tells_size _ = false

abbrev pub size_beside : Keyword → Kind → Option Keyword
size_beside size other = if tells_size other then None else Some size

-- the size word of a pointer in memory: FAR for a far jump or call; LEA, LES and LDS have none
abbrev pub far_size : Operation → Option Keyword
far_size (Control _) = Some keywords.Far
far_size _ = None

-- a place in memory
abbrev pub memory_at : Option Keyword → Option BaseType → Option ℕ → Written
memory_at size base displacement = Memory (record { size = size; base = base; displacement = displacement })

abbrev pub memory_operand : Place → Option Keyword → ℕ → Written
memory_operand places.Absent size displacement = Nothing
memory_operand (places.Register _) size displacement = Nothing
memory_operand places.Direct size displacement = memory_at size None (Some displacement)
memory_operand (places.Base base) size displacement = memory_at size (Some base) None
memory_operand (places.BaseByte base) size displacement = memory_at size (Some base) (Some (sign_extended displacement))
memory_operand (places.BaseWord base) size displacement = memory_at size (Some base) (Some displacement)

-- a register or a place in memory
abbrev pub byte_operand : Place → Option Keyword → ℕ → Written
byte_operand (places.Register number) size displacement = byte_register number
byte_operand place size displacement = memory_operand place size displacement

abbrev pub word_operand : Place → Option Keyword → ℕ → Written
word_operand (places.Register number) size displacement = word_register number
word_operand place size displacement = memory_operand place size displacement

-- what is written for the operand of a kind beside one of kind `other`, if the next instruction stands at `next`
unfoldable pub written_operand : Form → Values → ℕ → Kind → Kind → Written
written_operand f v next kinds.Nothing other = Nothing
written_operand f v next kinds.Ten other = Nothing
written_operand f v next kinds.Al other = Register (registers.Byte byte_registers.Al)
written_operand f v next kinds.Ax other = Register (registers.Word word_registers.Ax)
written_operand f v next kinds.Cl other = Register (registers.Byte byte_registers.Cl)
written_operand f v next kinds.Dx other = Register (registers.Word word_registers.Dx)
written_operand f v next kinds.One other = One
written_operand f v next kinds.Code8 other = byte_register f.code
written_operand f v next kinds.Code16 other = word_register f.code
written_operand f v next kinds.CodeSegment other = segment_register f.code
written_operand f v next kinds.CodeSegmentNotCs other = segment_register f.code
written_operand f v next kinds.EscNumber other = escape_operand f.code f.reg
written_operand f v next kinds.Reg8 other = byte_register f.reg
written_operand f v next kinds.Reg16 other = word_register f.reg
written_operand f v next kinds.Segment other = segment_register f.reg
written_operand f v next kinds.SegmentNotCs other = segment_register f.reg
written_operand f v next kinds.Rm8 other = byte_operand f.place (size_beside keywords.Byte other) v.displacement
written_operand f v next kinds.Rm16 other = word_operand f.place (size_beside keywords.Word other) v.displacement
written_operand f v next kinds.Memory other = word_operand f.place (far_size (operation_of f.row)) v.displacement
written_operand f v next kinds.Imm8 other = Byte (v.number % 256)
written_operand f v next kinds.Imm16 other = Word v.number
written_operand f v next kinds.Signed8 other = Word (sign_extended v.number)
written_operand f v next kinds.Rel8 other =
    target_operand (operation_of f.row) (target_after next (sign_extended v.number))
written_operand f v next kinds.Rel16 other = Word (target_after next v.number)
written_operand f v next kinds.At8 other = memory_at None None (Some v.number)
written_operand f v next kinds.At16 other = memory_at None None (Some v.number)
written_operand f v next kinds.Far other = Far v.segment v.number
