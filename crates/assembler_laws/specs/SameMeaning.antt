-- What an instruction means, whatever its form: its operation, its prefixes, and its operands by value (8086 Family
-- User's Manual, "Machine Instruction Encoding and Decoding").
-- Laws: claims above the definitions, each proved as the contract of a function.
use Rattle.std.specs.Prelude.{ℕ, ℤ, pos, negsuc, ◌≡◌, ◌⊎◌, ◌<◌, ◌+◌, ◌*◌, ◌%◌, Option, Some, None}
use Rattle.isa.specs.declared.operation.Operation.{Operation}
use Rattle.isa.specs.declared.operation.Operation.TheVariants.{Transfer, Control}
use Rattle.isa.specs.declared.operation.Transfer.TheVariants.{Xchg}
use Rattle.isa.specs.declared.register.ByteRegister.TheVariants as byte_registers
use Rattle.isa.specs.declared.register.WordRegister.TheVariants as word_registers
use Rattle.isa.specs.declared.form.Base.{Base as BaseType}
use Rattle.isa.specs.declared.form.Place.{Place}
use Rattle.isa.specs.declared.form.Place.TheVariants.{Direct, Base, BaseByte, BaseWord}
use Rattle.isa.specs.declared.form.Place.TheVariants as places
use Rattle.isa.specs.declared.form.Form.{Form}
use Rattle.isa.specs.declared.form.Values.{Values}
use Rattle.isa.specs.declared.form.Instr.{Instr}
use Rattle.isa.specs.declared.row.Kind.{Kind}
use Rattle.isa.specs.declared.row.Kind.TheVariants as kinds
use Rattle.isa.specs.Row.{first_of, operation_of, second_of}
use Rattle.isa.specs.RegisterNumbers.{byte_register_of, segment_register_of, word_register_of}
use Rattle.isa.specs.Encoding.{instr_length, sign_extended, IsInstr}
use Rattle.dialect.specs.declared.register.Register.{Register}
use Rattle.dialect.specs.declared.register.Register.TheVariants as registers
use Rattle.dialect.specs.declared.size.Size.{Size}
use Rattle.dialect.specs.declared.size.Size.TheVariants as sizes
use Rattle.assembler_form.specs.declared.operand.Number.TheVariants.{Constant}
use Rattle.assembler_form.specs.declared.operand.KnownOperand.{KnownOperand}
use Rattle.assembler_form.specs.declared.operand.KnownOperand.TheVariants as known
use Rattle.assembler_form.specs.declared.asked.Asked.{Asked}
use Rattle.assembler_form.specs.declared.fields.Numbers.{Numbers}
use Rattle.assembler_form.specs.Choice.{IsChosen}
use Rattle.assembler_form.specs.Fields.{values_of}
use Rattle.assembler_meaning.specs.declared.symbol.Location.{Location}
use Rattle.assembler_meaning.specs.Instructions.{instruction_asked, instruction_size, IsFormFor}
use Rattle.assembler_meaning.specs.Values.{Names}
use Rattle.assembler.specs.Placement.{fields_of}
use Rattle.assembler_laws.specs.DecodingBack.{instr_of}
use Rattle.assembler_laws.specs.SaidTexts.{said_instruction}

-- an operand by value: a register, a number (also a jump's target), memory of a size, or a far target
pub data Meant : Type 0 where
  nothing : Meant
  a_register : Register → Meant
  a_number : ℕ → Meant
  in_memory : Size → Option BaseType → ℕ → Meant
  far_away : ℕ → ℕ → Meant

-- a place in memory: registers, and a displacement, which is 0 if none is written
abbrev pub memory_meant : Size → Place → ℕ → Meant
memory_meant size Direct displacement = in_memory size None displacement
memory_meant size (Base base) displacement = in_memory size (Some base) 0
memory_meant size (BaseByte base) displacement = in_memory size (Some base) (sign_extended displacement)
memory_meant size (BaseWord base) displacement = in_memory size (Some base) displacement
memory_meant size _ displacement = nothing

abbrev pub byte_meant : Place → ℕ → Meant
byte_meant (places.Register n) displacement = a_register (registers.Byte (byte_register_of n))
byte_meant place displacement = memory_meant sizes.Byte place displacement

abbrev pub word_meant : Size → Place → ℕ → Meant
word_meant size (places.Register n) displacement = a_register (registers.Word (word_register_of n))
word_meant size place displacement = memory_meant size place displacement

-- the size of a pointer: far jumps and calls take an offset and a segment from memory
abbrev pub pointer_size : Operation → Size
pointer_size (Control _) = sizes.Far
pointer_size _ = sizes.Word

-- the operand of a kind, if the next instruction stands at the offset `next`
unfoldable pub operand_meant : Form → Values → ℕ → Kind → Meant
operand_meant f v next kinds.Nothing = nothing
operand_meant f v next kinds.Ten = nothing
operand_meant f v next kinds.Al = a_register (registers.Byte byte_registers.Al)
operand_meant f v next kinds.Ax = a_register (registers.Word word_registers.Ax)
operand_meant f v next kinds.Cl = a_register (registers.Byte byte_registers.Cl)
operand_meant f v next kinds.Dx = a_register (registers.Word word_registers.Dx)
operand_meant f v next kinds.One = a_number 1
operand_meant f v next kinds.Code8 = a_register (registers.Byte (byte_register_of f.code))
operand_meant f v next kinds.Code16 = a_register (registers.Word (word_register_of f.code))
operand_meant f v next kinds.CodeSegment = a_register (registers.Segment (segment_register_of f.code))
operand_meant f v next kinds.CodeSegmentNotCs = a_register (registers.Segment (segment_register_of f.code))
operand_meant f v next kinds.EscNumber = a_number ((8 * f.code + f.reg) % 256)
operand_meant f v next kinds.Reg8 = a_register (registers.Byte (byte_register_of f.reg))
operand_meant f v next kinds.Reg16 = a_register (registers.Word (word_register_of f.reg))
operand_meant f v next kinds.Segment = a_register (registers.Segment (segment_register_of f.reg))
operand_meant f v next kinds.SegmentNotCs = a_register (registers.Segment (segment_register_of f.reg))
operand_meant f v next kinds.Rm8 = byte_meant f.place v.displacement
operand_meant f v next kinds.Rm16 = word_meant sizes.Word f.place v.displacement
operand_meant f v next kinds.Memory = word_meant (pointer_size (operation_of f.row)) f.place v.displacement
operand_meant f v next kinds.Imm8 = a_number (v.number % 256)
operand_meant f v next kinds.Imm16 = a_number v.number
operand_meant f v next kinds.Signed8 = a_number (sign_extended v.number)
operand_meant f v next kinds.Rel8 = a_number ((next + sign_extended v.number) % 65536)
operand_meant f v next kinds.Rel16 = a_number ((next + v.number) % 65536)
operand_meant f v next kinds.At8 = in_memory sizes.Byte None v.number
operand_meant f v next kinds.At16 = in_memory sizes.Word None v.number
operand_meant f v next kinds.Far = far_away v.segment v.number

-- the first operand of an instruction that stands at the offset `ip`
abbrev pub first_meant : Instr → ℕ → Meant
first_meant i ip = operand_meant i.form i.values ((ip + instr_length i) % 65536) (first_of i.form.row)

abbrev pub second_meant : Instr → ℕ → Meant
second_meant i ip = operand_meant i.form i.values ((ip + instr_length i) % 65536) (second_of i.form.row)

-- two instructions have the same operands; XCHG may have them in the other order
abbrev pub SameOperands : Instr → Instr → ℕ → Type 0
SameOperands i j ip =
    ((first_meant j ip ≡ first_meant i ip) × (second_meant j ip ≡ second_meant i ip))
    ⊎ ((operation_of i.form.row ≡ Transfer Xchg) × (first_meant j ip ≡ second_meant i ip)
    × (second_meant j ip ≡ first_meant i ip))

-- two instructions mean the same at an offset
pub record MeansTheSame (i j : Instr) (ip : ℕ) : Type 0 where
  pub operation : operation_of j.form.row ≡ operation_of i.form.row
  pub prefixes : j.prefixes.items ≡ i.prefixes.items
  pub operands : SameOperands i j ip

-- ---- operands as a line asks them, by value
-- a number from 0 on; one below 0 counts as 0
abbrev pub count : ℤ → ℕ
count (pos n) = n
count (negsuc n) = 0

abbrev pub size_of : Option Size → Size
size_of None = sizes.Byte
size_of (Some size) = size

abbrev pub asked_meant : KnownOperand → Numbers → Meant
asked_meant known.Nothing n = nothing
asked_meant (known.Register r) n = a_register r
asked_meant known.One n = a_number (count n.number)
asked_meant (known.Number _) n = a_number (count n.number)
asked_meant known.Short n = a_number (count n.number)
asked_meant known.Far n = far_away (count n.segment) (count n.number)
asked_meant (known.Memory m) n = in_memory (size_of m.size) m.base (count n.displacement)

-- a number from 0 to 65,535
pub record IsWord (n : ℤ) : Type 0 where
  pub value : ℕ
  pub is : n ≡ pos value
  pub small : value < 65536

-- the numbers are those that the operand names, and all are known
abbrev pub AreOf : KnownOperand → Numbers → Type 0
AreOf known.Nothing n = Unit {0}
AreOf (known.Register r) n = Unit {0}
AreOf known.One n = n.number ≡ pos 1
AreOf (known.Number c) n = IsWord n.number × (c ≡ Constant n.number)
AreOf known.Short n = IsWord n.number
AreOf known.Far n = IsWord n.segment × IsWord n.number
AreOf (known.Memory m) n = IsWord n.displacement × (m.displacement ≡ Constant n.displacement)

-- a form with these numbers has, by value, what is asked
pub record IsOfValues (a : Asked) (n : Numbers) (f : Form) (v : Values) (next : ℕ) : Type 0 where
  pub operation : operation_of f.row ≡ a.operation
  pub first : operand_meant f v next (first_of f.row) ≡ asked_meant a.first n
  pub second : operand_meant f v next (second_of f.row) ≡ asked_meant a.second n

-- The form that is chosen for what a line asks has its operation, and with the numbers of the line's operands it has
-- these operands by value.
abbrev pub FormsMeanWhatIsAsked : Type 0
FormsMeanWhatIsAsked =
    (a : Asked) (f : Form) (v : Values) (next : ℕ) (n : Numbers) → IsChosen a f → values_of f (pos next) n ≡ Some v
    → AreOf a.first n → AreOf a.second n → IsOfValues a n f v (next % 65536)

-- Given to the assembler at its offset, whatever the names before it and in the whole source are, the text of an
-- instruction takes a form that means the same with the numbers that it has there, if they are in range.
abbrev pub TextsMeanTheSame : Type 0
TextsMeanTheSame =
    (before names : Names) (location : Location) (i : Instr) (f : Form) (v : Values) → IsInstr i
    → IsFormFor (instruction_asked before (said_instruction i location.offset)) (Some f)
    → fields_of names location (instruction_size f (said_instruction i location.offset)) f
    (said_instruction i location.offset) ≡ Some v
    → MeansTheSame i (instr_of f (said_instruction i location.offset) v) location.offset
