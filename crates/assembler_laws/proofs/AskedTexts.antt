-- What the text of an instruction asks is by value what the instruction means.
use Rattle.std.proofs.Common.{◌≡◌, ◌∙◌, ℕ, ◌+◌, ◌%◌, ◌<◌, refl, sym, ap, arith, Option, None, Some}
use Rattle.std.specs.Prelude.{ℤ, pos}
use Rattle.isa.specs.declared.operation.Operation.{Operation}
use Rattle.isa.specs.declared.operation.Operation.TheVariants.{Control}
use Rattle.isa.specs.declared.operation.Control.TheVariants as control
use Rattle.isa.specs.declared.form.Base.{Base as BaseType}
use Rattle.isa.specs.declared.form.Place.{Place}
use Rattle.isa.specs.declared.form.Place.TheVariants as places
use Rattle.isa.specs.declared.form.Form.{Form}
use Rattle.isa.specs.declared.form.Values.{Values}
use Rattle.isa.specs.declared.row.Kind.{Kind}
use Rattle.isa.specs.declared.row.Kind.TheVariants as kinds
use Rattle.isa.specs.Row.{operation_of}
use Rattle.isa.specs.Encoding.{sign_extended, IsMemory, IsPlace}
use Rattle.dialect.specs.declared.keyword.Keyword.{Keyword}
use Rattle.dialect.specs.declared.keyword.Keyword.TheVariants as keywords
use Rattle.dialect.specs.declared.size.Size.{Size}
use Rattle.dialect.specs.declared.size.Size.TheVariants as sizes
use Rattle.disassembler.specs.declared.written.Written.{Written}
use Rattle.disassembler.specs.declared.written.Written.TheVariants.{Nothing, Register, One, Byte, Word, Short, Far, Memory}
use Rattle.disassembler.specs.Written.{byte_operand, far_size, memory_operand, size_beside as written_size, target_operand, word_operand, written_operand}
use Rattle.assembler_form.specs.declared.operand.Number.TheVariants.{Constant}
use Rattle.assembler_form.specs.declared.operand.KnownOperand.{KnownOperand}
use Rattle.assembler_form.specs.declared.operand.KnownOperand.TheVariants as known
use Rattle.assembler_form.specs.declared.fields.Numbers.{Numbers}
use Rattle.assembler_form.specs.Asked.{size_beside, size_or, sized}
use Rattle.assembler_laws.specs.SaidTexts.{said_size}
use Rattle.assembler_laws.specs.SameMeaning.{a_number, asked_meant, byte_meant, count, far_away, in_memory, memory_meant}
use Rattle.assembler_laws.specs.SameMeaning.{operand_meant, pointer_size, size_of, word_meant, AreOf, IsWord, Meant}
use Rattle.assembler_laws.proofs.WrittenOperands.{signed_small}

-- ---- what is asked by what is written
abbrev pub displacement_by : Option ℕ → ℕ
displacement_by None = 0
displacement_by (Some d) = d

abbrev pub asked_by : Written → KnownOperand
asked_by Nothing = known.Nothing
asked_by (Register r) = known.Register r
asked_by One = known.One
asked_by (Byte n) = known.Number (Constant (pos n))
asked_by (Word n) = known.Number (Constant (pos n))
asked_by (Short n) = known.Short
asked_by (Far s o) = known.Far
asked_by (Memory m) = known.Memory (record { size = said_size m.size; base = m.base; displacement = Constant (pos (displacement_by m.displacement)) })

abbrev pub numbers_by : Written → Numbers → Numbers
numbers_by Nothing n = n
numbers_by (Register r) n = n
numbers_by One n = record n { number = pos 1 }
numbers_by (Byte x) n = record n { number = pos x }
numbers_by (Word x) n = record n { number = pos x }
numbers_by (Short x) n = record n { number = pos x }
numbers_by (Far s o) n = record n { number = pos o; segment = pos s }
numbers_by (Memory m) n = record n { displacement = pos (displacement_by m.displacement) }

-- these numbers are those that are written
abbrev pub Has : Written → Numbers → Type 0
Has Nothing n = Unit {0}
Has (Register r) n = Unit {0}
Has One n = n.number ≡ pos 1
Has (Byte x) n = n.number ≡ pos x
Has (Word x) n = n.number ≡ pos x
Has (Short x) n = n.number ≡ pos x
Has (Far s o) n = (n.segment ≡ pos s) × (n.number ≡ pos o)
Has (Memory m) n = n.displacement ≡ pos (displacement_by m.displacement)

-- ---- an operand that is written is asked with its size
abbrev pub Asks : Operation → Written → KnownOperand → Numbers → Meant → Type 0
Asks op w other n meant = AreOf (sized op (asked_by w) other) n × (meant ≡ asked_meant (sized op (asked_by w) other) n)

a_word_is : (z : ℤ) (x : ℕ) → z ≡ pos x → x < 65536 → IsWord z
a_word_is z x is small = record { value = x; is = is; small = small }

counted : (z : ℤ) (x : ℕ) → z ≡ pos x → x ≡ count z
counted z x is = ap count (sym is)

byte_asks : (op : Operation) (x : ℕ) (other : KnownOperand) (n : Numbers) → x < 65536 → n.number ≡ pos x → Asks op (Byte x) other n (a_number x)
byte_asks op x other n small is = ((a_word_is n.number x is small, ap Constant (sym is)), ap a_number (counted n.number x is))

word_asks : (op : Operation) (x : ℕ) (other : KnownOperand) (n : Numbers) → x < 65536 → n.number ≡ pos x → Asks op (Word x) other n (a_number x)
word_asks op x other n small is = ((a_word_is n.number x is small, ap Constant (sym is)), ap a_number (counted n.number x is))

target_asks : (op : Operation) (x : ℕ) (other : KnownOperand) (n : Numbers) → x < 65536 → Has (target_operand op x) n
    → Asks op (target_operand op x) other n (a_number x)
target_asks (Control control.Jmp) x other n small is = (a_word_is n.number x is small, ap a_number (counted n.number x is))
target_asks op x other n small is = word_asks op x other n small is

far_asks : (op : Operation) (s o : ℕ) (other : KnownOperand) (n : Numbers)
    → s < 65536 → o < 65536 → n.segment ≡ pos s → n.number ≡ pos o → Asks op (Far s o) other n (far_away s o)
far_asks op s o other n p q s_is o_is = ((a_word_is n.segment s s_is p, a_word_is n.number o o_is q), rw (s_is, o_is) refl)

memory_asks : (op : Operation) (kw : Option Keyword) (b : Option BaseType) (d : Option ℕ) (other : KnownOperand) (n : Numbers) (size : Size)
    → displacement_by d < 65536 → n.displacement ≡ pos (displacement_by d) → size_or (said_size kw) (size_beside op other) ≡ Some size
    → Asks op (Memory (record { size = kw; base = b; displacement = d })) other n (in_memory size b (displacement_by d))
memory_asks op kw b d other n size small is size_is = (
  (a_word_is n.displacement (displacement_by d) is small, ap Constant (sym is)),
  ap (λ (s : Size). in_memory s b (displacement_by d)) (sym (ap size_of size_is))
      ∙ ap (λ (k : ℕ). in_memory (size_of (size_or (said_size kw) (size_beside op other))) b k) (counted n.displacement (displacement_by d) is),
)

-- ---- the size of memory is written, or given by the register beside it
abbrev pub HasSize : Operation → Kind → Kind → KnownOperand → Type 0
HasSize op kinds.Rm8 l other = size_or (said_size (written_size keywords.Byte l)) (size_beside op other) ≡ Some sizes.Byte
HasSize op kinds.Rm16 l other = size_or (said_size (written_size keywords.Word l)) (size_beside op other) ≡ Some sizes.Word
HasSize op kinds.Memory l other = size_or (said_size (far_size op)) (size_beside op other) ≡ Some (pointer_size op)
HasSize op kinds.At8 l other = size_beside op other ≡ Some sizes.Byte
HasSize op kinds.At16 l other = size_beside op other ≡ Some sizes.Word
HasSize op _ l other = Unit {0}

abbrev pub FitsKind : Kind → Place → Type 0
FitsKind kinds.Rm8 p = IsPlace p
FitsKind kinds.Rm16 p = IsPlace p
FitsKind kinds.Memory p = IsMemory p
FitsKind _ p = Unit {0}

place_asks : (op : Operation) (kw : Option Keyword) (p : Place) (d : ℕ) (other : KnownOperand) (n : Numbers) (size : Size) → d < 65536 → IsMemory p
    → Has (memory_operand p kw d) n → size_or (said_size kw) (size_beside op other) ≡ Some size
    → Asks op (memory_operand p kw d) other n (memory_meant size p d)
place_asks op kw places.Absent d other n size small is has e = absurd is
place_asks op kw (places.Register r) d other n size small is has e = absurd is
place_asks op kw places.Direct d other n size small is has e = memory_asks op kw None (Some d) other n size small has e
place_asks op kw (places.Base b) d other n size small is has e = memory_asks op kw (Some b) None other n size (omega arith) has e
place_asks op kw (places.BaseByte b) d other n size small is has e = memory_asks op kw (Some b) (Some (sign_extended d)) other n size (signed_small d) has e
place_asks op kw (places.BaseWord b) d other n size small is has e = memory_asks op kw (Some b) (Some d) other n size small has e

byte_place_asks : (op : Operation) (kw : Option Keyword) (p : Place) (d : ℕ) (other : KnownOperand) (n : Numbers) → d < 65536 → IsPlace p
    → Has (byte_operand p kw d) n → size_or (said_size kw) (size_beside op other) ≡ Some sizes.Byte → Asks op (byte_operand p kw d) other n (byte_meant p d)
byte_place_asks op kw (places.Register r) d other n small is has e = (tt, refl)
byte_place_asks op kw places.Absent d other n small is has e = absurd is
byte_place_asks op kw places.Direct d other n small is has e = place_asks op kw places.Direct d other n sizes.Byte small is has e
byte_place_asks op kw (places.Base b) d other n small is has e = place_asks op kw (places.Base b) d other n sizes.Byte small is has e
byte_place_asks op kw (places.BaseByte b) d other n small is has e = place_asks op kw (places.BaseByte b) d other n sizes.Byte small is has e
byte_place_asks op kw (places.BaseWord b) d other n small is has e = place_asks op kw (places.BaseWord b) d other n sizes.Byte small is has e

word_place_asks : (op : Operation) (kw : Option Keyword) (p : Place) (d : ℕ) (other : KnownOperand) (n : Numbers) (size : Size) → d < 65536 → IsPlace p
    → Has (word_operand p kw d) n → size_or (said_size kw) (size_beside op other) ≡ Some size → Asks op (word_operand p kw d) other n (word_meant size p d)
word_place_asks op kw (places.Register r) d other n size small is has e = (tt, refl)
word_place_asks op kw places.Absent d other n size small is has e = absurd is
word_place_asks op kw places.Direct d other n size small is has e = place_asks op kw places.Direct d other n size small is has e
word_place_asks op kw (places.Base b) d other n size small is has e = place_asks op kw (places.Base b) d other n size small is has e
word_place_asks op kw (places.BaseByte b) d other n size small is has e = place_asks op kw (places.BaseByte b) d other n size small is has e
word_place_asks op kw (places.BaseWord b) d other n size small is has e = place_asks op kw (places.BaseWord b) d other n size small is has e

pub memory_is_place : (p : Place) → IsMemory p → IsPlace p
memory_is_place places.Absent is = is
memory_is_place (places.Register n) is = absurd is
memory_is_place places.Direct is = is
memory_is_place (places.Base base) is = is
memory_is_place (places.BaseByte base) is = is
memory_is_place (places.BaseWord base) is = is

-- ---- an operand of a kind asks what it means
pub record IsSmall (v : Values) : Type 0 where
  pub displacement : v.displacement < 65536
  pub number : v.number < 65536
  pub segment : v.segment < 65536

pub kind_asks : (f : Form) (v : Values) (next : ℕ) (k l : Kind) (other : KnownOperand) (n : Numbers) → IsSmall v → FitsKind k f.place
    → Has (written_operand f v next k l) n → HasSize (operation_of f.row) k l other
    → Asks (operation_of f.row) (written_operand f v next k l) other n (operand_meant f v next k)
unfolding written_operand operand_meant
kind_asks f v next kinds.Nothing l other n small place has size = (tt, refl)
kind_asks f v next kinds.Ten l other n small place has size = (tt, refl)
kind_asks f v next kinds.Al l other n small place has size = (tt, refl)
kind_asks f v next kinds.Ax l other n small place has size = (tt, refl)
kind_asks f v next kinds.Cl l other n small place has size = (tt, refl)
kind_asks f v next kinds.Dx l other n small place has size = (tt, refl)
kind_asks f v next kinds.One l other n small place has size = (has, ap a_number (counted n.number 1 has))
kind_asks f v next kinds.Code8 l other n small place has size = (tt, refl)
kind_asks f v next kinds.Code16 l other n small place has size = (tt, refl)
kind_asks f v next kinds.CodeSegment l other n small place has size = (tt, refl)
kind_asks f v next kinds.CodeSegmentNotCs l other n small place has size = (tt, refl)
kind_asks f v next kinds.EscNumber l other n small place has size = byte_asks (operation_of f.row) _ other n (omega arith) has
kind_asks f v next kinds.Reg8 l other n small place has size = (tt, refl)
kind_asks f v next kinds.Reg16 l other n small place has size = (tt, refl)
kind_asks f v next kinds.Segment l other n small place has size = (tt, refl)
kind_asks f v next kinds.SegmentNotCs l other n small place has size = (tt, refl)
kind_asks f v next kinds.Rm8 l other n small place has size =
    byte_place_asks (operation_of f.row) (written_size keywords.Byte l) f.place v.displacement other n small.displacement place has size
kind_asks f v next kinds.Rm16 l other n small place has size =
    word_place_asks (operation_of f.row) (written_size keywords.Word l) f.place v.displacement other n sizes.Word small.displacement place has size
kind_asks f v next kinds.Memory l other n small place has size =
    word_place_asks (operation_of f.row) (far_size (operation_of f.row)) f.place v.displacement other n (pointer_size (operation_of f.row)) small.displacement
    (memory_is_place f.place place) has size
kind_asks f v next kinds.Imm8 l other n small place has size = byte_asks (operation_of f.row) (v.number % 256) other n (omega arith) has
kind_asks f v next kinds.Imm16 l other n small place has size = word_asks (operation_of f.row) v.number other n small.number has
kind_asks f v next kinds.Signed8 l other n small place has size = word_asks (operation_of f.row) (sign_extended v.number) other n (signed_small v.number) has
kind_asks f v next kinds.Rel8 l other n small place has size =
    target_asks (operation_of f.row) ((next + sign_extended v.number) % 65536) other n (omega arith) has
kind_asks f v next kinds.Rel16 l other n small place has size = word_asks (operation_of f.row) ((next + v.number) % 65536) other n (omega arith) has
kind_asks f v next kinds.At8 l other n small place has size =
    memory_asks (operation_of f.row) None None (Some v.number) other n sizes.Byte small.number has size
kind_asks f v next kinds.At16 l other n small place has size =
    memory_asks (operation_of f.row) None None (Some v.number) other n sizes.Word small.number has size
kind_asks f v next kinds.Far l other n small place has size = far_asks (operation_of f.row) v.segment v.number other n small.segment small.number has.0 has.1
