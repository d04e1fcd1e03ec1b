-- What holds of a step over any bus, and what the conditional jumps ask of two numbers that were compared (8086 Family
-- User's Manual, "Conditional Transfers").
-- Laws: claims above the definitions, each proved as the contract of a function.
use Rattle.std.specs.Prelude.{ℕ, ◌≡◌, ◌≢◌, ◌<◌, ◌≤◌, ◌<ℤ◌, ◌≤ℤ◌, IsTrue, ◌↔◌}
use Rattle.board_types.specs.declared.choice.ClockTable.{ClockTable}
use Rattle.isa.specs.declared.operation.Arithmetic.TheVariants.{Cmp}
use Rattle.isa.specs.declared.operation.JumpCondition.TheVariants.{Below, NotBelow, Zero, NotZero, BelowOrZero}
use Rattle.isa.specs.declared.operation.JumpCondition.TheVariants.{Above, Less, NotLess, LessOrZero, Greater}
use Rattle.isa.specs.declared.form.Instr.{Instr}
use Rattle.isa.specs.Row.{first_of, second_of}
use Rattle.decode.specs.declared.decoding.Decoding.{Decoding as Decoded}
use Rattle.bus.specs.Bus.{BusMeaning}
use Rattle.bus.specs.PortWriteBus.{after_port_writes}
use Rattle.execute_machine.specs.FlagState.{FlagState}
use Rattle.execute_machine.specs.declared.width.Width.{Width}
use Rattle.execute_machine.specs.Locations.{Machine, location_of, operand_at, width_at}
use Rattle.execute_machine.specs.Sums.{signed_of}
use Rattle.execute_arith.specs.ArithmeticMeaning.{after_arithmetic}
use Rattle.execute_control.specs.ControlMeaning.{holds}
use Rattle.execute_meaning.specs.declared.boundary.Cause.{Cause}
use Rattle.execute_meaning.specs.Boundaries.{after_enter}
use Rattle.execute_meaning.specs.Cpu.{CpuState}
use Rattle.execute_meaning.specs.Meaning.{after_again, after_step}
use Rattle.execute_meaning.specs.PortWrites.{port_writes_of}

-- A fact about what a bus reaches, as an equation of two things that are seen there. Each access of the bus keeps it.
pub record EachAccessKeeps {S U : Type 0} (bus : BusMeaning S) (left right : S → U) : Type 0 where
  pub write : (s : S) (address byte : ℕ) → left s ≡ right s
      → left (bus.after_write s address byte) ≡ right (bus.after_write s address byte)
  pub input : (s : S) (port : ℕ) → left s ≡ right s → left (bus.after_input s port) ≡ right (bus.after_input s port)
  pub output : (s : S) (port byte : ℕ) → left s ≡ right s
      → left (bus.after_output s port byte) ≡ right (bus.after_output s port byte)

-- If the fact holds, a part of what the bus reaches stays at memory writes and port reads, and at a port write it
-- changes in a way that depends only on that part, the port and the byte.
pub record WritesAlone {S T U : Type 0} (bus : BusMeaning S) (left right : S → U) (part : S → T)
    (after : T → ℕ → ℕ → T) : Type 0 where
  pub write : (s : S) (address byte : ℕ) → left s ≡ right s → part (bus.after_write s address byte) ≡ part s
  pub input : (s : S) (port : ℕ) → left s ≡ right s → part (bus.after_input s port) ≡ part s
  pub output : (s : S) (port byte : ℕ) → left s ≡ right s
      → part (bus.after_output s port byte) ≡ after (part s) port byte

-- Take any fact that each access keeps, and any part that only port writes change while it holds. From a state in which
-- the fact holds, a step changes the part as the step's port writes do, made in order.
abbrev pub PortWritesTell : {S : Type 0} → BusMeaning S → Type 0 → Type 0 → Type 0
PortWritesTell {S} bus T U =
    (left right : S → U) (part : S → T) (after : T → ℕ → ℕ → T)
    → EachAccessKeeps bus left right
    → WritesAlone bus left right part after
    → (table : ClockTable) (p : CpuState) (s : S) (decoded : Decoded) → left s ≡ right s
    → part (after_step bus table p s decoded).bus ≡ after_port_writes after (part s) (port_writes_of p decoded)

-- an iteration of a repeat and an entry reach only memory: what memory writes leave as it is stays
pub record MemoryAlone {S : Type 0} (bus : BusMeaning S) (T : Type 0) : Type 0 where
  pub again : (part : S → T) → ((s : S) (address byte : ℕ) → part (bus.after_write s address byte) ≡ part s)
      → (p : CpuState) (s : S) → part (after_again bus p s).bus ≡ part s
  pub enter : (part : S → T) → ((s : S) (address byte : ℕ) → part (bus.after_write s address byte) ≡ part s)
      → (table : ClockTable) (p : CpuState) (s : S) (kind : ℕ) (cause : Cause)
      → part (after_enter bus table p s kind cause).bus ≡ part s

-- a step keeps each fact that each access keeps
abbrev pub StepKeeps : {S : Type 0} → BusMeaning S → Type 0 → Type 0
StepKeeps {S} bus U =
    (left right : S → U) → EachAccessKeeps bus left right
    → (table : ClockTable) (p : CpuState) (s : S) (decoded : Decoded) → left s ≡ right s
    → left (after_step bus table p s decoded).bus ≡ right (after_step bus table p s decoded).bus

-- JB JNB JZ JNZ JBE JA, of unsigned numbers, and JL JGE JLE JG, of signed ones, jump if their relation holds
pub record JumpsByOrder (f : FlagState) (width : Width) (a b : ℕ) : Type 0 where
  pub below : IsTrue (holds Below f) ↔ (a < b)
  pub not_below : IsTrue (holds NotBelow f) ↔ (b ≤ a)
  pub equal : IsTrue (holds Zero f) ↔ (a ≡ b)
  pub not_equal : IsTrue (holds NotZero f) ↔ (a ≢ b)
  pub below_or_equal : IsTrue (holds BelowOrZero f) ↔ (a ≤ b)
  pub above : IsTrue (holds Above f) ↔ (b < a)
  pub less : IsTrue (holds Less f) ↔ (signed_of width a <ℤ signed_of width b)
  pub not_less : IsTrue (holds NotLess f) ↔ (signed_of width b ≤ℤ signed_of width a)
  pub less_or_equal : IsTrue (holds LessOrZero f) ↔ (signed_of width a ≤ℤ signed_of width b)
  pub greater : IsTrue (holds Greater f) ↔ (signed_of width b <ℤ signed_of width a)

-- after a CMP the conditional jumps go by the order of its operands, whatever they are
abbrev pub CmpDecidesJumps : {S : Type 0} → BusMeaning S → Type 0
CmpDecidesJumps {S} bus =
    (m : Machine S) (i : Instr)
    → let to = location_of m.registers i (first_of i.form.row) in
    let from = location_of m.registers i (second_of i.form.row) in
    let width = width_at to in
    JumpsByOrder (after_arithmetic bus m Cmp i).registers.flags width (operand_at bus m to width)
    (operand_at bus m from width)
