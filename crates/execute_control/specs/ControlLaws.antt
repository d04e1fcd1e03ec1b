-- The laws of conditions, loops, calls and interrupts.
-- Laws: claims above the definitions, each proved as the contract of a function.
use Rattle.std.specs.Prelude.{ℕ, ◌≡◌, ◌+◌, ◌-◌, ◌<◌, ◌==◌, true, not, nat_lt, if◌then◌else◌}
use Rattle.board_types.specs.Address.{physical, offset_after}
use Rattle.board_types.specs.Iterate.{iterate}
use Rattle.isa.specs.declared.operation.JumpCondition.{JumpCondition}
use Rattle.isa.specs.declared.operation.JumpCondition.TheVariants.{Overflow, NotOverflow, Below, NotBelow, Zero}
use Rattle.isa.specs.declared.operation.JumpCondition.TheVariants.{NotZero, BelowOrZero, Above, Sign, NotSign, Parity}
use Rattle.isa.specs.declared.operation.JumpCondition.TheVariants.{NotParity, Less, NotLess, LessOrZero, Greater}
use Rattle.isa.specs.declared.operation.Looping.TheVariants.{Loop}
use Rattle.isa.specs.declared.operation.Control.TheVariants.{Call, Ret, CallFar, Retf, Iret}
use Rattle.isa.specs.declared.form.Instr.{Instr}
use Rattle.bus.specs.Bus.{BusMeaning}
use Rattle.execute_machine.specs.RegisterFile.{Registers}
use Rattle.execute_machine.specs.FlagState.{FlagState}
use Rattle.execute_machine.specs.Flags.{forgetting}
use Rattle.execute_machine.specs.Locations.{Machine, machine}
use Rattle.execute_machine.specs.Stack.{after_entry}
use Rattle.execute_control.specs.ControlMeaning.{holds, is_loop_taken, after_looping, after_control, control_operand}

-- the other condition of a pair: their opcodes differ in the lowest bit
abbrev pub contrary : JumpCondition → JumpCondition
contrary Overflow = NotOverflow
contrary NotOverflow = Overflow
contrary Below = NotBelow
contrary NotBelow = Below
contrary Zero = NotZero
contrary NotZero = Zero
contrary BelowOrZero = Above
contrary Above = BelowOrZero
contrary Sign = NotSign
contrary NotSign = Sign
contrary Parity = NotParity
contrary NotParity = Parity
contrary Less = NotLess
contrary NotLess = Less
contrary LessOrZero = Greater
contrary Greater = LessOrZero

-- exactly one condition of each pair holds
abbrev pub ConditionsAreContrary : Type 0
ConditionsAreContrary = (c : JumpCondition) (f : FlagState) → holds (contrary c) f ≡ not (holds c f)

-- how often a LOOP runs from this CX: 0 counts as 65,536
abbrev pub loop_rounds : ℕ → ℕ
loop_rounds cx = if cx == 0 then 65536 else cx

-- a round: what the loop repeats, and then the LOOP
abbrev pub after_round : (Registers → Registers) → Instr → Registers → Registers
after_round body i r = after_looping (body r) Loop i

-- In a loop whose body leaves CX as it is, the LOOP of each of CX rounds jumps, except the last one, after which CX is
-- 0.
pub record LoopRuns (body : Registers → Registers) (i : Instr) (r : Registers) : Type 0 where
  pub jumps : (k : ℕ) → k < loop_rounds r.cx
      → is_loop_taken (body (iterate (after_round body i) k r)) Loop ≡ nat_lt (k + 1) (loop_rounds r.cx)
  pub ends : (iterate (after_round body i) (loop_rounds r.cx) r).cx ≡ 0

abbrev pub LoopRunsCxTimes : Type 0
LoopRunsCxTimes =
    (body : Registers → Registers) → ((r : Registers) → (body r).cx ≡ r.cx) → (i : Instr) (r : Registers)
    → r.cx < 65536 → LoopRuns body i r

-- the address of the byte `more` bytes above the top of the stack
abbrev pub stack_address : Registers → ℕ → ℕ
stack_address r more = physical r.ss (offset_after r.sp more)

-- the next `bytes` bytes that are pushed go to addresses that take them
abbrev pub TakesPushes : {S : Type 0} → BusMeaning S → Machine S → ℕ → Type 0
TakesPushes bus m bytes = (k : ℕ) → k < bytes → bus.is_writable m.bus (stack_address m.registers (65535 - k)) ≡ true

-- a subroutine or a handler, which finds the machine `before` and leaves it as `after` when it returns: SS and SP are
-- again what they were, and so are `bytes` bytes on top of the stack
pub record KeepsStack {S : Type 0} (bus : BusMeaning S) (before after : Machine S) (bytes : ℕ) : Type 0 where
  pub ss : after.registers.ss ≡ before.registers.ss
  pub sp : after.registers.sp ≡ before.registers.sp
  pub held : (k : ℕ) → k < bytes
      → bus.byte_at after.bus (stack_address before.registers k)
      ≡ bus.byte_at before.bus (stack_address before.registers k)

-- a return from a near call: IP is that of the instruction after the CALL, and SP is what it was before the CALL and as
-- much more as the return says; all else is as the subroutine left it
abbrev pub CallReturns : {S : Type 0} → BusMeaning S → Type 0
CallReturns {S} bus =
    (m n : Machine S) (call return : Instr) → m.registers.sp < 65536 → TakesPushes bus m 2
    → KeepsStack bus (after_control bus m Call call) n 2
    → after_control bus n Ret return
    ≡ machine (record n.registers {
      ip = m.registers.ip;
      sp = offset_after m.registers.sp (control_operand bus n return);
    }) n.bus

-- a return from a far call: CS and IP are those of the instruction after the CALL, and SP is what it was before the
-- CALL and as much more as the return says; all else is as the subroutine left it
abbrev pub FarCallReturns : {S : Type 0} → BusMeaning S → Type 0
FarCallReturns {S} bus =
    (m n : Machine S) (call return : Instr) → m.registers.sp < 65536 → TakesPushes bus m 4
    → KeepsStack bus (after_control bus m CallFar call) n 4
    → after_control bus n Retf return
    ≡ machine (record n.registers {
      ip = m.registers.ip;
      cs = m.registers.cs;
      sp = offset_after m.registers.sp (control_operand bus n return);
    }) n.bus

-- an interrupt of any type, and the IRET of its handler: flags, CS, IP and SP are again what they were, and nothing is
-- kept of operands; all else is as the handler left it
abbrev pub InterruptReturns : {S : Type 0} → BusMeaning S → Type 0
InterruptReturns {S} bus =
    (m n : Machine S) (kind : ℕ) (return : Instr) → m.registers.sp < 65536 → TakesPushes bus m 6
    → KeepsStack bus (after_entry bus m kind) n 6
    → after_control bus n Iret return
    ≡ machine (record n.registers {
      ip = m.registers.ip;
      cs = m.registers.cs;
      flags = forgetting m.registers.flags;
      sp = m.registers.sp;
    }) n.bus
