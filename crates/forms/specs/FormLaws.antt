-- What is told of an instruction by its bytes is what its steps do, over any bus.
-- Laws: claims above the definitions, each proved as the contract of a function.
use Rattle.std.specs.Prelude.{ℕ, ◌≡◌, ◌+◌, ◌-◌, ◌*◌, ◌⊎◌, ◌<◌, ◌≢◌, Bool, true, false, ◌||◌, cond, if◌then◌else◌}
use Rattle.board_types.specs.Address.{offset_after}
use Rattle.board_types.specs.declared.choice.ClockTable.{ClockTable}
use Rattle.board_types.specs.declared.regs.Flags.{Flags}
use Rattle.board_types.specs.declared.state.State.{State}
use Rattle.board_types.specs.declared.state.State.TheVariants.{Halted}
use Rattle.bus.specs.Bus.{BusMeaning}
use Rattle.decode.specs.declared.decoding.Decoding.TheVariants.{Found}
use Rattle.execute_machine.specs.FlagState.{FlagState}
use Rattle.execute_machine.specs.Locations.{far_segment, location_of, machine, value_at, word_at}
use Rattle.execute_machine.specs.RegisterFile.{Registers}
use Rattle.execute_machine.specs.declared.location.OperandLocation.{OperandLocation}
use Rattle.execute_machine.specs.Registers.{segment_register, word_register}
use Rattle.execute_meaning.specs.AccessCounts.{found_by}
use Rattle.execute_meaning.specs.Cpu.{CpuState}
use Rattle.execute_meaning.specs.Meaning.{after_fetch, after_step, size_from_last_prefix, StepResult}
use Rattle.isa.specs.declared.form.Instr.{Instr}
use Rattle.isa.specs.declared.operation.Control.TheVariants.{JmpFar, CallFar, Retf, Iret}
use Rattle.isa.specs.declared.operation.Operation.{Operation}
use Rattle.isa.specs.declared.operation.Operation.TheVariants.{Control}
use Rattle.isa.specs.declared.outcome.Outcome.{Outcome}
use Rattle.isa.specs.Encoding.{IsInstr}
use Rattle.isa.specs.Row.{first_of, operation_of}
use Rattle.isa.specs.declared.register.SegmentRegister.{SegmentRegister}
use Rattle.isa.specs.declared.register.SegmentRegister.TheVariants.{Cs}
use Rattle.isa.specs.declared.register.WordRegister.{WordRegister}
use Rattle.forms.specs.declared.flow.Flow.{Flow}
use Rattle.forms.specs.declared.flow.Flow.TheVariants.{Next, Jump, Branch, Call, Return, Enter, MayEnter, Halt, Repeat}
use Rattle.forms.specs.declared.flow.Target.{Target}
use Rattle.forms.specs.declared.flow.Target.TheVariants.{Relative, Far, Register, Memory, Stack, Vector}
use Rattle.forms.specs.declared.flow.Target.TheVariants as targets
use Rattle.forms.specs.declared.stack.StackMove.{StackMove}
use Rattle.forms.specs.declared.stack.StackMove.TheVariants.{By, Or, Loads}
use Rattle.forms.specs.Changed.{alters_of, sets_segment, sets_word}
use Rattle.forms.specs.Flow.{flow_of, target_of}
use Rattle.forms.specs.StackMove.{move_of}
use Rattle.forms.specs.StepClocks.{clocks_for, clocks_told}

-- the clocks of a step are those that are told for its outcome
abbrev pub ClocksAreTold : {S : Type 0} → BusMeaning S → Type 0
ClocksAreTold {S} bus =
    (table : ClockTable) (p : CpuState) (s : S) (i : Instr) (size : ℕ) → IsInstr i
    → (after_step bus table p s (Found i size)).clocks ≡ clocks_for (clocks_told i table) (found_by bus p s i size)

-- a branch is taken, or an interrupt entered
abbrev pub goes_off : Outcome → Bool
goes_off o = o.taken || o.fault

-- CS:IP afterwards is the next instruction's
abbrev pub GoesOn : Registers → Registers → Type 0
GoesOn before after = (after.cs ≡ before.cs) × (after.ip ≡ before.ip)

-- a far jump, call or return leads to another segment
abbrev pub is_far : Operation → Bool
is_far (Control JmpFar) = true
is_far (Control CallFar) = true
is_far (Control Retf) = true
is_far (Control Iret) = true
is_far op = false

-- CS:IP afterwards is the target. `before` has the next instruction's; `s` is what the bus reaches before the step, and
-- `t` afterwards; the operand, if it has one, stands at `place`. A vector is read after the pushes.
abbrev pub GoesTo : {S : Type 0} → BusMeaning S → S → S → Instr → Bool → OperandLocation → Target
    → Registers → Registers → Type 0
GoesTo bus s t i far place targets.Next before after = GoesOn before after
GoesTo bus s t i far place (Relative distance) before after =
    (after.cs ≡ before.cs) × (after.ip ≡ offset_after before.ip distance)
GoesTo bus s t i far place (Far segment offset) before after = (after.cs ≡ segment) × (after.ip ≡ offset)
GoesTo bus s t i far place Register before after =
    (after.cs ≡ before.cs) × (after.ip ≡ value_at bus (machine before s) place)
GoesTo bus s t i far place Memory before after =
    (after.cs ≡ (if far then far_segment bus s place i else before.cs))
    × (after.ip ≡ value_at bus (machine before s) place)
GoesTo bus s t i far place Stack before after =
    (after.cs ≡ (if far then word_at bus s before.ss (offset_after before.sp 2) else before.cs))
    × (after.ip ≡ word_at bus s before.ss before.sp)
GoesTo bus s t i far place (Vector kind) before after =
    (after.cs ≡ word_at bus t 0 (4 * kind + 2)) × (after.ip ≡ word_at bus t 0 (4 * kind))

abbrev pub IfElse : Bool → Type 0 → Type 0 → Type 0
IfElse true A B = A
IfElse false A B = B

-- CS:IP afterwards is the next instruction's, or its last prefix's
abbrev pub GoesAgain : Instr → Registers → Registers → Type 0
GoesAgain i before after =
    (after.cs ≡ before.cs)
    × ((after.ip ≡ before.ip) ⊎ (after.ip ≡ offset_after before.ip (65536 - size_from_last_prefix i)))

-- where a flow leads, `on` being the next instruction and `to` the target
abbrev pub Leads : Flow → Bool → Type 0 → Type 0 → Type 0 → Type 0
Leads Next off on to again = on
Leads Jump off on to again = to
Leads Branch off on to again = IfElse off to on
Leads Call off on to again = to
Leads Return off on to again = to
Leads Enter off on to again = to
Leads MayEnter off on to again = IfElse off to on
Leads Halt off on to again = on
Leads Repeat off on to again = again

abbrev pub state_by : Flow → State → State
state_by Halt state = Halted
state_by flow state = state

-- a step leads where it is told
pub record LeadsSo {S : Type 0} (bus : BusMeaning S) (i : Instr) (o : Outcome) (before : CpuState) (s : S)
    (done : StepResult S) : Type 0 where
  pub place : Leads (flow_of i) (goes_off o) (GoesOn before.registers done.cpu.registers)
      (GoesTo bus s done.bus i (is_far (operation_of i.form.row))
      (location_of before.registers i (first_of i.form.row)) (target_of i) before.registers done.cpu.registers)
      (GoesAgain i before.registers done.cpu.registers)
  pub state : done.cpu.state ≡ state_by (flow_of i) before.state

abbrev pub FlowIsTold : {S : Type 0} → BusMeaning S → Type 0
FlowIsTold {S} bus =
    (table : ClockTable) (p : CpuState) (s : S) (i : Instr) (size : ℕ) → IsInstr i
    → LeadsSo bus i (found_by bus p s i size) (after_fetch p size) s (after_step bus table p s (Found i size))

-- SP moves by so many bytes, where it wraps
abbrev pub Moves : StackMove → Bool → ℕ → ℕ → Type 0
Moves (By bytes) off before after = after ≡ offset_after before bytes
Moves (Or bytes) off before after = after ≡ (if off then offset_after before bytes else before)
Moves Loads off before after = Unit {0}

-- a step moves SP, which is a word, as it is told
abbrev pub StackIsTold : {S : Type 0} → BusMeaning S → Type 0
StackIsTold {S} bus =
    (table : ClockTable) (p : CpuState) (s : S) (i : Instr) (size : ℕ) → IsInstr i → p.registers.sp < 65536
    → Moves (move_of i) (goes_off (found_by bus p s i size)) p.registers.sp
    (after_step bus table p s (Found i size)).cpu.registers.sp

-- the flags that aren't told, with those that are told clear
abbrev pub untold_flags : Flags → FlagState → Flags
untold_flags told f = record {
  carry = cond told.carry false f.carry;
  parity = cond told.parity false f.parity;
  auxiliary_carry = cond told.auxiliary_carry false f.auxiliary_carry;
  zero = cond told.zero false f.zero;
  sign = cond told.sign false f.sign;
  trap = cond told.trap false f.trap;
  interrupt_enable = cond told.interrupt_enable false f.interrupt_enable;
  direction = cond told.direction false f.direction;
  overflow = cond told.overflow false f.overflow;
}

-- the registers and flags that aren't told are what they were; CS and IP are told by flow and target
pub record OthersAre (i : Instr) (before after : Registers) : Type 0 where
  pub words : (register : WordRegister) → sets_word i register ≡ false
      → word_register after register ≡ word_register before register
  pub segments : (register : SegmentRegister) → register ≢ Cs → sets_segment i register ≡ false
      → segment_register after register ≡ segment_register before register
  pub flags : untold_flags (alters_of i) after.flags ≡ untold_flags (alters_of i) before.flags

-- what isn't told stays at a step; SP is a word
abbrev pub OthersStay : {S : Type 0} → BusMeaning S → Type 0
OthersStay {S} bus =
    (table : ClockTable) (p : CpuState) (s : S) (i : Instr) (size : ℕ) → IsInstr i → p.registers.sp < 65536
    → OthersAre i p.registers (after_step bus table p s (Found i size)).cpu.registers
