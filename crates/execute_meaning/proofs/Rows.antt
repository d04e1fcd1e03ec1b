-- The definitions on worked values: which case of a free boundary it is, what an instruction keeps off, when a single
-- step is due, and when a repeat goes on and where IP then stands (8086 Family User's Manual, "Interrupts",
-- "Single-Step", "String Instructions").
use Rattle.std.proofs.Common.{◌≡◌, Bool, true, false, Option, Some, None, refl}
use Rattle.board_types.specs.declared.choice.ClockTable.{ClockTable}
use Rattle.board_types.specs.declared.choice.ClockTable.TheVariants.{C1, C2}
use Rattle.board_types.specs.declared.state.State.{State}
use Rattle.board_types.specs.declared.state.State.TheVariants.{Running, Halted, Jammed}
use Rattle.isa.specs.declared.form.Instr.{Instr}
use Rattle.isa.specs.declared.form.Repeat.{Repeat}
use Rattle.isa.specs.declared.form.Repeat.TheVariants.{Repne, Rep}
use Rattle.isa.specs.declared.operation.Operation.TheVariants as operations
use Rattle.isa.specs.declared.operation.Transfer.TheVariants.{Mov, Pop, Popf, Les}
use Rattle.isa.specs.declared.operation.Processor.TheVariants.{Sti, Cli}
use Rattle.isa.specs.declared.operation.Control.TheVariants.{Iret}
use Rattle.isa.specs.declared.operation.Strings.{Strings}
use Rattle.isa.specs.declared.operation.Strings.TheVariants.{Movsb, Cmpsb, Scasw}
use Rattle.isa.specs.declared.row.Kind.TheVariants as kinds
use Rattle.isa.specs.Encoding.{form_length}
use Rattle.bus.specs.Bus.{BusMeaning}
use Rattle.execute_machine.specs.RegisterFile.{Registers}
use Rattle.execute_strings.specs.StringMeaning.{goes_on}
use Rattle.execute_meaning.specs.declared.boundary.Boundary.TheVariants as boundaries
use Rattle.execute_meaning.specs.declared.boundary.Cause.TheVariants.{Request, SingleStep}
use Rattle.execute_meaning.specs.declared.shadow.Shadow.{Shadow}
use Rattle.execute_meaning.specs.declared.shadow.Shadow.TheVariants as shadows
use Rattle.execute_meaning.specs.declared.repeating.Repeating.{Repeating}
use Rattle.execute_meaning.specs.Cpu.{CpuState}
use Rattle.execute_meaning.specs.Boundaries.{boundary_of, entry_clocks, still_due}
use Rattle.execute_meaning.specs.Meaning.{after_fetch, after_repeat, repeating_of, shadow_of, with_repeat}

-- a processor with these interrupts let in, in this state and shadow, with a single step due or not
abbrev cpu : Registers → Bool → State → Shadow → Bool → Option Repeating → CpuState
cpu r lets state shadow due repeat = record {
  registers = record r { flags = record r.flags { interrupt_enable = lets } };
  state = state;
  shadow = shadow;
  step_due = due;
  repeat = repeat;
}

-- a request comes before a due single step, and this before the next iteration or instruction
request_first : (r : Registers) (x : Repeating) → boundary_of (cpu r true Running shadows.Nothing true (Some x)) true ≡ boundaries.Request
unfolding boundary_of
request_first r x = refl

step_next : (r : Registers) (x : Repeating) → boundary_of (cpu r true Running shadows.Nothing true (Some x)) false ≡ boundaries.SingleStep
unfolding boundary_of
step_next r x = refl

then_the_iteration : (r : Registers) (x : Repeating) → boundary_of (cpu r true Running shadows.Nothing false (Some x)) false ≡ boundaries.Iteration
unfolding boundary_of
then_the_iteration r x = refl

then_the_instruction : (r : Registers) → boundary_of (cpu r true Running shadows.Nothing false None) false ≡ boundaries.Instruction
unfolding boundary_of
then_the_instruction r = refl

-- with IF 0 no request is taken, and a single step is
without_if : (r : Registers) → boundary_of (cpu r false Running shadows.Nothing false None) true ≡ boundaries.Instruction
unfolding boundary_of
without_if r = refl

step_without_if : (r : Registers) → boundary_of (cpu r false Running shadows.Nothing true None) true ≡ boundaries.SingleStep
unfolding boundary_of
step_without_if r = refl

-- after STI a request is kept off, and a single step isn't; after MOV to a segment register both are
after_sti : (r : Registers) → boundary_of (cpu r true Running shadows.Requests false None) true ≡ boundaries.Instruction
unfolding boundary_of
after_sti r = refl

step_after_sti : (r : Registers) → boundary_of (cpu r true Running shadows.Requests true None) true ≡ boundaries.SingleStep
unfolding boundary_of
step_after_sti r = refl

after_mov_ss : (r : Registers) → boundary_of (cpu r true Running shadows.Interrupts true None) true ≡ boundaries.Instruction
unfolding boundary_of
after_mov_ss r = refl

-- a halted processor takes a request or a single step, and does nothing else
ends_a_halt : (r : Registers) → boundary_of (cpu r true Halted shadows.Nothing false None) true ≡ boundaries.Request
unfolding boundary_of
ends_a_halt r = refl

step_ends_a_halt : (r : Registers) → boundary_of (cpu r false Halted shadows.Nothing true None) true ≡ boundaries.SingleStep
unfolding boundary_of
step_ends_a_halt r = refl

halted_for_good : (r : Registers) → boundary_of (cpu r false Halted shadows.Nothing false None) true ≡ boundaries.Nothing
unfolding boundary_of
halted_for_good r = refl

-- a jammed processor does nothing at all
jammed : (r : Registers) → boundary_of (cpu r true Jammed shadows.Nothing true None) true ≡ boundaries.Nothing
unfolding boundary_of
jammed r = refl

-- MOV and POP to a segment register keep all off, STI requests, and the others nothing
mov_ss : shadow_of (operations.Transfer Mov) kinds.Segment ≡ shadows.Interrupts
mov_ss = refl

pop_ss : shadow_of (operations.Transfer Pop) kinds.CodeSegmentNotCs ≡ shadows.Interrupts
pop_ss = refl

mov_ax : shadow_of (operations.Transfer Mov) kinds.Reg16 ≡ shadows.Nothing
mov_ax = refl

pop_ax : shadow_of (operations.Transfer Pop) kinds.Code16 ≡ shadows.Nothing
pop_ax = refl

sti : shadow_of (operations.Processor Sti) kinds.Nothing ≡ shadows.Requests
sti = refl

cli : shadow_of (operations.Processor Cli) kinds.Nothing ≡ shadows.Nothing
cli = refl

popf : shadow_of (operations.Transfer Popf) kinds.Nothing ≡ shadows.Nothing
popf = refl

les : shadow_of (operations.Transfer Les) kinds.Reg16 ≡ shadows.Nothing
les = refl

iret : shadow_of (operations.Control Iret) kinds.Nothing ≡ shadows.Nothing
iret = refl

-- a single step is due after a step that began with TF set, and not after one that began without
due_after_tf : (p : CpuState) (r : Registers)
    → (after_fetch (record p { registers = record r { flags = record r.flags { trap = true } }; step_due = false }) 2).step_due ≡ true
due_after_tf p r = refl

not_due : (p : CpuState) (r : Registers)
    → (after_fetch (record p { registers = record r { flags = record r.flags { trap = false } }; step_due = true }) 2).step_due ≡ false
not_due p r = refl

ip_goes_on : (p : CpuState) (r : Registers) → (after_fetch (record p { registers = record r { ip = 0xFFFF } }) 2).registers.ip ≡ 1
ip_goes_on p r = refl

-- an entry by request leaves a due single step due, and the single step's own entry doesn't
due_after_a_request : still_due true Request ≡ true
due_after_a_request = refl

done_after_its_own : still_due true SingleStep ≡ false
done_after_its_own = refl

request_clocks : entry_clocks C1 Request ≡ 61
request_clocks = refl

step_clocks : entry_clocks C1 SingleStep ≡ 50
step_clocks = refl

request_clocks_by_words : entry_clocks C2 Request ≡ 81
request_clocks_by_words = refl

step_clocks_by_words : entry_clocks C2 SingleStep ≡ 70
step_clocks_by_words = refl

-- REP MOVSB at 0100h, and two prefixes before MOVSB at 0000h: between iterations IP is the last prefix's
at_the_prefix : (table : ClockTable) (p : CpuState) (r : Registers) (i : Instr) → form_length i.form ≡ 1
    → (with_repeat p (record r { ip = 0x102 }) (repeating_of table Movsb i)).registers.ip ≡ 0x100
at_the_prefix table p r i one = rw one refl

at_the_last_prefix : (table : ClockTable) (p : CpuState) (r : Registers) (i : Instr) → form_length i.form ≡ 1
    → (with_repeat p (record r { ip = 3 }) (repeating_of table Movsb i)).registers.ip ≡ 1
at_the_last_prefix table p r i one = rw one refl

-- with CX 0 a repeat does nothing, and IP is the next instruction's
empty_repeat : {S : Type 0} (bus : BusMeaning S) (table : ClockTable) (p : CpuState) (r : Registers) (s : S) (op : Strings) (i : Instr)
    → (after_repeat bus table (record p { registers = record r { cx = 0; ip = 0x102 } }) s op i).cpu.registers.ip ≡ 0x102
unfolding after_repeat
empty_repeat bus table p r s op i = refl

none_in_progress : {S : Type 0} (bus : BusMeaning S) (table : ClockTable) (p : CpuState) (r : Registers) (s : S) (op : Strings) (i : Instr)
    → (after_repeat bus table (record p { registers = record r { cx = 0 } }) s op i).cpu.repeat ≡ None
unfolding after_repeat
none_in_progress bus table p r s op i = refl

-- a repeat ends if CX is 0, and one of a comparison also under REPE if ZF is 0, under REPNE if it is 1
ends_with_cx : (r : Registers) (op : Strings) (repeat : Repeat) → goes_on (record r { cx = 0 }) op repeat ≡ false
unfolding goes_on
ends_with_cx r op repeat = refl

moves_on : (r : Registers) → goes_on (record r { cx = 1 }) Movsb Repne ≡ true
unfolding goes_on
moves_on r = refl

repe_goes_on : (r : Registers) → goes_on (record r { cx = 1; flags = record r.flags { zero = true } }) Cmpsb Rep ≡ true
unfolding goes_on
repe_goes_on r = refl

repe_ends : (r : Registers) → goes_on (record r { cx = 1; flags = record r.flags { zero = false } }) Cmpsb Rep ≡ false
unfolding goes_on
repe_ends r = refl

repne_ends : (r : Registers) → goes_on (record r { cx = 1; flags = record r.flags { zero = true } }) Scasw Repne ≡ false
unfolding goes_on
repne_ends r = refl
