-- Where an instruction leads, as its bytes tell (8086 Family User's Manual, "Program Transfer Instructions").
-- To be believed by callers of this crate: the headline does not rest on it.
use Rattle.std.specs.Prelude.{ℕ, ◌%◌, Bool, if◌then◌else◌}
use Rattle.isa.specs.declared.form.Instr.{Instr}
use Rattle.isa.specs.declared.operation.Operation.{Operation}
use Rattle.isa.specs.declared.operation.Operation.TheVariants.{Product, Jump as JumpIf, Looping, Strings, Control}
use Rattle.isa.specs.declared.operation.Operation.TheVariants.{Processor}
use Rattle.isa.specs.declared.operation.Control.{Control as ControlType}
use Rattle.isa.specs.declared.operation.Control.TheVariants.{Jmp, Ret, JmpFar, CallFar, Retf, Int3, Int, Into, Iret}
use Rattle.isa.specs.declared.operation.Control.TheVariants as controls
use Rattle.isa.specs.declared.operation.Processor.TheVariants.{Hlt}
use Rattle.isa.specs.declared.operation.Product.TheVariants.{Div, Idiv}
use Rattle.isa.specs.Clocks.{is_repeated}
use Rattle.isa.specs.Row.{first_of, operation_of}
use Rattle.digest.specs.declared.operand.Operand.{Operand}
use Rattle.digest.specs.declared.operand.Operand.TheVariants.{Number, Word}
use Rattle.digest.specs.Operands.{operand_of}
use Rattle.forms.specs.declared.flow.Flow.{Flow}
use Rattle.forms.specs.declared.flow.Flow.TheVariants.{Jump, Branch, Call, Return, Enter, MayEnter, Halt, Repeat}
use Rattle.forms.specs.declared.flow.Flow.TheVariants as flows
use Rattle.forms.specs.declared.flow.Target.{Target}
use Rattle.forms.specs.declared.flow.Target.TheVariants.{Relative, Far, Register, Memory, Stack, Vector}
use Rattle.forms.specs.declared.flow.Target.TheVariants as targets

abbrev pub control_flow : ControlType → Flow
control_flow Jmp = Jump
control_flow JmpFar = Jump
control_flow controls.Call = Call
control_flow CallFar = Call
control_flow Ret = Return
control_flow Retf = Return
control_flow Iret = Return
control_flow Int3 = Enter
control_flow Int = Enter
control_flow Into = MayEnter

-- how an operation leads on, under a repeat prefix or not
abbrev pub flow_by : Operation → Bool → Flow
flow_by (JumpIf condition) repeated = Branch
flow_by (Looping op) repeated = Branch
flow_by (Product Div) repeated = MayEnter
flow_by (Product Idiv) repeated = MayEnter
flow_by (Strings op) repeated = if repeated then Repeat else flows.Next
flow_by (Control op) repeated = control_flow op
flow_by (Processor Hlt) repeated = Halt
flow_by op repeated = flows.Next

unfoldable pub flow_of : Instr → Flow
flow_of i = flow_by (operation_of i.form.row) (is_repeated i)

-- a near target: a distance in the instruction, a register, or a word in memory
abbrev pub near_by : Operand → Target
near_by (Number distance) = Relative distance
near_by (Word register) = Register
near_by operand = Memory

abbrev pub near_target : Instr → Target
near_target i = near_by (operand_of i (first_of i.form.row))

-- a far target: in the instruction, or in memory
abbrev pub far_by : Operand → ℕ → Target
far_by (Number offset) segment = Far segment offset
far_by operand segment = Memory

abbrev pub far_target : Instr → Target
far_target i = far_by (operand_of i (first_of i.form.row)) i.values.segment

abbrev pub control_target : Instr → ControlType → Target
control_target i Jmp = near_target i
control_target i controls.Call = near_target i
control_target i JmpFar = far_target i
control_target i CallFar = far_target i
control_target i Ret = Stack
control_target i Retf = Stack
control_target i Iret = Stack
control_target i Int3 = Vector 3
control_target i Int = Vector (i.values.number % 256)
control_target i Into = Vector 4

abbrev pub target_by : Instr → Operation → Target
target_by i (JumpIf condition) = near_target i
target_by i (Looping op) = near_target i
target_by i (Product Div) = Vector 0
target_by i (Product Idiv) = Vector 0
target_by i (Control op) = control_target i op
target_by i op = targets.Next

-- where an instruction leads, if not to the next one alone
unfoldable pub target_of : Instr → Target
target_of i = target_by i (operation_of i.form.row)
