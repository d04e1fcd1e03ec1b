-- How an instruction moves SP, as its bytes tell (8086 Family User's Manual, "Stack Operations").
-- To be believed by callers of this crate: the headline does not rest on it.
use Rattle.std.specs.Prelude.{ℕ, Bool, true, false, ◌||◌, ◌-◌, if◌then◌else◌}
use Rattle.board_types.specs.Address.{offset_after}
use Rattle.isa.specs.declared.form.Instr.{Instr}
use Rattle.isa.specs.declared.operation.Operation.{Operation}
use Rattle.isa.specs.declared.operation.Operation.TheVariants.{Arithmetic, Shift, Product, Unary, Transfer, Control}
use Rattle.isa.specs.declared.operation.Arithmetic.TheVariants.{Add, Sub, Cmp, Test}
use Rattle.isa.specs.declared.operation.Control.{Control as ControlType}
use Rattle.isa.specs.declared.operation.Control.TheVariants.{Jmp, Call, Ret, JmpFar, CallFar, Retf, Int3, Int, Into}
use Rattle.isa.specs.declared.operation.Control.TheVariants.{Iret}
use Rattle.isa.specs.declared.operation.Product.TheVariants.{Div, Idiv}
use Rattle.isa.specs.declared.operation.Transfer.{Transfer as TransferType}
use Rattle.isa.specs.declared.operation.Transfer.TheVariants.{Mov, Xchg, Lea, Les, Lds, Push, Pop, Pushf, Popf}
use Rattle.isa.specs.declared.operation.Unary.TheVariants.{Inc, Dec}
use Rattle.isa.specs.declared.register.WordRegister.TheVariants.{Sp}
use Rattle.isa.specs.Row.{first_of, operation_of, second_of}
use Rattle.digest.specs.declared.operand.Operand.{Operand}
use Rattle.digest.specs.declared.operand.Operand.TheVariants.{Number, Word}
use Rattle.digest.specs.Operands.{operand_of}
use Rattle.forms.specs.declared.stack.StackMove.{StackMove}
use Rattle.forms.specs.declared.stack.StackMove.TheVariants.{By, Or, Loads}

abbrev pub first_operand : Instr → Operand
first_operand i = operand_of i (first_of i.form.row)

abbrev pub second_operand : Instr → Operand
second_operand i = operand_of i (second_of i.form.row)

abbrev pub is_sp : Operand → Bool
is_sp (Word Sp) = true
is_sp _ = false

-- what is written to SP itself isn't told
abbrev pub loads_if : Bool → StackMove → StackMove
loads_if true move = Loads
loads_if false move = move

-- a push moves SP down by 2, a pop up by 2
abbrev pub transfer_move : Instr → TransferType → StackMove
transfer_move i Push = By 65534
transfer_move i Pushf = By 65534
transfer_move i Pop = loads_if (is_sp (first_operand i)) (By 2)
transfer_move i Popf = By 2
transfer_move i Mov = loads_if (is_sp (first_operand i)) (By 0)
transfer_move i Lea = loads_if (is_sp (first_operand i)) (By 0)
transfer_move i Les = loads_if (is_sp (first_operand i)) (By 0)
transfer_move i Lds = loads_if (is_sp (first_operand i)) (By 0)
transfer_move i Xchg = loads_if (is_sp (first_operand i) || is_sp (second_operand i)) (By 0)
transfer_move i op = By 0

-- how many more bytes a return takes off the stack
abbrev pub bytes_in : Operand → ℕ
bytes_in (Number bytes) = bytes
bytes_in operand = 0

abbrev pub more_bytes : Instr → ℕ
more_bytes i = bytes_in (first_operand i)

-- an entry pushes three words
abbrev pub control_move : Instr → ControlType → StackMove
control_move i Jmp = By 0
control_move i JmpFar = By 0
control_move i Call = By 65534
control_move i CallFar = By 65532
control_move i Ret = By (offset_after (more_bytes i) 2)
control_move i Retf = By (offset_after (more_bytes i) 4)
control_move i Iret = By 6
control_move i Int3 = By 65530
control_move i Int = By 65530
control_move i Into = Or 65530

-- whether an operation that calculates writes its first operand back
abbrev pub writes_first : Operation → Bool
writes_first (Arithmetic Cmp) = false
writes_first (Arithmetic Test) = false
writes_first (Arithmetic op) = true
writes_first (Shift op) = true
writes_first (Unary op) = true
writes_first op = false

-- what a sum or a difference with a number in the instruction makes of SP
abbrev pub sum_move : Operation → Operand → StackMove
sum_move (Arithmetic Add) (Number number) = By number
sum_move (Arithmetic Sub) (Number number) = By (offset_after 0 (65536 - number))
sum_move (Unary Inc) operand = By 1
sum_move (Unary Dec) operand = By 65535
sum_move op operand = Loads

abbrev pub operand_move : Instr → Operation → StackMove
operand_move i op =
    if writes_first op then (if is_sp (first_operand i) then sum_move op (second_operand i) else By 0) else By 0

abbrev pub move_by : Instr → Operation → StackMove
move_by i (Transfer op) = transfer_move i op
move_by i (Control op) = control_move i op
move_by i (Product Div) = Or 65530
move_by i (Product Idiv) = Or 65530
move_by i op = operand_move i op

-- how an instruction moves SP
unfoldable pub move_of : Instr → StackMove
move_of i = move_by i (operation_of i.form.row)
