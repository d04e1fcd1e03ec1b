-- Which registers and flags an instruction may change, as its bytes tell (8086 Family User's Manual, "Instruction
-- Set"). CS and IP aren't among them: where an instruction leads tells these.
-- To be believed by callers of this crate: the headline does not rest on it.
use Rattle.std.specs.Prelude.{◌==◌, Bool, true, false, not, ◌&&◌, ◌||◌}
use Rattle.board_types.specs.declared.regs.Flags.{Flags}
use Rattle.isa.specs.declared.form.Instr.{Instr}
use Rattle.isa.specs.declared.operation.Adjust.{Adjust as AdjustType}
use Rattle.isa.specs.declared.operation.Adjust.TheVariants.{Daa, Das, Aaa, Aas, Aam, Aad, Cbw, Cwd}
use Rattle.isa.specs.declared.operation.Control.{Control as ControlType}
use Rattle.isa.specs.declared.operation.Control.TheVariants.{Int3, Int, Into, Iret}
use Rattle.isa.specs.declared.operation.Looping.{Looping as LoopingType}
use Rattle.isa.specs.declared.operation.Looping.TheVariants.{Jcxz}
use Rattle.isa.specs.declared.operation.Operation.{Operation}
use Rattle.isa.specs.declared.operation.Operation.TheVariants.{Arithmetic, Shift, Product, Unary, Jump, Looping}
use Rattle.isa.specs.declared.operation.Operation.TheVariants.{Strings, Adjust, Transfer, Control, Processor}
use Rattle.isa.specs.declared.operation.Processor.{Processor as ProcessorType}
use Rattle.isa.specs.declared.operation.Processor.TheVariants.{Cmc, Clc, Stc, Cli, Sti, Cld, Std}
use Rattle.isa.specs.declared.operation.Product.{Product as ProductType}
use Rattle.isa.specs.declared.operation.Product.TheVariants.{Mul, Imul, Div, Idiv}
use Rattle.isa.specs.declared.operation.Shift.{Shift as ShiftType}
use Rattle.isa.specs.declared.operation.Shift.TheVariants.{Shl, Shr, Sar}
use Rattle.isa.specs.declared.operation.Strings.{Strings as StringsType}
use Rattle.isa.specs.declared.operation.Strings.TheVariants.{Cmpsb, Cmpsw, Stosb, Stosw, Lodsb, Lodsw}
use Rattle.isa.specs.declared.operation.Strings.TheVariants.{Scasb, Scasw}
use Rattle.isa.specs.declared.operation.Transfer.{Transfer as TransferType}
use Rattle.isa.specs.declared.operation.Transfer.TheVariants.{Mov, Xchg, Lea, Les, Lds, Pop, Popf, Sahf, Lahf, Xlat, In}
use Rattle.isa.specs.declared.operation.Unary.{Unary as UnaryType}
use Rattle.isa.specs.declared.operation.Unary.TheVariants.{Inc, Dec, Not, Neg}
use Rattle.isa.specs.declared.register.ByteRegister.{ByteRegister}
use Rattle.isa.specs.declared.register.ByteRegister.TheVariants.{Al, Cl, Dl, Bl, Ah, Ch, Dh, Bh}
use Rattle.isa.specs.declared.register.SegmentRegister.{SegmentRegister}
use Rattle.isa.specs.declared.register.SegmentRegister.TheVariants.{Es, Ds}
use Rattle.isa.specs.declared.register.WordRegister.{WordRegister}
use Rattle.isa.specs.declared.register.WordRegister.TheVariants.{Ax, Cx, Dx, Bx, Sp, Si, Di}
use Rattle.isa.specs.Clocks.{is_repeated}
use Rattle.isa.specs.RegisterNumbers.{segment_register_number, word_register_number}
use Rattle.isa.specs.Row.{operation_of}
use Rattle.digest.specs.declared.operand.Operand.{Operand}
use Rattle.digest.specs.declared.operand.Operand.TheVariants as operands
use Rattle.forms.specs.declared.stack.StackMove.{StackMove}
use Rattle.forms.specs.declared.stack.StackMove.TheVariants.{By, Or, Loads}
use Rattle.forms.specs.StackMove.{first_operand, move_of, second_operand, writes_first}

-- sets of flags: none, the six that tell of a result, all nine, and the two that an entry clears
abbrev pub no_flags : Flags
no_flags = record {
  carry = false;
  parity = false;
  auxiliary_carry = false;
  zero = false;
  sign = false;
  trap = false;
  interrupt_enable = false;
  direction = false;
  overflow = false;
}

abbrev pub status_flags : Flags
status_flags = record no_flags {
  carry = true;
  parity = true;
  auxiliary_carry = true;
  zero = true;
  sign = true;
  overflow = true;
}

abbrev pub all_flags : Flags
all_flags = record status_flags { trap = true; interrupt_enable = true; direction = true }

abbrev pub entry_flags : Flags
entry_flags = record no_flags { trap = true; interrupt_enable = true }

-- SF, ZF and PF tell of the result of shifts, not of rotates
abbrev pub shifted_flags : ShiftType → Flags
shifted_flags Shl = record status_flags { auxiliary_carry = false }
shifted_flags Shr = record status_flags { auxiliary_carry = false }
shifted_flags Sar = record status_flags { auxiliary_carry = false }
shifted_flags op = record no_flags { carry = true; overflow = true }

abbrev pub product_flags : ProductType → Flags
product_flags Mul = record no_flags { carry = true; overflow = true }
product_flags Imul = record no_flags { carry = true; overflow = true }
product_flags Div = entry_flags
product_flags Idiv = entry_flags

abbrev pub unary_flags : UnaryType → Flags
unary_flags Inc = record status_flags { carry = false }
unary_flags Dec = record status_flags { carry = false }
unary_flags Not = no_flags
unary_flags Neg = status_flags

abbrev pub compared_flags : StringsType → Flags
compared_flags Cmpsb = status_flags
compared_flags Cmpsw = status_flags
compared_flags Scasb = status_flags
compared_flags Scasw = status_flags
compared_flags op = no_flags

abbrev pub adjusted_flags : AdjustType → Flags
adjusted_flags Daa = record status_flags { overflow = false }
adjusted_flags Das = record status_flags { overflow = false }
adjusted_flags Aaa = record no_flags { carry = true; auxiliary_carry = true }
adjusted_flags Aas = record no_flags { carry = true; auxiliary_carry = true }
adjusted_flags Aam = record no_flags { parity = true; zero = true; sign = true }
adjusted_flags Aad = record no_flags { parity = true; zero = true; sign = true }
adjusted_flags Cbw = no_flags
adjusted_flags Cwd = no_flags

abbrev pub transfer_flags : TransferType → Flags
transfer_flags Popf = all_flags
transfer_flags Sahf = record status_flags { overflow = false }
transfer_flags op = no_flags

abbrev pub control_flags : ControlType → Flags
control_flags Int3 = entry_flags
control_flags Int = entry_flags
control_flags Into = entry_flags
control_flags Iret = all_flags
control_flags op = no_flags

abbrev pub processor_flags : ProcessorType → Flags
processor_flags Cmc = record no_flags { carry = true }
processor_flags Clc = record no_flags { carry = true }
processor_flags Stc = record no_flags { carry = true }
processor_flags Cli = record no_flags { interrupt_enable = true }
processor_flags Sti = record no_flags { interrupt_enable = true }
processor_flags Cld = record no_flags { direction = true }
processor_flags Std = record no_flags { direction = true }
processor_flags op = no_flags

abbrev pub flags_by : Operation → Flags
flags_by (Arithmetic op) = status_flags
flags_by (Shift op) = shifted_flags op
flags_by (Product op) = product_flags op
flags_by (Unary op) = unary_flags op
flags_by (Jump condition) = no_flags
flags_by (Looping op) = no_flags
flags_by (Strings op) = compared_flags op
flags_by (Adjust op) = adjusted_flags op
flags_by (Transfer op) = transfer_flags op
flags_by (Control op) = control_flags op
flags_by (Processor op) = processor_flags op

-- the flags that an instruction may change
unfoldable pub alters_of : Instr → Flags
alters_of i = flags_by (operation_of i.form.row)

abbrev pub is_same_word : WordRegister → WordRegister → Bool
is_same_word a b = word_register_number a == word_register_number b

-- the word register of which a byte register is half
abbrev pub word_of : ByteRegister → WordRegister
word_of Al = Ax
word_of Ah = Ax
word_of Cl = Cx
word_of Ch = Cx
word_of Dl = Dx
word_of Dh = Dx
word_of Bl = Bx
word_of Bh = Bx

-- what is written to an operand changes a word register
abbrev pub operand_sets : Operand → WordRegister → Bool
operand_sets (operands.Word to) register = is_same_word to register
operand_sets (operands.Byte to) register = is_same_word (word_of to) register
operand_sets operand register = false

abbrev pub operand_sets_segment : Operand → SegmentRegister → Bool
operand_sets_segment (operands.Segment to) register = segment_register_number to == segment_register_number register
operand_sets_segment operand register = false

abbrev pub is_word : Operand → Bool
is_word (operands.Byte register) = false
is_word operands.ByteByPlace = false
is_word (operands.ByteAt offset) = false
is_word operand = true

-- a product or a quotient is in AX, and of words in DX, too
abbrev pub product_sets : ProductType → Bool → WordRegister → Bool
product_sets op words Ax = true
product_sets op words Dx = words
product_sets op words register = false

-- string instructions set the index registers of their elements, AX if they load them, and CX if they are repeated
abbrev pub uses_source : StringsType → Bool
uses_source Stosb = false
uses_source Stosw = false
uses_source Scasb = false
uses_source Scasw = false
uses_source op = true

abbrev pub loads : StringsType → Bool
loads Lodsb = true
loads Lodsw = true
loads op = false

abbrev pub elements_set : StringsType → Bool → WordRegister → Bool
elements_set op repeated Ax = loads op
elements_set op repeated Cx = repeated
elements_set op repeated Si = uses_source op
elements_set op repeated Di = not (loads op)
elements_set op repeated register = false

abbrev pub adjust_sets : AdjustType → WordRegister → Bool
adjust_sets Cwd Dx = true
adjust_sets Cwd register = false
adjust_sets op Ax = true
adjust_sets op register = false

abbrev pub is_ax : WordRegister → Bool
is_ax Ax = true
is_ax register = false

abbrev pub is_cx : WordRegister → Bool
is_cx Cx = true
is_cx register = false

abbrev pub transfer_sets : Instr → TransferType → WordRegister → Bool
transfer_sets i Mov register = operand_sets (first_operand i) register
transfer_sets i Lea register = operand_sets (first_operand i) register
transfer_sets i Les register = operand_sets (first_operand i) register
transfer_sets i Lds register = operand_sets (first_operand i) register
transfer_sets i Pop register = operand_sets (first_operand i) register
transfer_sets i In register = operand_sets (first_operand i) register
transfer_sets i Xchg register =
    operand_sets (first_operand i) register || operand_sets (second_operand i) register
transfer_sets i Xlat register = is_ax register
transfer_sets i Lahf register = is_ax register
transfer_sets i op register = false

-- JCXZ leaves CX
abbrev pub loop_sets : LoopingType → WordRegister → Bool
loop_sets Jcxz register = false
loop_sets op register = is_cx register

abbrev pub word_set_by : Instr → Operation → WordRegister → Bool
word_set_by i (Product op) register = product_sets op (is_word (first_operand i)) register
word_set_by i (Looping op) register = loop_sets op register
word_set_by i (Strings op) register = elements_set op (is_repeated i) register
word_set_by i (Adjust op) register = adjust_sets op register
word_set_by i (Transfer op) register = transfer_sets i op register
word_set_by i op register = writes_first op && operand_sets (first_operand i) register

abbrev pub sp_moves : StackMove → Bool
sp_moves (By bytes) = not (bytes == 0)
sp_moves (Or bytes) = true
sp_moves Loads = true

abbrev pub set_if_not_sp : Instr → WordRegister → Bool
set_if_not_sp i Sp = sp_moves (move_of i)
set_if_not_sp i register = word_set_by i (operation_of i.form.row) register

-- an instruction may change a word register, or half of it
unfoldable pub sets_word : Instr → WordRegister → Bool
sets_word i register = set_if_not_sp i register

abbrev pub is_es : SegmentRegister → Bool
is_es Es = true
is_es register = false

abbrev pub is_ds : SegmentRegister → Bool
is_ds Ds = true
is_ds register = false

abbrev pub segment_set_by : Instr → Operation → SegmentRegister → Bool
segment_set_by i (Transfer Mov) register = operand_sets_segment (first_operand i) register
segment_set_by i (Transfer Pop) register = operand_sets_segment (first_operand i) register
segment_set_by i (Transfer Les) register = is_es register
segment_set_by i (Transfer Lds) register = is_ds register
segment_set_by i op register = false

-- an instruction may change a segment register
unfoldable pub sets_segment : Instr → SegmentRegister → Bool
sets_segment i register = segment_set_by i (operation_of i.form.row) register
