-- SP after a step is what is told.
use Rattle.std.proofs.Common.{◌≡◌, ℕ, ◌+◌, ◌-◌, ◌<◌, ◌%◌, Bool, true, false, if◌then◌else◌, refl, sym, ap, ◌∙◌, subst, arith}
use Rattle.board_types.specs.Address.{offset_after}
use Rattle.board_types.specs.declared.choice.ClockTable.{ClockTable}
use Rattle.bus.specs.Bus.{BusMeaning}
use Rattle.digest.specs.declared.operand.Operand.{Operand}
use Rattle.execute_arith.specs.ArithmeticMeaning.{after_arithmetic, after_unary, unary_result_of, with_flags}
use Rattle.execute_arith.specs.Products.{after_division, after_product, has_fault, has_no_quotient, with_division}
use Rattle.execute_arith.specs.Products as product
use Rattle.execute_arith.specs.declared.numbers.Division.{Division}
use Rattle.execute_machine.specs.declared.location.OperandLocation.{OperandLocation}
use Rattle.execute_machine.specs.declared.location.OperandLocation.TheVariants.{Word}
use Rattle.execute_machine.specs.declared.width.Width.{Width}
use Rattle.execute_machine.specs.declared.width.Width.TheVariants as widths
use Rattle.execute_meaning.specs.AccessCounts.{outcome_in}
use Rattle.execute_transfer.specs.TransferMeaning.{after_pop_operand, after_popf, after_push_operand, after_transfer}
use Rattle.forms.specs.declared.stack.StackMove.TheVariants.{By}
use Rattle.digest.specs.declared.operand.Operand.TheVariants as operands
use Rattle.isa.specs.declared.operation.Arithmetic.{Arithmetic as ArithmeticType}
use Rattle.isa.specs.declared.operation.Arithmetic.TheVariants.{Add, Sub, Cmp, Test}
use Rattle.isa.specs.declared.operation.Transfer.{Transfer as TransferType}
use Rattle.isa.specs.declared.operation.Transfer.TheVariants.{Mov, Xchg, Lea, Les, Lds, Push, Pop, Pushf, Popf}
use Rattle.isa.specs.declared.operation.Unary.{Unary as UnaryType}
use Rattle.isa.specs.declared.operation.Unary.TheVariants.{Inc, Dec}
use Rattle.std.proofs.Common.{Option, Some, None, ◌||◌}
use Rattle.std.specs.Prelude.{is_none}
use Rattle.execute_control.specs.ControlMeaning.{after_call, after_control, after_far_pop, after_interrupt_return, after_ip_pop}
use Rattle.execute_control.specs.ControlMeaning.{after_return}
use Rattle.execute_machine.specs.FlagState.{FlagState}
use Rattle.execute_machine.specs.Locations.{Machine, machine, operand_at, value_at, width_at, with_value_at}
use Rattle.execute_machine.specs.RegisterFile.{Registers}
use Rattle.execute_machine.specs.Registers.{with_byte_register, with_segment_register, with_word_register, word_register}
use Rattle.execute_machine.specs.Stack.{after_entry, after_entry_pushes, after_pop, after_push, after_vector}
use Rattle.execute_meaning.specs.Cpu.{CpuState}
use Rattle.execute_meaning.specs.Meaning.{after_begun, after_fetch, after_found, after_operation, after_step, after_whole}
use Rattle.execute_meaning.specs.Meaning.{is_taken, lacks_quotient, outcome_of}
use Rattle.isa.specs.Encoding.{IsInstr}
use Rattle.isa.specs.Row.{first_of, operation_of, second_of}
use Rattle.isa.specs.declared.form.Instr.{Instr}
use Rattle.isa.specs.declared.operation.Control.{Control as ControlType}
use Rattle.isa.specs.declared.operation.Control.TheVariants.{Jmp, Call, Ret, JmpFar, CallFar, Retf, Int3, Int, Into, Iret}
use Rattle.isa.specs.declared.operation.Operation.{Operation}
use Rattle.isa.specs.declared.operation.Operation.TheVariants.{Arithmetic, Shift, Product, Unary, Jump, Looping, Strings, Adjust, Transfer, Control, Processor}
use Rattle.isa.specs.declared.operation.Product.{Product as ProductType}
use Rattle.isa.specs.declared.operation.Product.TheVariants.{Mul, Imul, Div, Idiv}
use Rattle.isa.specs.declared.register.ByteRegister.{ByteRegister}
use Rattle.isa.specs.declared.register.ByteRegister.TheVariants.{Al}
use Rattle.isa.specs.declared.register.SegmentRegister.{SegmentRegister}
use Rattle.isa.specs.declared.register.SegmentRegister.TheVariants.{Es}
use Rattle.isa.specs.declared.register.WordRegister.{WordRegister}
use Rattle.isa.specs.declared.register.WordRegister.TheVariants.{Sp}
use Rattle.forms.proofs.Others.{begun_masked, bounded, count_is, keeps_to, operation_masked, popped, popped_twice, row_keeps, word_from}
use Rattle.forms.proofs.Spared.{Bounded, NumberIsWord, SparesOperand, difference_at_sp, number_location, put_spares, sp_location, sp_put, sum_at_sp}
use Rattle.forms.proofs.Spared.{sets_by}
use Rattle.forms.specs.Changed.{flags_by, segment_set_by, sp_moves}
use Rattle.forms.specs.FormLaws.{Moves, StackIsTold, goes_off}
use Rattle.forms.specs.StackMove.{first_operand, is_sp, loads_if, more_bytes, move_by, move_of, operand_move, second_operand, sum_move, writes_first}

-- an operation that isn't told to move SP leaves it

at_zero : (sp : ℕ) → sp < 65536 → sp ≡ offset_after sp 0
at_zero sp word = omega (arith, word)

unmoved : {S : Type 0} (bus : BusMeaning S) (m : Machine S) (op : Operation) (i : Instr) → Bounded m i
    → keeps_to op (first_of i.form.row) (second_of i.form.row) ≡ true → sets_by i op Sp ≡ false
    → (after_operation bus m op i).registers.sp ≡ offset_after m.registers.sp 0
unfolding word_register
unmoved bus m op i bound keeps told =
    word_from (sets_by i op) (segment_set_by i op) (flags_by op) m.registers (after_operation bus m op i).registers
    (operation_masked bus m op i bound keeps) Sp told
    ∙ at_zero m.registers.sp bound.sp

-- sums and differences

inc_word : (sp : ℕ) → (sp % 65536 + 1 + 0) % 65536 ≡ offset_after sp 1
inc_word sp = omega arith

dec_word : (sp : ℕ) → (sp % 65536 + 65536 - (1 + 0)) % 65536 ≡ offset_after sp 65535
dec_word sp = omega arith

inc_at_sp : {S : Type 0} (bus : BusMeaning S) (m : Machine S) (to : OperandLocation) → to ≡ Word Sp
    → unary_result_of Inc (width_at to) (operand_at bus m to (width_at to)) ≡ offset_after m.registers.sp 1
unfolding unary_result_of value_at word_register
inc_at_sp bus m to is = rw is (inc_word m.registers.sp)

dec_at_sp : {S : Type 0} (bus : BusMeaning S) (m : Machine S) (to : OperandLocation) → to ≡ Word Sp
    → unary_result_of Dec (width_at to) (operand_at bus m to (width_at to)) ≡ offset_after m.registers.sp 65535
unfolding unary_result_of value_at word_register
dec_at_sp bus m to is = rw is (dec_word m.registers.sp)

put_at_sp : {S : Type 0} (bus : BusMeaning S) (m : Machine S) (g : FlagState) (to : OperandLocation) (value : ℕ) → to ≡ Word Sp
    → (with_value_at bus (with_flags m g) to value).registers.sp ≡ value
put_at_sp bus m g to value is = ap (λ (r : Registers). r.sp) (sp_put bus (with_flags m g) to value is)

added : {S : Type 0} (bus : BusMeaning S) (m : Machine S) (i : Instr) (off : Bool) → is_sp (first_operand i) ≡ true
    → (operand : Operand) → second_operand i ≡ operand
    → Moves (sum_move (Arithmetic Add) operand) off m.registers.sp (after_arithmetic bus m Add i).registers.sp
unfolding after_arithmetic
added bus m i off is (operands.Number n) second =
    put_at_sp bus m _ _ _ (sp_location m.registers i (first_of i.form.row) is)
    ∙ sum_at_sp bus m _ _ n (sp_location m.registers i (first_of i.form.row) is) (number_location m.registers i (second_of i.form.row) n second)
added bus m i off is operand second = tt

subtracted : {S : Type 0} (bus : BusMeaning S) (m : Machine S) (i : Instr) (off : Bool) → is_sp (first_operand i) ≡ true
    → (operand : Operand) → second_operand i ≡ operand → NumberIsWord operand
    → Moves (sum_move (Arithmetic Sub) operand) off m.registers.sp (after_arithmetic bus m Sub i).registers.sp
unfolding after_arithmetic
subtracted bus m i off is (operands.Number n) second small =
    put_at_sp bus m _ _ _ (sp_location m.registers i (first_of i.form.row) is)
    ∙ difference_at_sp bus m _ _ n small (sp_location m.registers i (first_of i.form.row) is)
    (number_location m.registers i (second_of i.form.row) n second)
subtracted bus m i off is operand second small = tt

-- an operation that calculates, by whether its first operand is SP
by_operand : (i : Instr) (op : Operation) (off : Bool) (before after : ℕ) → writes_first op ≡ true
    → (sp_moves (operand_move i op) ≡ false → after ≡ offset_after before 0)
    → (is_sp (first_operand i) ≡ true → Moves (sum_move op (second_operand i)) off before after)
    → Moves (operand_move i op) off before after
by_operand i op off before after writes still moves =
    subst (λ b. Moves (if b then (if is_sp (first_operand i) then sum_move op (second_operand i) else By 0) else By 0) off before after) (sym writes)
    (by_sp (is_sp (first_operand i)) refl)
  where
    by_sp : (b : Bool) → is_sp (first_operand i) ≡ b → Moves (if b then sum_move op (second_operand i) else By 0) off before after
    by_sp true is = moves is
    by_sp false is =
        still
        (ap (λ b. sp_moves (if b then (if is_sp (first_operand i) then sum_move op (second_operand i) else By 0) else By 0)) writes
        ∙ ap (λ b. sp_moves (if b then sum_move op (second_operand i) else By 0)) is)

arithmetic_moves : {S : Type 0} (bus : BusMeaning S) (m : Machine S) (op : ArithmeticType) (i : Instr) (off : Bool) → Bounded m i
    → (sets_by i (Arithmetic op) Sp ≡ false → (after_arithmetic bus m op i).registers.sp ≡ offset_after m.registers.sp 0)
    → Moves (move_by i (Arithmetic op)) off m.registers.sp (after_arithmetic bus m op i).registers.sp
arithmetic_moves bus m Cmp i off bound still = still refl
arithmetic_moves bus m Test i off bound still = still refl
arithmetic_moves bus m Add i off bound still =
    by_operand i (Arithmetic Add) off _ _ refl still (λ is. added bus m i off is (second_operand i) refl)
arithmetic_moves bus m Sub i off bound still =
    by_operand i (Arithmetic Sub) off _ _ refl still (λ is. subtracted bus m i off is (second_operand i) refl bound.number)
arithmetic_moves bus m op i off bound still = by_operand i (Arithmetic op) off _ _ refl still (λ is. tt)

unary_moves : {S : Type 0} (bus : BusMeaning S) (m : Machine S) (op : UnaryType) (i : Instr) (off : Bool)
    → (sets_by i (Unary op) Sp ≡ false → (after_unary bus m op i).registers.sp ≡ offset_after m.registers.sp 0)
    → Moves (move_by i (Unary op)) off m.registers.sp (after_unary bus m op i).registers.sp
unfolding after_unary
unary_moves bus m Inc i off still =
    by_operand i (Unary Inc) off _ _ refl still
    (λ is. put_at_sp bus m _ _ _ (sp_location m.registers i (first_of i.form.row) is) ∙ inc_at_sp bus m _ (sp_location m.registers i (first_of i.form.row) is))
unary_moves bus m Dec i off still =
    by_operand i (Unary Dec) off _ _ refl still
    (λ is. put_at_sp bus m _ _ _ (sp_location m.registers i (first_of i.form.row) is) ∙ dec_at_sp bus m _ (sp_location m.registers i (first_of i.form.row) is))
unary_moves bus m op i off still = by_operand i (Unary op) off _ _ refl still (λ is. tt)

-- an entry, and a division that may enter

entry_word : (sp : ℕ) → offset_after (offset_after (offset_after sp 65534) 65534) 65534 ≡ offset_after sp 65530
entry_word sp = omega arith

entry_moves : {S : Type 0} (bus : BusMeaning S) (m : Machine S) (kind : ℕ) → (after_entry bus m kind).registers.sp ≡ offset_after m.registers.sp 65530
unfolding after_entry after_vector after_entry_pushes after_push
entry_moves bus m kind = entry_word m.registers.sp

divided_sp : (r : Registers) (width : Width) (d : Division) → (with_division r width d).sp ≡ r.sp
unfolding with_division
divided_sp r widths.Byte d = refl
divided_sp r widths.Word d = refl

division_moves : {S : Type 0} (bus : BusMeaning S) (m : Machine S) (width : Width) (d : Option Division)
    → (after_division bus m width d).registers.sp ≡ (if false || is_none d then offset_after m.registers.sp 65530 else m.registers.sp)
unfolding after_division
division_moves bus m width None = entry_moves bus m 0
division_moves bus m width (Some d) = divided_sp m.registers width d

product_moves : {S : Type 0} (bus : BusMeaning S) (m : Machine S) (op : ProductType) (i : Instr)
    → (sets_by i (Product op) Sp ≡ false → (after_product bus m op i).registers.sp ≡ offset_after m.registers.sp 0)
    → Moves (move_by i (Product op)) (goes_off (outcome_of bus m (Product op) i)) m.registers.sp (after_product bus m op i).registers.sp
unfolding after_product product.after_operation is_taken lacks_quotient has_fault has_no_quotient
product_moves bus m Mul i still = still refl
product_moves bus m Imul i still = still refl
product_moves bus m Div i still = division_moves bus m _ _
product_moves bus m Idiv i still = division_moves bus m _ _

-- data transfer

word_spares : (register : WordRegister) → is_sp (operands.Word register) ≡ false → SparesOperand (λ (r : Registers). r.sp) (operands.Word register)
unfolding with_word_register
word_spares Sp isnt_sp r value = let none : true ≡ false = isnt_sp in cc
word_spares register isnt_sp r value = refl

half_spares : (register : ByteRegister) → SparesOperand (λ (r : Registers). r.sp) (operands.Byte register)
unfolding with_byte_register
half_spares Al r value = refl
half_spares register r value = refl

segment_spares : (register : SegmentRegister) → SparesOperand (λ (r : Registers). r.sp) (operands.Segment register)
unfolding with_segment_register
segment_spares Es r value = refl
segment_spares register r value = refl

spares_sp : (operand : Operand) → is_sp operand ≡ false → SparesOperand (λ (r : Registers). r.sp) operand
spares_sp (operands.Byte register) isnt_sp = half_spares register
spares_sp (operands.Word register) isnt_sp = word_spares register isnt_sp
spares_sp (operands.Segment register) isnt_sp = segment_spares register
spares_sp operand isnt_sp = tt

by_load : (loads : Bool) (bytes : ℕ) (off : Bool) (before after : ℕ) → (loads ≡ false → after ≡ offset_after before bytes)
    → Moves (loads_if loads (By bytes)) off before after
by_load true bytes off before after still = tt
by_load false bytes off before after still = still refl

transfer_moves : {S : Type 0} (bus : BusMeaning S) (m : Machine S) (op : TransferType) (i : Instr) (off : Bool)
    → (sets_by i (Transfer op) Sp ≡ false → (after_transfer bus m op i).registers.sp ≡ offset_after m.registers.sp 0)
    → Moves (move_by i (Transfer op)) off m.registers.sp (after_transfer bus m op i).registers.sp
unfolding after_transfer after_push_operand after_push after_pop_operand after_pop after_popf
transfer_moves bus m Push i off still = refl
transfer_moves bus m Pushf i off still = refl
transfer_moves bus m Popf i off still = refl
transfer_moves bus m Pop i off still =
    by_load (is_sp (first_operand i)) 2 off _ _
    (λ isnt_sp. put_spares (λ (r : Registers). r.sp) bus _ m.registers i (first_of i.form.row) _ (spares_sp (first_operand i) isnt_sp))
transfer_moves bus m Xchg i off still =
    by_load (is_sp (first_operand i) || is_sp (second_operand i)) 0 off _ _ (λ isnt_sp. still (ap (λ b. sp_moves (loads_if b (By 0))) isnt_sp))
transfer_moves bus m Mov i off still = by_load (is_sp (first_operand i)) 0 off _ _ (λ isnt_sp. still (ap (λ b. sp_moves (loads_if b (By 0))) isnt_sp))
transfer_moves bus m Lea i off still = by_load (is_sp (first_operand i)) 0 off _ _ (λ isnt_sp. still (ap (λ b. sp_moves (loads_if b (By 0))) isnt_sp))
transfer_moves bus m Les i off still = by_load (is_sp (first_operand i)) 0 off _ _ (λ isnt_sp. still (ap (λ b. sp_moves (loads_if b (By 0))) isnt_sp))
transfer_moves bus m Lds i off still = by_load (is_sp (first_operand i)) 0 off _ _ (λ isnt_sp. still (ap (λ b. sp_moves (loads_if b (By 0))) isnt_sp))
transfer_moves bus m op i off still = still refl

-- jumps, calls, returns and interrupts

call_word : (sp : ℕ) → offset_after (offset_after sp 65534) 65534 ≡ offset_after sp 65532
call_word sp = omega arith

return_word : (sp : ℕ) → offset_after (offset_after (offset_after sp 2) 2) 2 ≡ offset_after sp 6
return_word sp = omega arith

into_moves : {S : Type 0} (bus : BusMeaning S) (m : Machine S) (taken : Bool)
    → (if taken then after_entry bus m 4 else m).registers.sp ≡ (if taken || false then offset_after m.registers.sp 65530 else m.registers.sp)
into_moves bus m true = entry_moves bus m 4
into_moves bus m false = refl

control_moves : {S : Type 0} (bus : BusMeaning S) (m : Machine S) (op : ControlType) (i : Instr)
    → keeps_to (Control op) (first_of i.form.row) (second_of i.form.row) ≡ true
    → (sets_by i (Control op) Sp ≡ false → (after_control bus m op i).registers.sp ≡ offset_after m.registers.sp 0)
    → Moves (move_by i (Control op)) (goes_off (outcome_of bus m (Control op) i)) m.registers.sp (after_control bus m op i).registers.sp
unfolding after_control after_call after_return after_interrupt_return after_far_pop after_ip_pop after_pop after_push is_taken lacks_quotient
control_moves bus m Jmp i keeps still = still refl
control_moves bus m Call i keeps still = refl
control_moves bus m Ret i keeps still =
    ap (offset_after (offset_after m.registers.sp 2)) (count_is bus _ _ i (first_of i.form.row) keeps) ∙ popped m.registers.sp 2 (more_bytes i)
control_moves bus m JmpFar i keeps still = still refl
control_moves bus m CallFar i keeps still = call_word m.registers.sp
control_moves bus m Retf i keeps still =
    ap (offset_after (offset_after (offset_after m.registers.sp 2) 2)) (count_is bus _ _ i (first_of i.form.row) keeps)
    ∙ popped_twice m.registers.sp (more_bytes i)
control_moves bus m Int3 i keeps still = entry_moves bus m 3
control_moves bus m Int i keeps still = entry_moves bus m _
control_moves bus m Into i keeps still = into_moves bus m m.registers.flags.overflow
control_moves bus m Iret i keeps still = return_word m.registers.sp

-- a step

whole_moves : {S : Type 0} (bus : BusMeaning S) (m : Machine S) (op : Operation) (i : Instr) → Bounded m i
    → keeps_to op (first_of i.form.row) (second_of i.form.row) ≡ true
    → (sets_by i op Sp ≡ false → (after_operation bus m op i).registers.sp ≡ offset_after m.registers.sp 0)
    → Moves (move_by i op) (goes_off (outcome_of bus m op i)) m.registers.sp (after_operation bus m op i).registers.sp
unfolding after_operation
whole_moves bus m (Arithmetic op) i bound keeps still = arithmetic_moves bus m op i _ bound still
whole_moves bus m (Shift op) i bound keeps still = by_operand i (Shift op) _ _ _ refl still (λ is. tt)
whole_moves bus m (Product op) i bound keeps still = product_moves bus m op i still
whole_moves bus m (Unary op) i bound keeps still = unary_moves bus m op i _ still
whole_moves bus m (Jump op) i bound keeps still = still refl
whole_moves bus m (Looping op) i bound keeps still = still refl
whole_moves bus m (Strings op) i bound keeps still = still refl
whole_moves bus m (Adjust op) i bound keeps still = still refl
whole_moves bus m (Transfer op) i bound keeps still = transfer_moves bus m op i _ still
whole_moves bus m (Control op) i bound keeps still = control_moves bus m op i keeps still
whole_moves bus m (Processor op) i bound keeps still = still refl

moved : {S : Type 0} (bus : BusMeaning S) (p : CpuState) (s : S) (op : Operation) (i : Instr) → IsInstr i
    → p.registers.sp < 65536 → keeps_to op (first_of i.form.row) (second_of i.form.row) ≡ true
    → Moves (move_by i op) (goes_off (outcome_of bus (machine p.registers s) op i)) p.registers.sp
    (after_operation bus (machine p.registers s) op i).registers.sp
moved {S} bus p s op i of_table word keeps =
    let m : Machine S = machine p.registers s in
    whole_moves bus m op i (bounded m i of_table word) keeps (unmoved bus m op i (bounded m i of_table word) keeps)

begun_moves : {S : Type 0} (bus : BusMeaning S) (table : ClockTable) (p : CpuState) (s : S) (op : Operation) (i : Instr) → IsInstr i
    → p.registers.sp < 65536 → keeps_to op (first_of i.form.row) (second_of i.form.row) ≡ true
    → Moves (move_by i op) (goes_off (outcome_in bus p s op i)) p.registers.sp (after_begun bus table p s op i).cpu.registers.sp
unfolding after_whole word_register
begun_moves bus table p s (Strings op) i of_table word keeps =
    word_from (sets_by i (Strings op)) (segment_set_by i (Strings op)) (flags_by (Strings op)) p.registers
    (after_begun bus table p s (Strings op) i).cpu.registers (begun_masked bus table p s (Strings op) i of_table word keeps) Sp refl
    ∙ at_zero p.registers.sp word
begun_moves bus table p s (Arithmetic op) i of_table word keeps = moved bus p s (Arithmetic op) i of_table word keeps
begun_moves bus table p s (Shift op) i of_table word keeps = moved bus p s (Shift op) i of_table word keeps
begun_moves bus table p s (Product op) i of_table word keeps = moved bus p s (Product op) i of_table word keeps
begun_moves bus table p s (Unary op) i of_table word keeps = moved bus p s (Unary op) i of_table word keeps
begun_moves bus table p s (Jump op) i of_table word keeps = moved bus p s (Jump op) i of_table word keeps
begun_moves bus table p s (Looping op) i of_table word keeps = moved bus p s (Looping op) i of_table word keeps
begun_moves bus table p s (Adjust op) i of_table word keeps = moved bus p s (Adjust op) i of_table word keeps
begun_moves bus table p s (Transfer op) i of_table word keeps = moved bus p s (Transfer op) i of_table word keeps
begun_moves bus table p s (Control op) i of_table word keeps = moved bus p s (Control op) i of_table word keeps
begun_moves bus table p s (Processor op) i of_table word keeps = moved bus p s (Processor op) i of_table word keeps

pub stack_is_told : {S : Type 0} (bus : BusMeaning S) → StackIsTold bus
unfolding after_step after_found move_of
stack_is_told bus table p s i size of_table word =
    begun_moves bus table (after_fetch p size) s (operation_of i.form.row) i of_table word (row_keeps i of_table)
