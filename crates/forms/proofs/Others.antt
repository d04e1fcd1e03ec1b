-- What isn't told stays: the registers with what is told taken out are the same after a step.
use Rattle.std.proofs.Common.{◌≡◌, ◌≢◌, ℕ, ◌+◌, ◌<◌, ◌%◌, ◌==◌, Bool, true, false, not, cond, nat_lt, if◌then◌else◌, refl, sym, ap, ◌∙◌, arith}
use Rattle.std.specs.List.{list_all}
use Rattle.board_types.specs.Address.{offset_after}
use Rattle.board_types.specs.declared.choice.ClockTable.{ClockTable}
use Rattle.board_types.specs.declared.regs.Flags.{Flags}
use Rattle.bus.specs.Bus.{BusMeaning}
use Rattle.digest.specs.Operands.{byte_by_place, operand_of, word_by_place}
use Rattle.execute_arith.specs.Products.{after_product}
use Rattle.execute_control.specs.ControlMeaning.{after_call, after_control, after_far_pop, after_interrupt_return, after_ip_pop, after_jump, after_looping}
use Rattle.execute_control.specs.ControlMeaning.{after_return, cx_after, holds, is_loop_taken, with_target}
use Rattle.execute_machine.specs.FlagState.{FlagState}
use Rattle.execute_machine.specs.Flags.{flag_state, flags_of}
use Rattle.execute_machine.specs.Locations.{Machine, location_of, machine, value_at}
use Rattle.execute_machine.specs.RegisterFile.{Registers}
use Rattle.execute_machine.specs.Registers.{segment_register, with_byte_register, with_segment_register, with_word_register, word_register}
use Rattle.execute_machine.specs.Stack.{after_entry, after_entry_pushes, after_pop, after_push, after_vector}
use Rattle.execute_meaning.specs.Cpu.{CpuState}
use Rattle.execute_meaning.specs.Meaning.{after_begun, after_fetch, after_found, after_iterating, after_operation, after_repeat, after_step, after_whole}
use Rattle.execute_meaning.specs.Meaning.{iteration_outcome, repeating_of, step_result, with_end, with_repeat}
use Rattle.execute_meaning.specs.declared.shadow.Shadow.TheVariants.{Nothing}
use Rattle.execute_strings.specs.StringMeaning.{after_element, after_iteration, goes_on, source_segment}
use Rattle.isa.proofs.Rows.{each}
use Rattle.isa.specs.Clocks.{is_repeated}
use Rattle.isa.specs.Encoding.{FitsField, IsInstr, sign_extended}
use Rattle.isa.specs.Layout.{field_part}
use Rattle.isa.specs.Row.{first_of, operation_of, second_of}
use Rattle.isa.specs.Table.{rows}
use Rattle.isa.specs.WordCounts.{clocks_in}
use Rattle.isa.specs.declared.form.Instr.{Instr}
use Rattle.isa.specs.declared.form.Place.{Place}
use Rattle.isa.specs.declared.form.Place.TheVariants as places
use Rattle.isa.specs.declared.layout.Field.{Field}
use Rattle.isa.specs.declared.layout.Field.TheVariants as fields
use Rattle.isa.specs.declared.operation.Control.{Control as ControlType}
use Rattle.isa.specs.declared.operation.Control.TheVariants.{Jmp, Call, Ret, JmpFar, CallFar, Retf, Int3, Int, Into, Iret}
use Rattle.isa.specs.declared.operation.Looping.{Looping as LoopingType}
use Rattle.isa.specs.declared.operation.Looping.TheVariants.{Jcxz}
use Rattle.isa.specs.declared.operation.Operation.{Operation}
use Rattle.isa.specs.declared.operation.Operation.TheVariants.{Arithmetic, Shift, Product, Unary, Jump, Looping, Strings, Adjust, Transfer, Control, Processor}
use Rattle.isa.specs.declared.operation.Product.{Product as ProductType}
use Rattle.isa.specs.declared.operation.Product.TheVariants.{Mul, Imul, Div, Idiv}
use Rattle.isa.specs.declared.operation.Strings.{Strings as StringsType}
use Rattle.isa.specs.declared.register.ByteRegister.{ByteRegister}
use Rattle.isa.specs.declared.register.ByteRegister.TheVariants.{Al}
use Rattle.isa.specs.declared.register.SegmentRegister.{SegmentRegister}
use Rattle.isa.specs.declared.register.SegmentRegister.TheVariants.{Es, Cs, Ss, Ds}
use Rattle.isa.specs.declared.register.WordRegister.{WordRegister}
use Rattle.isa.specs.declared.register.WordRegister.TheVariants.{Ax, Cx, Dx, Bx, Sp, Bp, Si, Di}
use Rattle.isa.specs.declared.row.Kind.{Kind}
use Rattle.isa.specs.declared.row.Kind.TheVariants as kinds
use Rattle.isa.specs.declared.row.Row.{Row}
use Rattle.forms.proofs.Spared.{Bounded, NumberIsWord, SparesTold, adjust_spares, arithmetic_spares, as_set, element_spares, is_plain, isnt}
use Rattle.forms.proofs.Spared.{product_spares, sets_by, shift_spares, single_spares, transfer_spares, unary_spares}
use Rattle.forms.specs.Changed.{alters_of, flags_by, segment_set_by, sets_segment, word_of}
use Rattle.forms.specs.FormLaws.{OthersAre, OthersStay, untold_flags}
use Rattle.forms.specs.StackMove.{bytes_in, more_bytes}

-- the registers without what is told, and without CS and IP
abbrev pub masked : (WordRegister → Bool) → (SegmentRegister → Bool) → Flags → Registers → Registers
masked words segments flags r = record {
  ax = cond (words Ax) 0 r.ax;
  cx = cond (words Cx) 0 r.cx;
  dx = cond (words Dx) 0 r.dx;
  bx = cond (words Bx) 0 r.bx;
  sp = cond (words Sp) 0 r.sp;
  bp = cond (words Bp) 0 r.bp;
  si = cond (words Si) 0 r.si;
  di = cond (words Di) 0 r.di;
  es = cond (segments Es) 0 r.es;
  cs = 0;
  ss = cond (segments Ss) 0 r.ss;
  ds = cond (segments Ds) 0 r.ds;
  ip = 0;
  flags = flag_state (untold_flags flags r.flags);
}

word_masked : (words : WordRegister → Bool) (segments : SegmentRegister → Bool) (flags : Flags) (register : WordRegister) → words register ≡ true
    → (r : Registers) (value : ℕ) → masked words segments flags (with_word_register r register value) ≡ masked words segments flags r
unfolding with_word_register
word_masked words segments flags Ax told r value = rw told refl
word_masked words segments flags register told r value = rw told refl

half_masked : (words : WordRegister → Bool) (segments : SegmentRegister → Bool) (flags : Flags) (register : ByteRegister) → words (word_of register) ≡ true
    → (r : Registers) (value : ℕ) → masked words segments flags (with_byte_register r register value) ≡ masked words segments flags r
unfolding with_byte_register
half_masked words segments flags Al told r value = rw told refl
half_masked words segments flags register told r value = rw told refl

segment_masked : (words : WordRegister → Bool) (segments : SegmentRegister → Bool) (flags : Flags) (register : SegmentRegister) → segments register ≡ true
    → (r : Registers) (value : ℕ) → masked words segments flags (with_segment_register r register value) ≡ masked words segments flags r
unfolding with_segment_register
segment_masked words segments flags Cs told r value = refl
segment_masked words segments flags register told r value = rw told refl

abbrev pub view : Instr → Operation → Registers → Registers
view i op r = masked (sets_by i op) (segment_set_by i op) (flags_by op) r

spares : (i : Instr) (op : Operation) → SparesTold (view i op) i op
spares i op = record {
  word = word_masked (sets_by i op) (segment_set_by i op) (flags_by op);
  half = half_masked (sets_by i op) (segment_set_by i op) (flags_by op);
  segment = segment_masked (sets_by i op) (segment_set_by i op) (flags_by op);
  flags = λ r g same. ap (λ x. record (view i op r) { flags = flag_state x }) same;
}

entry_masked : {S : Type 0} (bus : BusMeaning S) (m : Machine S) (kind : ℕ) (i : Instr) (op : Operation) → sets_by i op Sp ≡ true
    → ((f : FlagState) → untold_flags (flags_by op) (record f { interrupt_enable = false; trap = false }) ≡ untold_flags (flags_by op) f)
    → view i op (after_entry bus m kind).registers ≡ view i op m.registers
unfolding after_entry after_vector after_entry_pushes after_push with_word_register
entry_masked bus m kind i op told cleared =
    (spares i op).word Sp told (record m.registers { flags = record m.registers.flags { interrupt_enable = false; trap = false } }) _
    ∙ (spares i op).flags m.registers (record m.registers.flags { interrupt_enable = false; trap = false }) (cleared m.registers.flags)

-- products and quotients

product_masked : {S : Type 0} (bus : BusMeaning S) (m : Machine S) (op : ProductType) (i : Instr)
    → view i (Product op) (after_product bus m op i).registers ≡ view i (Product op) m.registers
product_masked bus m Mul i = product_spares (view i (Product Mul)) bus m Mul i (spares i (Product Mul)) (λ is. let none : false ≡ true = is in cc)
product_masked bus m Imul i = product_spares (view i (Product Imul)) bus m Imul i (spares i (Product Imul)) (λ is. let none : false ≡ true = is in cc)
product_masked bus m Div i =
    product_spares (view i (Product Div)) bus m Div i (spares i (Product Div)) (λ _. entry_masked bus m 0 i (Product Div) refl (λ f. refl))
product_masked bus m Idiv i =
    product_spares (view i (Product Idiv)) bus m Idiv i (spares i (Product Idiv)) (λ _. entry_masked bus m 0 i (Product Idiv) refl (λ f. refl))

-- jumps, calls, returns and interrupts

target_masked : (i : Instr) (op : Operation) (r : Registers) (taken : Bool) (target : ℕ) → view i op (with_target r taken target) ≡ view i op r
target_masked i op r true target = refl
target_masked i op r false target = refl

looping_masked : (r : Registers) (op : LoopingType) (i : Instr) → view i (Looping op) (after_looping r op i) ≡ view i (Looping op) r
unfolding after_looping with_word_register
looping_masked r Jcxz i = target_masked i (Looping Jcxz) r (is_loop_taken r Jcxz) _
looping_masked r op i =
    target_masked i (Looping op) (record r { cx = cx_after r op }) (is_loop_taken r op) _ ∙ (spares i (Looping op)).word Cx refl r (cx_after r op)

-- a return takes 2 or 4 bytes and its operand's off the stack
abbrev pub is_count : Kind → Bool
is_count kinds.Nothing = true
is_count kinds.Imm16 = true
is_count kind = false

pub count_is : {S : Type 0} (bus : BusMeaning S) (m : Machine S) (r : Registers) (i : Instr) (kind : Kind) → is_count kind ≡ true
    → value_at bus m (location_of r i kind) ≡ bytes_in (operand_of i kind)
unfolding location_of value_at
count_is bus m r i kinds.Nothing is = refl
count_is bus m r i kinds.Imm16 is = refl
count_is bus m r i kind is = let none : false ≡ true = is in cc

pub popped : (sp first more : ℕ) → offset_after (offset_after sp first) more ≡ offset_after sp (offset_after more first)
popped sp first more = omega arith

pub popped_twice : (sp more : ℕ) → offset_after (offset_after (offset_after sp 2) 2) more ≡ offset_after sp (offset_after more 4)
popped_twice sp more = omega arith

pub stays_at : (sp bytes : ℕ) → sp < 65536 → not (bytes == 0) ≡ false → offset_after sp bytes ≡ sp
stays_at sp bytes word is = let zero : bytes ≡ 0 = grind (arith) in omega (arith, word, zero)

-- SP moved by what is told
sp_masked : (i : Instr) (op : Operation) (r : Registers) (bytes : ℕ) → r.sp < 65536 → sets_by i op Sp ≡ not (bytes == 0)
    → view i op (record r { sp = offset_after r.sp bytes }) ≡ view i op r
unfolding with_word_register
sp_masked i op r bytes word told = by_move (not (bytes == 0)) refl
  where
    by_move : (b : Bool) → not (bytes == 0) ≡ b → view i op (record r { sp = offset_after r.sp bytes }) ≡ view i op r
    by_move true moves = (spares i op).word Sp (told ∙ moves) r (offset_after r.sp bytes)
    by_move false still = ap (λ sp. view i op (record r { sp = sp })) (stays_at r.sp bytes word still)

abbrev pub is_returning : ControlType → Kind → Bool
is_returning Ret kind = is_count kind
is_returning Retf kind = is_count kind
is_returning op kind = true

into_masked : {S : Type 0} (bus : BusMeaning S) (m : Machine S) (i : Instr) (taken : Bool)
    → view i (Control Into) (if taken then after_entry bus m 4 else m).registers ≡ view i (Control Into) m.registers
into_masked bus m i true = entry_masked bus m 4 i (Control Into) refl (λ f. refl)
into_masked bus m i false = refl

control_masked : {S : Type 0} (bus : BusMeaning S) (m : Machine S) (op : ControlType) (i : Instr) → m.registers.sp < 65536
    → is_returning op (first_of i.form.row) ≡ true → view i (Control op) (after_control bus m op i).registers ≡ view i (Control op) m.registers
unfolding after_control after_call after_return after_interrupt_return after_far_pop after_ip_pop after_pop after_push with_word_register
control_masked bus m Jmp i word returning = refl
control_masked bus m Call i word returning = refl
control_masked bus m Ret i word returning =
    ap (λ sp. view i (Control Ret) (record m.registers { sp = sp }))
    (ap (offset_after (offset_after m.registers.sp 2)) (count_is bus _ _ i (first_of i.form.row) returning) ∙ popped m.registers.sp 2 (more_bytes i))
    ∙ sp_masked i (Control Ret) m.registers (offset_after (more_bytes i) 2) word refl
control_masked bus m JmpFar i word returning = refl
control_masked bus m CallFar i word returning = refl
control_masked bus m Retf i word returning =
    ap (λ sp. view i (Control Retf) (record m.registers { sp = sp }))
    (ap (offset_after (offset_after (offset_after m.registers.sp 2) 2)) (count_is bus _ _ i (first_of i.form.row) returning)
    ∙ popped_twice m.registers.sp (more_bytes i))
    ∙ sp_masked i (Control Retf) m.registers (offset_after (more_bytes i) 4) word refl
control_masked bus m Int3 i word returning = entry_masked bus m 3 i (Control Int3) refl (λ f. refl)
control_masked bus m Int i word returning = entry_masked bus m _ i (Control Int) refl (λ f. refl)
control_masked bus m Into i word returning = into_masked bus m i m.registers.flags.overflow
control_masked bus m Iret i word returning = refl

-- what the table keeps to

abbrev pub keeps_to : Operation → Kind → Kind → Bool
keeps_to (Control op) first second = is_returning op first
keeps_to op first second = is_plain op first second

pub all_keep : list_all (λ (row : Row). keeps_to row.operation row.first row.second) rows ≡ true
unfolding rows
all_keep = refl

pub row_keeps : (i : Instr) → IsInstr i → keeps_to (operation_of i.form.row) (first_of i.form.row) (second_of i.form.row) ≡ true
row_keeps i of_table = each (λ (row : Row). keeps_to row.operation row.first row.second) rows i.form.row all_keep of_table.form.row

field_number : (field : Field) (number segment : ℕ) → FitsField field number segment → number < 65536
field_number fields.Absent number segment fits = omega (arith, fits.0)
field_number fields.Byte number segment fits = omega (arith, fits.0)
field_number fields.Word number segment fits = fits.0
field_number fields.Far number segment fits = fits.0

extended : (byte : ℕ) → byte < 65536 → sign_extended byte < 65536
extended byte small = by_sign (nat_lt byte 128)
  where
    by_sign : (positive : Bool) → (if positive then byte else (byte + 0xFF00) % 65536) < 65536
    by_sign true = small
    by_sign false = omega arith

byte_number : (place : Place) → NumberIsWord (byte_by_place place)
byte_number (places.Register number) = tt
byte_number place = tt

word_number : (place : Place) → NumberIsWord (word_by_place place)
word_number (places.Register number) = tt
word_number place = tt

operand_number : (i : Instr) → i.values.number < 65536 → (kind : Kind) → NumberIsWord (operand_of i kind)
operand_number i small kinds.Rm8 = byte_number i.form.place
operand_number i small kinds.Rm16 = word_number i.form.place
operand_number i small kinds.Memory = word_number i.form.place
operand_number i small kinds.One = omega arith
operand_number i small kinds.Ten = omega arith
operand_number i small kinds.Imm8 = small
operand_number i small kinds.Imm16 = small
operand_number i small kinds.Rel16 = small
operand_number i small kinds.Far = small
operand_number i small kinds.Signed8 = extended i.values.number small
operand_number i small kinds.Rel8 = extended i.values.number small
operand_number i small kind = tt

pub bounded : {S : Type 0} (m : Machine S) (i : Instr) → IsInstr i → m.registers.sp < 65536 → Bounded m i
bounded m i of_table word = record {
  sp = word;
  number =
      operand_number i (field_number (field_part i.form.row) i.values.number i.values.segment of_table.values.number) (second_of i.form.row);
}

-- a whole instruction, and an iteration of a repeat

pub operation_masked : {S : Type 0} (bus : BusMeaning S) (m : Machine S) (op : Operation) (i : Instr) → Bounded m i
    → keeps_to op (first_of i.form.row) (second_of i.form.row) ≡ true
    → view i op (after_operation bus m op i).registers ≡ view i op m.registers
unfolding after_operation after_jump
operation_masked bus m (Arithmetic op) i bound keeps =
    arithmetic_spares (view i (Arithmetic op)) bus m op i (spares i (Arithmetic op)) bound (isnt _ keeps)
operation_masked bus m (Shift op) i bound keeps = shift_spares (view i (Shift op)) bus m op i (spares i (Shift op)) (isnt _ keeps)
operation_masked bus m (Product op) i bound keeps = product_masked bus m op i
operation_masked bus m (Unary op) i bound keeps = unary_spares (view i (Unary op)) bus m op i (spares i (Unary op)) (isnt _ keeps)
operation_masked bus m (Jump op) i bound keeps = target_masked i (Jump op) m.registers (holds op m.registers.flags) _
operation_masked bus m (Looping op) i bound keeps = looping_masked m.registers op i
operation_masked bus m (Strings op) i bound keeps =
    element_spares (view i (Strings op)) bus m op (source_segment i) i (spares i (Strings op))
operation_masked bus m (Adjust op) i bound keeps = adjust_spares (view i (Adjust op)) m.registers op i (spares i (Adjust op))
operation_masked bus m (Transfer op) i bound keeps = transfer_spares (view i (Transfer op)) bus m op i (spares i (Transfer op)) keeps
operation_masked bus m (Control op) i bound keeps = control_masked bus m op i bound.sp keeps
operation_masked bus m (Processor op) i bound keeps = single_spares (view i (Processor op)) m.registers op i (spares i (Processor op))

iteration_masked : {S : Type 0} (bus : BusMeaning S) (m : Machine S) (op : StringsType) (i : Instr) → is_repeated i ≡ true
    → view i (Strings op) (after_iteration bus m op (source_segment i)).registers ≡ view i (Strings op) m.registers
unfolding after_iteration with_word_register
iteration_masked bus m op i repeated =
    (spares i (Strings op)).word Cx repeated (after_element bus m op (source_segment i)).registers
    (offset_after (after_element bus m op (source_segment i)).registers.cx 65535)
    ∙ element_spares (view i (Strings op)) bus m op (source_segment i) i (spares i (Strings op))

iterating_masked : {S : Type 0} (bus : BusMeaning S) (table : ClockTable) (p : CpuState) (s : S) (op : StringsType) (i : Instr) (clocks : ℕ)
    → is_repeated i ≡ true → view i (Strings op) (after_iterating bus p s (repeating_of table op i) clocks).cpu.registers ≡ view i (Strings op) p.registers
unfolding after_iterating
iterating_masked {S} bus table p s op i clocks repeated =
    by_more (goes_on done op (repeating_of table op i).repeat) ∙ iteration_masked bus (machine p.registers s) op i repeated
  where
    done : Registers
    done = (after_iteration bus (machine p.registers s) op (source_segment i)).registers

    by_more : (more : Bool)
        → view i (Strings op)
        (if more then with_repeat p (after_iteration bus (machine p.registers s) op (source_segment i)).registers (repeating_of table op i)
        else with_end p (after_iteration bus (machine p.registers s) op (source_segment i)).registers p.state Nothing).registers
        ≡ view i (Strings op) (after_iteration bus (machine p.registers s) op (source_segment i)).registers
    by_more true = refl
    by_more false = refl

pub whole_masked : {S : Type 0} (bus : BusMeaning S) (table : ClockTable) (p : CpuState) (s : S) (op : Operation) (i : Instr)
    → IsInstr i → p.registers.sp < 65536 → keeps_to op (first_of i.form.row) (second_of i.form.row) ≡ true
    → view i op (after_whole bus table p s op i).cpu.registers ≡ view i op p.registers
unfolding after_whole
whole_masked bus table p s op i of_table word keeps =
    operation_masked bus (machine p.registers s) op i (bounded (machine p.registers s) i of_table word) keeps

pub begun_masked : {S : Type 0} (bus : BusMeaning S) (table : ClockTable) (p : CpuState) (s : S) (op : Operation) (i : Instr)
    → IsInstr i → p.registers.sp < 65536 → keeps_to op (first_of i.form.row) (second_of i.form.row) ≡ true
    → view i op (after_begun bus table p s op i).cpu.registers ≡ view i op p.registers
unfolding after_repeat
begun_masked {S} bus table p s (Strings op) i of_table word keeps = by_repeat (is_repeated i) refl
  where
    by_empty : (empty : Bool) → is_repeated i ≡ true
        → view i (Strings op)
        (if empty then step_result (with_end p p.registers p.state Nothing) s (clocks_in table i (iteration_outcome true true))
        else after_iterating bus p s (repeating_of table op i) (clocks_in table i (iteration_outcome true false))).cpu.registers
        ≡ view i (Strings op) p.registers
    by_empty true repeated = refl
    by_empty false repeated = iterating_masked bus table p s op i _ repeated

    by_repeat : (repeated : Bool) → is_repeated i ≡ repeated
        → view i (Strings op) (if repeated then after_repeat bus table p s op i else after_whole bus table p s (Strings op) i).cpu.registers
        ≡ view i (Strings op) p.registers
    by_repeat true is = by_empty (p.registers.cx == 0) is
    by_repeat false is = whole_masked bus table p s (Strings op) i of_table word keeps
begun_masked bus table p s (Arithmetic op) i of_table word keeps = whole_masked bus table p s (Arithmetic op) i of_table word keeps
begun_masked bus table p s (Shift op) i of_table word keeps = whole_masked bus table p s (Shift op) i of_table word keeps
begun_masked bus table p s (Product op) i of_table word keeps = whole_masked bus table p s (Product op) i of_table word keeps
begun_masked bus table p s (Unary op) i of_table word keeps = whole_masked bus table p s (Unary op) i of_table word keeps
begun_masked bus table p s (Jump op) i of_table word keeps = whole_masked bus table p s (Jump op) i of_table word keeps
begun_masked bus table p s (Looping op) i of_table word keeps = whole_masked bus table p s (Looping op) i of_table word keeps
begun_masked bus table p s (Adjust op) i of_table word keeps = whole_masked bus table p s (Adjust op) i of_table word keeps
begun_masked bus table p s (Transfer op) i of_table word keeps = whole_masked bus table p s (Transfer op) i of_table word keeps
begun_masked bus table p s (Control op) i of_table word keeps = whole_masked bus table p s (Control op) i of_table word keeps
begun_masked bus table p s (Processor op) i of_table word keeps = whole_masked bus table p s (Processor op) i of_table word keeps

-- from what is masked to each register

pub word_from : (words : WordRegister → Bool) (segments : SegmentRegister → Bool) (flags : Flags) (r q : Registers)
    → masked words segments flags q ≡ masked words segments flags r
    → (register : WordRegister) → words register ≡ false → word_register q register ≡ word_register r register
unfolding word_register
word_from words segments flags r q same Ax told = sym (ap (λ b. cond b 0 q.ax) told) ∙ ap (λ (x : Registers). x.ax) same ∙ ap (λ b. cond b 0 r.ax) told
word_from words segments flags r q same Cx told = sym (ap (λ b. cond b 0 q.cx) told) ∙ ap (λ (x : Registers). x.cx) same ∙ ap (λ b. cond b 0 r.cx) told
word_from words segments flags r q same Dx told = sym (ap (λ b. cond b 0 q.dx) told) ∙ ap (λ (x : Registers). x.dx) same ∙ ap (λ b. cond b 0 r.dx) told
word_from words segments flags r q same Bx told = sym (ap (λ b. cond b 0 q.bx) told) ∙ ap (λ (x : Registers). x.bx) same ∙ ap (λ b. cond b 0 r.bx) told
word_from words segments flags r q same Sp told = sym (ap (λ b. cond b 0 q.sp) told) ∙ ap (λ (x : Registers). x.sp) same ∙ ap (λ b. cond b 0 r.sp) told
word_from words segments flags r q same Bp told = sym (ap (λ b. cond b 0 q.bp) told) ∙ ap (λ (x : Registers). x.bp) same ∙ ap (λ b. cond b 0 r.bp) told
word_from words segments flags r q same Si told = sym (ap (λ b. cond b 0 q.si) told) ∙ ap (λ (x : Registers). x.si) same ∙ ap (λ b. cond b 0 r.si) told
word_from words segments flags r q same Di told = sym (ap (λ b. cond b 0 q.di) told) ∙ ap (λ (x : Registers). x.di) same ∙ ap (λ b. cond b 0 r.di) told

segment_from : (words : WordRegister → Bool) (segments : SegmentRegister → Bool) (flags : Flags) (r q : Registers)
    → masked words segments flags q ≡ masked words segments flags r
    → (register : SegmentRegister) → register ≢ Cs → segments register ≡ false → segment_register q register ≡ segment_register r register
unfolding segment_register
segment_from words segments flags r q same Es other told =
    sym (ap (λ b. cond b 0 q.es) told) ∙ ap (λ (x : Registers). x.es) same ∙ ap (λ b. cond b 0 r.es) told
segment_from words segments flags r q same Cs other told = absurd (other refl)
segment_from words segments flags r q same Ss other told =
    sym (ap (λ b. cond b 0 q.ss) told) ∙ ap (λ (x : Registers). x.ss) same ∙ ap (λ b. cond b 0 r.ss) told
segment_from words segments flags r q same Ds other told =
    sym (ap (λ b. cond b 0 q.ds) told) ∙ ap (λ (x : Registers). x.ds) same ∙ ap (λ b. cond b 0 r.ds) told

others_are : (i : Instr) (r q : Registers) → view i (operation_of i.form.row) q ≡ view i (operation_of i.form.row) r → OthersAre i r q
unfolding sets_segment alters_of
others_are i r q same =
    let op : Operation = operation_of i.form.row in
    record {
      words = λ register told. word_from (sets_by i op) (segment_set_by i op) (flags_by op) r q same register (sym (as_set i register) ∙ told);
      segments = λ register other told. segment_from (sets_by i op) (segment_set_by i op) (flags_by op) r q same register other told;
      flags = ap (λ (x : Registers). flags_of x.flags) same;
    }

pub others_stay : {S : Type 0} (bus : BusMeaning S) → OthersStay bus
unfolding after_step after_found
others_stay bus table p s i size of_table word =
    others_are i p.registers _ (begun_masked bus table (after_fetch p size) s (operation_of i.form.row) i of_table word (row_keeps i of_table))
