-- What an operation does to the registers, looked at in any way that spares what the instruction is told to change.
use Rattle.std.proofs.Common.{◌≡◌, ℕ, ◌+◌, ◌-◌, ◌*◌, ◌/◌, ◌<◌, ◌%◌, ◌==◌, Bool, true, false, not, ◌&&◌, ◌||◌, nat_lt, if◌then◌else◌, refl, sym, ap, ◌∙◌, subst}
use Rattle.std.proofs.Common.{arith, Option, Some, None}
use Rattle.board_types.specs.Address.{offset_after}
use Rattle.bus.specs.Bus.{BusMeaning}
use Rattle.digest.specs.Operands.{byte_by_place, operand_of, word_by_place}
use Rattle.digest.specs.declared.operand.Operand.{Operand}
use Rattle.digest.specs.declared.operand.Operand.TheVariants as operands
use Rattle.execute_arith.specs.ArithmeticMeaning.{adjusts_low, after_adjust, after_arithmetic, after_unary, al_of, result_of, with_flags, with_flags_of}
use Rattle.execute_arith.specs.ArithmeticMeaning.{with_unary_flags_of, with_unpacked}
use Rattle.execute_arith.specs.Products.{after_division, after_product, with_division, with_product}
use Rattle.execute_arith.specs.Products as product
use Rattle.execute_arith.specs.Shifts.{after_shift, with_shifted, with_told}
use Rattle.execute_arith.specs.declared.numbers.Division.{Division}
use Rattle.execute_arith.specs.declared.numbers.FullProduct.{FullProduct}
use Rattle.execute_arith.specs.declared.single.Shifted.{Shifted}
use Rattle.execute_control.specs.ControlMeaning.{after_flag_operation}
use Rattle.execute_machine.proofs.Locations.{located}
use Rattle.execute_machine.specs.FlagState.{FlagState}
use Rattle.execute_machine.specs.Locations.{Machine, location_of, operand_at, value_at, width_at, with_value_at}
use Rattle.execute_machine.specs.LocationsBy.{location_by}
use Rattle.execute_machine.specs.RegisterFile.{Registers}
use Rattle.execute_machine.specs.Registers.{with_byte_register, with_segment_register, with_word_register, word_register}
use Rattle.execute_machine.specs.Flags.{forgetting}
use Rattle.execute_machine.specs.Stack.{after_entry, after_pop, after_push}
use Rattle.execute_strings.specs.StringMeaning.{after_cmps, after_element, after_lods, after_movs, after_scas, after_stos, element_at}
use Rattle.execute_transfer.specs.TransferMeaning.{after_byte_input, after_in, after_lea, after_mov, after_out, after_pointer_load, after_pop_operand}
use Rattle.execute_transfer.specs.TransferMeaning.{after_popf, after_push_operand, after_transfer, after_word_input, after_xchg, after_xlat, is_ax, port_of}
use Rattle.execute_machine.specs.Sums.{with_difference, with_logic, with_sum}
use Rattle.execute_machine.specs.declared.location.OperandLocation.{OperandLocation}
use Rattle.execute_machine.specs.declared.location.OperandLocation.TheVariants.{Nothing, Byte, Word, Segment, ByteAt, WordAt, Number}
use Rattle.execute_machine.specs.declared.width.Width.{Width}
use Rattle.execute_machine.specs.declared.width.Width.TheVariants as widths
use Rattle.isa.specs.Row.{first_of, operation_of, second_of}
use Rattle.isa.specs.declared.form.Instr.{Instr}
use Rattle.isa.specs.declared.form.Place.{Place}
use Rattle.isa.specs.declared.form.Place.TheVariants as places
use Rattle.isa.specs.declared.operation.Adjust.{Adjust as AdjustType}
use Rattle.isa.specs.declared.operation.Adjust.TheVariants.{Daa, Das, Aaa, Aas, Aam, Aad, Cbw, Cwd}
use Rattle.isa.specs.declared.operation.Arithmetic.{Arithmetic as ArithmeticType}
use Rattle.isa.specs.declared.operation.Arithmetic.TheVariants.{Add, Sub, Cmp, Test}
use Rattle.isa.specs.declared.operation.Operation.{Operation}
use Rattle.isa.specs.declared.operation.Operation.TheVariants.{Arithmetic, Shift, Product, Unary, Strings, Adjust, Transfer, Processor}
use Rattle.isa.specs.declared.operation.Processor.{Processor as ProcessorType}
use Rattle.isa.specs.declared.operation.Processor.TheVariants.{Cmc}
use Rattle.isa.specs.declared.operation.Product.{Product as ProductType}
use Rattle.isa.specs.declared.operation.Product.TheVariants.{Mul, Imul, Div, Idiv}
use Rattle.isa.specs.declared.operation.Shift.{Shift as ShiftType}
use Rattle.isa.specs.declared.operation.Shift.TheVariants.{Shl}
use Rattle.isa.specs.declared.operation.Strings.{Strings as StringsType}
use Rattle.isa.specs.declared.operation.Strings.TheVariants.{Movsb, Movsw, Cmpsb, Cmpsw, Stosb, Stosw, Lodsb, Lodsw, Scasb, Scasw}
use Rattle.isa.specs.declared.operation.Transfer.{Transfer as TransferType}
use Rattle.isa.specs.declared.operation.Transfer.TheVariants.{Mov, Xchg, Lea, Les, Lds, Push, Pop, Pushf, Popf, Sahf, Lahf, Xlat, In, Out}
use Rattle.isa.specs.declared.operation.Unary.{Unary as UnaryType}
use Rattle.isa.specs.declared.operation.Unary.TheVariants.{Inc}
use Rattle.isa.specs.declared.register.ByteRegister.{ByteRegister}
use Rattle.isa.specs.declared.register.ByteRegister.TheVariants.{Al, Ah}
use Rattle.execute_meaning.specs.Meaning.{is_segment}
use Rattle.isa.specs.declared.register.SegmentRegister.{SegmentRegister}
use Rattle.isa.specs.declared.register.SegmentRegister.TheVariants.{Es, Ds}
use Rattle.isa.specs.declared.register.WordRegister.{WordRegister}
use Rattle.isa.specs.declared.register.WordRegister.TheVariants.{Ax, Dx, Sp, Si, Di}
use Rattle.isa.specs.declared.row.Kind.{Kind}
use Rattle.isa.specs.declared.row.Kind.TheVariants as kinds
use Rattle.forms.specs.Changed.{adjust_sets, adjusted_flags, no_flags, transfer_sets, flags_by, is_same_word, is_word, operand_sets, operand_sets_segment}
use Rattle.forms.specs.Changed.{processor_flags, product_flags, product_sets, segment_set_by, sets_word, shifted_flags, sp_moves}
use Rattle.forms.specs.Changed.{status_flags, unary_flags, word_of, word_set_by}
use Rattle.forms.specs.FormLaws.{untold_flags}
use Rattle.forms.specs.Reached.{divides}
use Rattle.forms.specs.StackMove.{first_operand, is_sp, loads_if, move_by, transfer_move, move_of, operand_move, second_operand, sum_move, writes_first}
use Rattle.forms.specs.declared.stack.StackMove.TheVariants.{By}

-- a part of the registers that a write to a place leaves
abbrev pub Spares : {A : Type 0} → (Registers → A) → OperandLocation → Type 0
Spares f (Byte register) = (r : Registers) (value : ℕ) → f (with_byte_register r register value) ≡ f r
Spares f (Word register) = (r : Registers) (value : ℕ) → f (with_word_register r register value) ≡ f r
Spares f (Segment register) = (r : Registers) (value : ℕ) → f (with_segment_register r register value) ≡ f r
Spares f place = Unit {0}

pub value_spares : {A S : Type 0} (f : Registers → A) (bus : BusMeaning S) (m : Machine S) (place : OperandLocation) (value : ℕ)
    → Spares f place → f (with_value_at bus m place value).registers ≡ f m.registers
unfolding with_value_at
value_spares f bus m Nothing value spares = refl
value_spares f bus m (Byte register) value spares = spares m.registers (value % 256)
value_spares f bus m (Word register) value spares = spares m.registers value
value_spares f bus m (Segment register) value spares = spares m.registers value
value_spares f bus m (ByteAt segment offset) value spares = refl
value_spares f bus m (WordAt segment offset) value spares = refl
value_spares f bus m (Number number) value spares = refl

-- and one that a write to an operand leaves
abbrev pub SparesOperand : {A : Type 0} → (Registers → A) → Operand → Type 0
SparesOperand f (operands.Byte register) = (r : Registers) (value : ℕ) → f (with_byte_register r register value) ≡ f r
SparesOperand f (operands.Word register) = (r : Registers) (value : ℕ) → f (with_word_register r register value) ≡ f r
SparesOperand f (operands.Segment register) = (r : Registers) (value : ℕ) → f (with_segment_register r register value) ≡ f r
SparesOperand f operand = Unit {0}

located_spares : {A : Type 0} (f : Registers → A) (r : Registers) (i : Instr) (operand : Operand)
    → SparesOperand f operand → Spares f (location_by r i operand)
located_spares f r i (operands.Byte register) spares = spares
located_spares f r i (operands.Word register) spares = spares
located_spares f r i (operands.Segment register) spares = spares
located_spares f r i operand spares = tt

pub put_spares : {A S : Type 0} (f : Registers → A) (bus : BusMeaning S) (m : Machine S) (r : Registers) (i : Instr) (kind : Kind) (value : ℕ)
    → SparesOperand f (operand_of i kind) → f (with_value_at bus m (location_of r i kind) value).registers ≡ f m.registers
put_spares f bus m r i kind value spares =
    value_spares f bus m (location_of r i kind) value
    (subst (Spares f) (located r i kind) (located_spares f r i (operand_of i kind) spares))

-- what is told: the word registers, of SP by its move, the segment registers and the flags

abbrev if_sp : WordRegister → Bool → Bool → Bool
if_sp Sp moves sets = moves
if_sp register moves sets = sets

abbrev pub sets_by : Instr → Operation → WordRegister → Bool
sets_by i op register = if_sp register (sp_moves (move_by i op)) (word_set_by i op register)

pub as_set : (i : Instr) (register : WordRegister) → sets_word i register ≡ sets_by i (operation_of i.form.row) register
unfolding sets_word move_of
as_set i Sp = refl
as_set i register = refl

-- a part of the registers that what is told leaves
pub record SparesTold {A : Type 0} (f : Registers → A) (i : Instr) (op : Operation) : Type 0 where
  pub word : (register : WordRegister) → sets_by i op register ≡ true
      → (r : Registers) (value : ℕ) → f (with_word_register r register value) ≡ f r
  pub half : (register : ByteRegister) → sets_by i op (word_of register) ≡ true
      → (r : Registers) (value : ℕ) → f (with_byte_register r register value) ≡ f r
  pub segment : (register : SegmentRegister) → segment_set_by i op register ≡ true
      → (r : Registers) (value : ℕ) → f (with_segment_register r register value) ≡ f r
  pub flags : (r : Registers) (g : FlagState) → untold_flags (flags_by op) g ≡ untold_flags (flags_by op) r.flags
      → f (record r { flags = g }) ≡ f r

-- an operand that is told is spared

same_word : (register : WordRegister) → is_same_word register register ≡ true
same_word Ax = refl
same_word register = refl

same_segment : (register : SegmentRegister) → operand_sets_segment (operands.Segment register) register ≡ true
same_segment Es = refl
same_segment register = refl

operand_spared : {A : Type 0} (f : Registers → A) (i : Instr) (op : Operation) → SparesTold f i op → (operand : Operand)
    → ((register : WordRegister) → operand_sets operand register ≡ true → sets_by i op register ≡ true)
    → ((register : SegmentRegister) → operand_sets_segment operand register ≡ true → segment_set_by i op register ≡ true)
    → SparesOperand f operand
operand_spared f i op spares (operands.Byte register) words segments =
    spares.half register (words (word_of register) (same_word (word_of register)))
operand_spared f i op spares (operands.Word register) words segments =
    spares.word register (words register (same_word register))
operand_spared f i op spares (operands.Segment register) words segments =
    spares.segment register (segments register (same_segment register))
operand_spared f i op spares operand words segments = tt

sp_to : (register : WordRegister) → is_same_word register Sp ≡ true → is_sp (operands.Word register) ≡ true
sp_to Sp is = refl
sp_to register is = let never : false ≡ true = is in cc

sp_of : (register : ByteRegister) → is_same_word (word_of register) Sp ≡ true → is_sp (operands.Byte register) ≡ true
sp_of Al is = let never : false ≡ true = is in cc
sp_of register is = let never : false ≡ true = is in cc

pub set_sp : (operand : Operand) → operand_sets operand Sp ≡ true → is_sp operand ≡ true
set_sp (operands.Word register) is = sp_to register is
set_sp (operands.Byte register) is = sp_of register is
set_sp operand is = let never : false ≡ true = is in cc

pub never : {P : Type 0} (b : Bool) → b ≡ false → b ≡ true → P
never b isnt is = absurd (cc)

-- operands that aren't segment registers

byte_no_segment : (place : Place) (register : SegmentRegister) → operand_sets_segment (byte_by_place place) register ≡ false
byte_no_segment (places.Register number) register = refl
byte_no_segment place register = refl

word_no_segment : (place : Place) (register : SegmentRegister) → operand_sets_segment (word_by_place place) register ≡ false
word_no_segment (places.Register number) register = refl
word_no_segment place register = refl

no_segment : (i : Instr) (kind : Kind) → is_segment kind ≡ false
    → (register : SegmentRegister) → operand_sets_segment (operand_of i kind) register ≡ false
no_segment i kinds.Segment is register = let never : true ≡ false = is in cc
no_segment i kinds.SegmentNotCs is register = let never : true ≡ false = is in cc
no_segment i kinds.CodeSegment is register = let never : true ≡ false = is in cc
no_segment i kinds.CodeSegmentNotCs is register = let never : true ≡ false = is in cc
no_segment i kinds.Rm8 is register = byte_no_segment i.form.place register
no_segment i kinds.Rm16 is register = word_no_segment i.form.place register
no_segment i kinds.Memory is register = word_no_segment i.form.place register
no_segment i kind is register = refl

-- SP as an operand

is_sp_of : (operand : Operand) → is_sp operand ≡ true → operand ≡ operands.Word Sp
is_sp_of (operands.Word Sp) is = refl
is_sp_of operand is = let never : false ≡ true = is in cc

pub sp_location : (r : Registers) (i : Instr) (kind : Kind) → is_sp (operand_of i kind) ≡ true → location_of r i kind ≡ Word Sp
sp_location r i kind is = sym (located r i kind) ∙ ap (location_by r i) (is_sp_of (operand_of i kind) is)

pub number_location : (r : Registers) (i : Instr) (kind : Kind) (n : ℕ) → operand_of i kind ≡ operands.Number n → location_of r i kind ≡ Number n
number_location r i kind n is = sym (located r i kind) ∙ ap (location_by r i) is

pub sp_put : {S : Type 0} (bus : BusMeaning S) (m : Machine S) (to : OperandLocation) (value : ℕ) → to ≡ Word Sp
    → (with_value_at bus m to value).registers ≡ record m.registers { sp = value }
unfolding with_value_at with_word_register
sp_put bus m to value is = ap (λ l. (with_value_at bus m l value).registers) is

-- an operation that calculates writes its first operand, or SP as it was

calculated_told : (i : Instr) (op : Operation) (register : WordRegister) → writes_first op ≡ true
    → (is_sp (first_operand i) ≡ true → sp_moves (operand_move i op) ≡ true)
    → operand_sets (first_operand i) register ≡ true
    → if_sp register (sp_moves (operand_move i op)) (writes_first op && operand_sets (first_operand i) register) ≡ true
calculated_told i op Sp writes moves is = moves (set_sp (first_operand i) is)
calculated_told i op register writes moves is = ap (λ b. b && operand_sets (first_operand i) register) writes ∙ is

abbrev Calculates : Instr → Operation → Type 0
Calculates i op =
    (register : WordRegister)
    → if_sp register (sp_moves (operand_move i op)) (writes_first op && operand_sets (first_operand i) register) ≡ true
    → sets_by i op register ≡ true

calculated_spares : {A S : Type 0} (f : Registers → A) (bus : BusMeaning S) (m : Machine S) (i : Instr) (op : Operation) (g : FlagState) (value : ℕ)
    → SparesTold f i op → Calculates i op → writes_first op ≡ true → is_segment (first_of i.form.row) ≡ false
    → untold_flags (flags_by op) g ≡ untold_flags (flags_by op) m.registers.flags
    → (is_sp (first_operand i) ≡ true → sp_moves (operand_move i op) ≡ false
    → f (record (with_flags m g).registers { sp = value }) ≡ f (with_flags m g).registers)
    → f (with_value_at bus (with_flags m g) (location_of m.registers i (first_of i.form.row)) value).registers ≡ f m.registers
calculated_spares f bus m i op g value spares calculates writes plain flags stays =
    by_move (sp_moves (operand_move i op)) refl ∙ spares.flags m.registers g flags
  where
    put : (is_sp (first_operand i) ≡ true → sp_moves (operand_move i op) ≡ true)
        → f (with_value_at bus (with_flags m g) (location_of m.registers i (first_of i.form.row)) value).registers ≡ f (with_flags m g).registers
    put moves =
        put_spares f bus (with_flags m g) m.registers i (first_of i.form.row) value
        (operand_spared f i op spares (first_operand i)
        (λ register is. calculates register (calculated_told i op register writes moves is))
        (λ register is. never _ (no_segment i (first_of i.form.row) plain register) is))

    by_sp : (b : Bool) → is_sp (first_operand i) ≡ b → sp_moves (operand_move i op) ≡ false
        → f (with_value_at bus (with_flags m g) (location_of m.registers i (first_of i.form.row)) value).registers ≡ f (with_flags m g).registers
    by_sp true is still =
        ap f (sp_put bus (with_flags m g) (location_of m.registers i (first_of i.form.row)) value (sp_location m.registers i (first_of i.form.row) is))
        ∙ stays is still
    by_sp false is still = put (λ yes. never _ is yes)

    by_move : (b : Bool) → sp_moves (operand_move i op) ≡ b
        → f (with_value_at bus (with_flags m g) (location_of m.registers i (first_of i.form.row)) value).registers ≡ f (with_flags m g).registers
    by_move true moves = put (λ _. moves)
    by_move false still = by_sp (is_sp (first_operand i)) refl still

moves_when : (i : Instr) (op : Operation) → writes_first op ≡ true → is_sp (first_operand i) ≡ true
    → sp_moves (sum_move op (second_operand i)) ≡ sp_moves (operand_move i op)
moves_when i op writes is =
    sym
    (ap (λ b. sp_moves (if b then (if is_sp (first_operand i) then sum_move op (second_operand i) else By 0) else By 0)) writes
    ∙ ap (λ b. sp_moves (if b then sum_move op (second_operand i) else By 0)) is)

-- what moves SP in a way that isn't told, or by something
never_stays : {P : Type 0} (i : Instr) (op : Operation) → writes_first op ≡ true → sp_moves (sum_move op (second_operand i)) ≡ true
    → is_sp (first_operand i) ≡ true → sp_moves (operand_move i op) ≡ false → P
never_stays i op writes moves is still = never _ still (sym (moves_when i op writes is) ∙ moves)

-- flags

arithmetic_flags : (op : ArithmeticType) (g : FlagState) (width : Width) (a b : ℕ)
    → untold_flags status_flags (with_flags_of op g width a b) ≡ untold_flags status_flags g
unfolding with_flags_of with_sum with_difference with_logic
arithmetic_flags Add g width a b = refl
arithmetic_flags op g width a b = refl

told_flags : (op : ShiftType) (g : FlagState) (width : Width) (s : Shifted) (some : Bool)
    → untold_flags (shifted_flags op) (if some then with_told g op width s else g) ≡ untold_flags (shifted_flags op) g
told_flags Shl g width s true = refl
told_flags op g width s true = refl
told_flags op g width s false = refl

shift_flags : (op : ShiftType) (g : FlagState) (width : Width) (count : ℕ) (s : Shifted)
    → untold_flags (shifted_flags op) (with_shifted g op width count s) ≡ untold_flags (shifted_flags op) g
unfolding with_shifted
shift_flags op g width count s = told_flags op g width s (nat_lt 0 count)

changed_unary : (op : UnaryType) (g : FlagState) (width : Width) (a : ℕ)
    → untold_flags (unary_flags op) (with_unary_flags_of op g width a) ≡ untold_flags (unary_flags op) g
unfolding with_unary_flags_of with_sum with_difference
changed_unary Inc g width a = refl
changed_unary op g width a = refl

single_flags : (op : ProcessorType) (g : FlagState) → untold_flags (processor_flags op) (after_flag_operation g op) ≡ untold_flags (processor_flags op) g
unfolding after_flag_operation
single_flags Cmc g = refl
single_flags op g = refl

-- sums and differences with SP

sum_word : (sp n : ℕ) → (sp % 65536 + n % 65536 + 0) % 65536 ≡ offset_after sp n
sum_word sp n = omega arith

difference_word : (sp n : ℕ) → n < 65536 → (sp % 65536 + 65536 - (n % 65536 + 0)) % 65536 ≡ offset_after sp (offset_after 0 (65536 - n))
difference_word sp n small = omega (arith, small)

pub sum_at_sp : {S : Type 0} (bus : BusMeaning S) (m : Machine S) (to from : OperandLocation) (n : ℕ) → to ≡ Word Sp → from ≡ Number n
    → result_of Add m.registers.flags (width_at to) (operand_at bus m to (width_at to)) (operand_at bus m from (width_at to))
    ≡ offset_after m.registers.sp n
unfolding result_of value_at word_register
sum_at_sp bus m to from n to_is from_is = rw to_is (rw from_is (sum_word m.registers.sp n))

pub difference_at_sp : {S : Type 0} (bus : BusMeaning S) (m : Machine S) (to from : OperandLocation) (n : ℕ) → n < 65536 → to ≡ Word Sp → from ≡ Number n
    → result_of Sub m.registers.flags (width_at to) (operand_at bus m to (width_at to)) (operand_at bus m from (width_at to))
    ≡ offset_after m.registers.sp (offset_after 0 (65536 - n))
unfolding result_of value_at word_register
difference_at_sp bus m to from n small to_is from_is = rw to_is (rw from_is (difference_word m.registers.sp n small))

zero_of : (n : ℕ) → not (n == 0) ≡ false → n ≡ 0
zero_of n is = grind (arith)

same_sp : (sp n : ℕ) → sp < 65536 → n ≡ 0 → offset_after sp n ≡ sp
same_sp sp n word is = omega (arith, word, is)

-- a number as an operand is a word
abbrev pub NumberIsWord : Operand → Type 0
NumberIsWord (operands.Number n) = n < 65536
NumberIsWord operand = Unit {0}

add_stays : {S : Type 0} (bus : BusMeaning S) (m : Machine S) (i : Instr) → m.registers.sp < 65536
    → (to : OperandLocation) → to ≡ Word Sp → (operand : Operand) → second_operand i ≡ operand → sp_moves (sum_move (Arithmetic Add) operand) ≡ false
    → result_of Add m.registers.flags (width_at to) (operand_at bus m to (width_at to))
    (operand_at bus m (location_of m.registers i (second_of i.form.row)) (width_at to))
    ≡ m.registers.sp
add_stays bus m i word to to_is (operands.Number n) second still =
    sum_at_sp bus m to _ n to_is (number_location m.registers i (second_of i.form.row) n second) ∙ same_sp m.registers.sp n word (zero_of n still)
add_stays bus m i word to to_is operand second still = let never : true ≡ false = still in cc

sub_stays : {S : Type 0} (bus : BusMeaning S) (m : Machine S) (i : Instr) → m.registers.sp < 65536
    → (to : OperandLocation) → to ≡ Word Sp → (operand : Operand) → second_operand i ≡ operand → NumberIsWord operand
    → sp_moves (sum_move (Arithmetic Sub) operand) ≡ false
    → result_of Sub m.registers.flags (width_at to) (operand_at bus m to (width_at to))
    (operand_at bus m (location_of m.registers i (second_of i.form.row)) (width_at to))
    ≡ m.registers.sp
sub_stays bus m i word to to_is (operands.Number n) second small still =
    difference_at_sp bus m to _ n small to_is (number_location m.registers i (second_of i.form.row) n second)
    ∙ same_sp m.registers.sp (offset_after 0 (65536 - n)) word (zero_of (offset_after 0 (65536 - n)) still)
sub_stays bus m i word to to_is operand second small still = let never : true ≡ false = still in cc

-- what stands in the processor and in the instruction
pub record Bounded {S : Type 0} (m : Machine S) (i : Instr) : Type 0 where
  pub sp : m.registers.sp < 65536
  pub number : NumberIsWord (second_operand i)

same_value : {A S : Type 0} (f : Registers → A) (m : Machine S) (g : FlagState) (value : ℕ) → value ≡ m.registers.sp
    → f (record (with_flags m g).registers { sp = value }) ≡ f (with_flags m g).registers
same_value f m g value is = ap (λ sp. f (record (with_flags m g).registers { sp = sp })) is

pub arithmetic_spares : {A S : Type 0} (f : Registers → A) (bus : BusMeaning S) (m : Machine S) (op : ArithmeticType) (i : Instr)
    → SparesTold f i (Arithmetic op) → Bounded m i → is_segment (first_of i.form.row) ≡ false
    → f (after_arithmetic bus m op i).registers ≡ f m.registers
unfolding after_arithmetic
arithmetic_spares f bus m Cmp i spares bounded plain = spares.flags m.registers _ (arithmetic_flags Cmp m.registers.flags _ _ _)
arithmetic_spares f bus m Test i spares bounded plain = spares.flags m.registers _ (arithmetic_flags Test m.registers.flags _ _ _)
arithmetic_spares f bus m Add i spares bounded plain =
    calculated_spares f bus m i (Arithmetic Add) _ _ spares (λ _ is. is) refl plain (arithmetic_flags Add m.registers.flags _ _ _)
    (λ is still. same_value f m _ _
    (add_stays bus m i bounded.sp _ (sp_location m.registers i (first_of i.form.row) is) (second_operand i) refl
    (moves_when i (Arithmetic Add) refl is ∙ still)))
arithmetic_spares f bus m Sub i spares bounded plain =
    calculated_spares f bus m i (Arithmetic Sub) _ _ spares (λ _ is. is) refl plain (arithmetic_flags Sub m.registers.flags _ _ _)
    (λ is still. same_value f m _ _
    (sub_stays bus m i bounded.sp _ (sp_location m.registers i (first_of i.form.row) is) (second_operand i) refl bounded.number
    (moves_when i (Arithmetic Sub) refl is ∙ still)))
arithmetic_spares f bus m op i spares bounded plain =
    calculated_spares f bus m i (Arithmetic op) _ _ spares (λ _ is. is) refl plain (arithmetic_flags op m.registers.flags _ _ _)
    (never_stays i (Arithmetic op) refl refl)

-- a part of the registers to which SP doesn't belong is left even if SP is told to stay
pub arithmetic_leaves : {A S : Type 0} (f : Registers → A) (bus : BusMeaning S) (m : Machine S) (op : ArithmeticType) (i : Instr)
    → SparesTold f i (Arithmetic op) → ((r : Registers) (sp : ℕ) → f (record r { sp = sp }) ≡ f r) → is_segment (first_of i.form.row) ≡ false
    → f (after_arithmetic bus m op i).registers ≡ f m.registers
unfolding after_arithmetic
arithmetic_leaves f bus m Cmp i spares sp plain = spares.flags m.registers _ (arithmetic_flags Cmp m.registers.flags _ _ _)
arithmetic_leaves f bus m Test i spares sp plain = spares.flags m.registers _ (arithmetic_flags Test m.registers.flags _ _ _)
arithmetic_leaves f bus m op i spares sp plain =
    calculated_spares f bus m i (Arithmetic op) _ _ spares (λ _ is. is) refl plain (arithmetic_flags op m.registers.flags _ _ _) (λ is still. sp _ _)

pub unary_spares : {A S : Type 0} (f : Registers → A) (bus : BusMeaning S) (m : Machine S) (op : UnaryType) (i : Instr)
    → SparesTold f i (Unary op) → is_segment (first_of i.form.row) ≡ false
    → f (after_unary bus m op i).registers ≡ f m.registers
unfolding after_unary
unary_spares f bus m Inc i spares plain =
    calculated_spares f bus m i (Unary Inc) _ _ spares (λ _ is. is) refl plain (changed_unary Inc m.registers.flags _ _)
    (never_stays i (Unary Inc) refl refl)
unary_spares f bus m op i spares plain =
    calculated_spares f bus m i (Unary op) _ _ spares (λ _ is. is) refl plain (changed_unary op m.registers.flags _ _)
    (never_stays i (Unary op) refl refl)

pub shift_spares : {A S : Type 0} (f : Registers → A) (bus : BusMeaning S) (m : Machine S) (op : ShiftType) (i : Instr)
    → SparesTold f i (Shift op) → is_segment (first_of i.form.row) ≡ false
    → f (after_shift bus m op i).registers ≡ f m.registers
unfolding after_shift
shift_spares f bus m op i spares plain =
    calculated_spares f bus m i (Shift op) _ _ spares (λ _ is. is) refl plain (shift_flags op m.registers.flags _ _ _)
    (never_stays i (Shift op) refl refl)

-- products and quotients

width_is : (r : Registers) (i : Instr) (operand : Operand) → width_at (location_by r i operand) ≡ (if is_word operand then widths.Word else widths.Byte)
width_is r i operands.Nothing = refl
width_is r i operand = refl

pub product_width : (r : Registers) (i : Instr) (kind : Kind)
    → width_at (location_of r i kind) ≡ (if is_word (operand_of i kind) then widths.Word else widths.Byte)
product_width r i kind = ap width_at (sym (located r i kind)) ∙ width_is r i (operand_of i kind)

product_spares_by : {A : Type 0} (f : Registers → A) (i : Instr) (op : ProductType) → SparesTold f i (Product op)
    → ((register : WordRegister) → product_sets op (is_word (first_operand i)) register ≡ true → sets_by i (Product op) register ≡ true)
    → (r : Registers) (g : FlagState) → untold_flags (product_flags op) g ≡ untold_flags (product_flags op) r.flags
    → (words : Bool) → is_word (first_operand i) ≡ words → (dx ax both : ℕ)
    → f (if words then record r { flags = g; dx = dx; ax = ax } else record r { flags = g; ax = both }) ≡ f r
unfolding with_word_register
product_spares_by f i op spares told r g flags true words dx ax both =
    spares.word Ax (told Ax refl) (record r { flags = g; dx = dx }) ax
    ∙ spares.word Dx (told Dx words) (record r { flags = g }) dx ∙ spares.flags r g flags
product_spares_by f i op spares told r g flags false words dx ax both =
    spares.word Ax (told Ax refl) (record r { flags = g }) both ∙ spares.flags r g flags

product_told : (i : Instr) (op : ProductType) (register : WordRegister) → product_sets op (is_word (first_operand i)) register ≡ true
    → sets_by i (Product op) register ≡ true
product_told i op Sp is = let none : false ≡ true = is in cc
product_told i op register is = is

with_product_is : (r : Registers) (width : Width) (p : FullProduct) (words : Bool) → width ≡ (if words then widths.Word else widths.Byte)
    → with_product r width p
    ≡ (if words then record r { flags = record (forgetting r.flags) { carry = p.is_wide; overflow = p.is_wide }; dx = p.value / 65536; ax = p.value % 65536 }
    else record r { flags = record (forgetting r.flags) { carry = p.is_wide; overflow = p.is_wide }; ax = p.value })
unfolding with_product
with_product_is r width p true is = ap (λ w. with_product r w p) is
with_product_is r width p false is = ap (λ w. with_product r w p) is

with_division_is : (r : Registers) (width : Width) (d : Division) (words : Bool) → width ≡ (if words then widths.Word else widths.Byte)
    → with_division r width d
    ≡ (if words then record r { flags = r.flags; dx = d.remainder; ax = d.quotient } else record r { flags = r.flags; ax = 256 * d.remainder + d.quotient })
unfolding with_division
with_division_is r width d true is = ap (λ w. with_division r w d) is
with_division_is r width d false is = ap (λ w. with_division r w d) is

multiplied_spares : {A : Type 0} (f : Registers → A) (i : Instr) (op : ProductType) → SparesTold f i (Product op)
    → product_flags op ≡ record no_flags { carry = true; overflow = true } → (r : Registers) (p : FullProduct)
    → f (with_product r (width_at (location_of r i (first_of i.form.row))) p) ≡ f r
multiplied_spares f i op spares flags r p =
    ap f (with_product_is r _ p (is_word (first_operand i)) (product_width r i (first_of i.form.row)))
    ∙ product_spares_by f i op spares (product_told i op) r (record (forgetting r.flags) { carry = p.is_wide; overflow = p.is_wide })
    (rw flags refl) (is_word (first_operand i)) refl _ _ _

pub divided_spares : {A : Type 0} (f : Registers → A) (i : Instr) (op : ProductType) → SparesTold f i (Product op)
    → (r : Registers) (d : Division) → f (with_division r (width_at (location_of r i (first_of i.form.row))) d) ≡ f r
divided_spares f i op spares r d =
    ap f (with_division_is r _ d (is_word (first_operand i)) (product_width r i (first_of i.form.row)))
    ∙ product_spares_by f i op spares (product_told i op) r r.flags refl (is_word (first_operand i)) refl _ _ _

division_spares : {A S : Type 0} (f : Registers → A) (bus : BusMeaning S) (m : Machine S) (i : Instr) (op : ProductType) → SparesTold f i (Product op)
    → f (after_entry bus m 0).registers ≡ f m.registers → (d : Option Division)
    → f (after_division bus m (width_at (location_of m.registers i (first_of i.form.row))) d).registers ≡ f m.registers
unfolding after_division
division_spares f bus m i op spares entry None = entry
division_spares f bus m i op spares entry (Some d) = divided_spares f i op spares m.registers d

pub product_spares : {A S : Type 0} (f : Registers → A) (bus : BusMeaning S) (m : Machine S) (op : ProductType) (i : Instr)
    → SparesTold f i (Product op) → (divides (Product op) ≡ true → f (after_entry bus m 0).registers ≡ f m.registers)
    → f (after_product bus m op i).registers ≡ f m.registers
unfolding after_product product.after_operation
product_spares f bus m Mul i spares entry = multiplied_spares f i Mul spares refl m.registers _
product_spares f bus m Imul i spares entry = multiplied_spares f i Imul spares refl m.registers _
product_spares f bus m Div i spares entry = division_spares f bus m i Div spares (entry refl) _
product_spares f bus m Idiv i spares entry = division_spares f bus m i Idiv spares (entry refl) _

-- adjustments

adjusted_spares : {A : Type 0} (f : Registers → A) (i : Instr) (op : AdjustType) → SparesTold f i (Adjust op) → adjust_sets op Ax ≡ true
    → (r : Registers) (ax : ℕ) (g : FlagState) → untold_flags (adjusted_flags op) g ≡ untold_flags (adjusted_flags op) r.flags
    → f (record r { ax = ax; flags = g }) ≡ f r
unfolding with_word_register
adjusted_spares f i op spares sets r ax g flags = spares.word Ax sets (record r { flags = g }) ax ∙ spares.flags r g flags

unpacked_spares : {A : Type 0} (f : Registers → A) (i : Instr) (op : AdjustType) → SparesTold f i (Adjust op) → adjust_sets op Ax ≡ true
    → adjusted_flags op ≡ record no_flags { carry = true; auxiliary_carry = true }
    → (r : Registers) (low : Bool) (ah al other_ah other_al : ℕ)
    → f (if low then with_unpacked r ah al true else with_unpacked r other_ah other_al false) ≡ f r
unpacked_spares f i op spares sets flags r true ah al other_ah other_al =
    adjusted_spares f i op spares sets r _ (record (forgetting r.flags) { auxiliary_carry = true; carry = true }) (rw flags refl)
unpacked_spares f i op spares sets flags r false ah al other_ah other_al =
    adjusted_spares f i op spares sets r _ (record (forgetting r.flags) { auxiliary_carry = false; carry = false }) (rw flags refl)

pub adjust_spares : {A : Type 0} (f : Registers → A) (r : Registers) (op : AdjustType) (i : Instr) → SparesTold f i (Adjust op)
    → f (after_adjust r op) ≡ f r
unfolding after_adjust with_word_register
adjust_spares f r Daa i spares = adjusted_spares f i Daa spares refl r _ _ refl
adjust_spares f r Das i spares = adjusted_spares f i Das spares refl r _ _ refl
adjust_spares f r Aaa i spares = unpacked_spares f i Aaa spares refl refl r (adjusts_low r.flags (al_of r)) _ _ _ _
adjust_spares f r Aas i spares = unpacked_spares f i Aas spares refl refl r (adjusts_low r.flags (al_of r)) _ _ _ _
adjust_spares f r Aam i spares = adjusted_spares f i Aam spares refl r _ _ refl
adjust_spares f r Aad i spares = adjusted_spares f i Aad spares refl r _ _ refl
adjust_spares f r Cbw i spares = spares.word Ax refl r _
adjust_spares f r Cwd i spares = spares.word Dx refl r _

-- single flags

pub single_spares : {A : Type 0} (f : Registers → A) (r : Registers) (op : ProcessorType) (i : Instr) → SparesTold f i (Processor op)
    → f (record r { flags = after_flag_operation r.flags op }) ≡ f r
single_spares f r op i spares = spares.flags r _ (single_flags op r.flags)

-- string instructions

element_put : {S : Type 0} (bus : BusMeaning S) (m : Machine S) (width : Width) (segment offset value : ℕ)
    → (with_value_at bus m (element_at width segment offset) value).registers ≡ m.registers
unfolding with_value_at
element_put bus m widths.Byte segment offset value = refl
element_put bus m widths.Word segment offset value = refl

-- what sets SI, DI and AX leaves
abbrev SparesWord : {A : Type 0} → (Registers → A) → WordRegister → Type 0
SparesWord f register = (r : Registers) (value : ℕ) → f (with_word_register r register value) ≡ f r

movs_spares : {A S : Type 0} (f : Registers → A) (bus : BusMeaning S) (m : Machine S) (width : Width) (from : SegmentRegister)
    → SparesWord f Si → SparesWord f Di → f (after_movs bus m width from).registers ≡ f m.registers
unfolding after_movs with_word_register
movs_spares f bus m width from si di = di _ _ ∙ si _ _ ∙ ap f (element_put bus m width m.registers.es m.registers.di _)

stos_spares : {A S : Type 0} (f : Registers → A) (bus : BusMeaning S) (m : Machine S) (width : Width)
    → SparesWord f Di → f (after_stos bus m width).registers ≡ f m.registers
unfolding after_stos with_word_register
stos_spares f bus m width di = di _ _ ∙ ap f (element_put bus m width m.registers.es m.registers.di _)

abbrev SparesFlags : {A : Type 0} → (Registers → A) → Type 0
SparesFlags f = (r : Registers) (g : FlagState) → untold_flags status_flags g ≡ untold_flags status_flags r.flags → f (record r { flags = g }) ≡ f r

cmps_spares : {A S : Type 0} (f : Registers → A) (bus : BusMeaning S) (m : Machine S) (width : Width) (from : SegmentRegister)
    → SparesWord f Si → SparesWord f Di → SparesFlags f → f (after_cmps bus m width from).registers ≡ f m.registers
unfolding after_cmps with_word_register with_difference
cmps_spares f bus m width from si di flags = di _ _ ∙ si _ _ ∙ flags m.registers _ refl

scas_spares : {A S : Type 0} (f : Registers → A) (bus : BusMeaning S) (m : Machine S) (width : Width)
    → SparesWord f Di → SparesFlags f → f (after_scas bus m width).registers ≡ f m.registers
unfolding after_scas with_word_register with_difference
scas_spares f bus m width di flags = di _ _ ∙ flags m.registers _ refl

pub element_spares : {A S : Type 0} (f : Registers → A) (bus : BusMeaning S) (m : Machine S) (op : StringsType) (from : SegmentRegister) (i : Instr)
    → SparesTold f i (Strings op) → f (after_element bus m op from).registers ≡ f m.registers
unfolding after_element after_lods with_value_at with_word_register with_byte_register
element_spares f bus m Movsb from i spares = movs_spares f bus m widths.Byte from (spares.word Si refl) (spares.word Di refl)
element_spares f bus m Movsw from i spares = movs_spares f bus m widths.Word from (spares.word Si refl) (spares.word Di refl)
element_spares f bus m Cmpsb from i spares =
    cmps_spares f bus m widths.Byte from (spares.word Si refl) (spares.word Di refl) spares.flags
element_spares f bus m Cmpsw from i spares =
    cmps_spares f bus m widths.Word from (spares.word Si refl) (spares.word Di refl) spares.flags
element_spares f bus m Stosb from i spares = stos_spares f bus m widths.Byte (spares.word Di refl)
element_spares f bus m Stosw from i spares = stos_spares f bus m widths.Word (spares.word Di refl)
element_spares f bus m Lodsb from i spares = spares.word Si refl _ _ ∙ spares.half Al refl m.registers _
element_spares f bus m Lodsw from i spares = spares.word Si refl _ _ ∙ spares.word Ax refl m.registers _
element_spares f bus m Scasb from i spares = scas_spares f bus m widths.Byte (spares.word Di refl) spares.flags
element_spares f bus m Scasw from i spares = scas_spares f bus m widths.Word (spares.word Di refl) spares.flags

-- data transfer

told_by : (operand : Operand) (register : WordRegister) (moves sets : Bool) → (is_sp operand ≡ true → moves ≡ true)
    → (operand_sets operand register ≡ true → sets ≡ true) → operand_sets operand register ≡ true → if_sp register moves sets ≡ true
told_by operand Sp moves sets sp others is = sp (set_sp operand is)
told_by operand register moves sets sp others is = others is

or_left : (a b : Bool) → a ≡ true → (a || b) ≡ true
or_left true b is = refl
or_left false b is = let none : false ≡ true = is in cc

or_right : (a b : Bool) → b ≡ true → (a || b) ≡ true
or_right true b is = refl
or_right false b is = is

pop_moves : (loads : Bool) → sp_moves (loads_if loads (By 2)) ≡ true
pop_moves true = refl
pop_moves false = refl

-- the first operand, if it is told as such
transferred : {A : Type 0} (f : Registers → A) (i : Instr) (op : TransferType) → SparesTold f i (Transfer op)
    → (is_sp (first_operand i) ≡ true → sp_moves (transfer_move i op) ≡ true)
    → ((register : WordRegister) → operand_sets (first_operand i) register ≡ true → transfer_sets i op register ≡ true)
    → ((register : SegmentRegister) → operand_sets_segment (first_operand i) register ≡ true → segment_set_by i (Transfer op) register ≡ true)
    → SparesOperand f (first_operand i)
transferred f i op spares moves words segments =
    operand_spared f i (Transfer op) spares (first_operand i)
    (λ register is. told_by (first_operand i) register _ _ moves (words register) is) segments

plain_segments : {P : Type 0} (i : Instr) (kind : Kind) → is_segment kind ≡ false
    → (register : SegmentRegister) → operand_sets_segment (operand_of i kind) register ≡ true → P
plain_segments i kind plain register is = never _ (no_segment i kind plain register) is

pointer_spares : {A S : Type 0} (f : Registers → A) (bus : BusMeaning S) (m : Machine S) (segment : SegmentRegister) (i : Instr)
    → SparesOperand f (first_operand i) → ((r : Registers) (value : ℕ) → f (with_segment_register r segment value) ≡ f r)
    → f (after_pointer_load bus m segment i).registers ≡ f m.registers
unfolding after_pointer_load
pointer_spares f bus m segment i first loaded =
    value_spares f bus _ (Segment segment) _ loaded ∙ put_spares f bus m m.registers i (first_of i.form.row) _ first

exchange_spares : {A S : Type 0} (f : Registers → A) (bus : BusMeaning S) (m : Machine S) (i : Instr) → SparesTold f i (Transfer Xchg)
    → is_segment (first_of i.form.row) ≡ false → is_segment (second_of i.form.row) ≡ false
    → f (after_xchg bus m i).registers ≡ f m.registers
unfolding after_xchg
exchange_spares f bus m i spares plain plain_second =
    put_spares f bus _ m.registers i (second_of i.form.row) _
    (operand_spared f i (Transfer Xchg) spares (second_operand i)
    (λ register is. told_by (second_operand i) register _ _
    (λ sp. ap (λ b. sp_moves (loads_if b (By 0))) (or_right (is_sp (first_operand i)) (is_sp (second_operand i)) sp))
    (or_right (operand_sets (first_operand i) register) (operand_sets (second_operand i) register)) is)
    (plain_segments i (second_of i.form.row) plain_second))
    ∙ put_spares f bus m m.registers i (first_of i.form.row) _
    (transferred f i Xchg spares
    (λ sp. ap (λ b. sp_moves (loads_if b (By 0))) (or_left (is_sp (first_operand i)) (is_sp (second_operand i)) sp))
    (λ register is. or_left (operand_sets (first_operand i) register) (operand_sets (second_operand i) register) is)
    (plain_segments i (first_of i.form.row) plain))

-- IN reads into AL or AX
abbrev pub is_input : Kind → Bool
is_input kinds.Al = true
is_input kinds.Ax = true
is_input kind = false

input_told : (i : Instr) (kind : Kind) → is_input kind ≡ true → operand_sets (operand_of i kind) Ax ≡ true
input_told i kinds.Al is = refl
input_told i kinds.Ax is = refl
input_told i kind is = let none : false ≡ true = is in cc

input_spares : {A S : Type 0} (f : Registers → A) (bus : BusMeaning S) (m : Machine S) (i : Instr) → SparesTold f i (Transfer In)
    → operand_sets (first_operand i) Ax ≡ true → (port : ℕ) (both : Bool)
    → f (if both then after_word_input bus m port else after_byte_input bus m port).registers ≡ f m.registers
unfolding after_word_input after_byte_input with_word_register
input_spares f bus m i spares told port true = spares.word Ax told m.registers _
input_spares f bus m i spares told port false = spares.half Al told m.registers _

-- what kinds of operands a row must have
abbrev pub is_plain : Operation → Kind → Kind → Bool
is_plain (Arithmetic op) first second = not (is_segment first)
is_plain (Shift op) first second = not (is_segment first)
is_plain (Unary op) first second = not (is_segment first)
is_plain (Transfer Xchg) first second = not (is_segment first) && not (is_segment second)
is_plain (Transfer Lea) first second = not (is_segment first)
is_plain (Transfer Les) first second = not (is_segment first)
is_plain (Transfer Lds) first second = not (is_segment first)
is_plain (Transfer In) first second = is_input first
is_plain op first second = true

pub isnt : (b : Bool) → not b ≡ true → b ≡ false
isnt true is = let none : false ≡ true = is in cc
isnt false is = refl

left_of : (a b : Bool) → (a && b) ≡ true → a ≡ true
left_of true b is = refl
left_of false b is = let none : false ≡ true = is in cc

right_of : (a b : Bool) → (a && b) ≡ true → b ≡ true
right_of true b is = is
right_of false b is = let none : false ≡ true = is in cc

opens_moves : Unit {0}
unfolding after_mov after_lea after_push_operand after_push after_pop_operand after_pop after_popf after_xlat
opens_moves = tt

pub transfer_spares : {A S : Type 0} (f : Registers → A) (bus : BusMeaning S) (m : Machine S) (op : TransferType) (i : Instr)
    → SparesTold f i (Transfer op) → is_plain (Transfer op) (first_of i.form.row) (second_of i.form.row) ≡ true
    → f (after_transfer bus m op i).registers ≡ f m.registers
unfolding after_transfer opens_moves after_in after_out with_word_register
transfer_spares f bus m Mov i spares plain =
    put_spares f bus m m.registers i (first_of i.form.row) _
    (transferred f i Mov spares (λ sp. ap (λ b. sp_moves (loads_if b (By 0))) sp) (λ register is. is) (λ register is. is))
transfer_spares f bus m Xchg i spares plain =
    exchange_spares f bus m i spares (isnt _ (left_of _ (not (is_segment (second_of i.form.row))) plain))
    (isnt _ (right_of (not (is_segment (first_of i.form.row))) _ plain))
transfer_spares f bus m Lea i spares plain =
    put_spares f bus m m.registers i (first_of i.form.row) _
    (transferred f i Lea spares (λ sp. ap (λ b. sp_moves (loads_if b (By 0))) sp) (λ register is. is)
    (plain_segments i (first_of i.form.row) (isnt _ plain)))
transfer_spares f bus m Les i spares plain =
    pointer_spares f bus m Es i
    (transferred f i Les spares (λ sp. ap (λ b. sp_moves (loads_if b (By 0))) sp) (λ register is. is)
    (λ register is. never _ (no_segment i (first_of i.form.row) (isnt _ plain) register) is))
    (spares.segment Es refl)
transfer_spares f bus m Lds i spares plain =
    pointer_spares f bus m Ds i
    (transferred f i Lds spares (λ sp. ap (λ b. sp_moves (loads_if b (By 0))) sp) (λ register is. is)
    (λ register is. never _ (no_segment i (first_of i.form.row) (isnt _ plain) register) is))
    (spares.segment Ds refl)
transfer_spares f bus m Push i spares plain = spares.word Sp refl m.registers _
transfer_spares f bus m Pop i spares plain =
    put_spares f bus _ m.registers i (first_of i.form.row) _
    (transferred f i Pop spares (λ sp. pop_moves (is_sp (first_operand i))) (λ register is. is) (λ register is. is))
    ∙ spares.word Sp (pop_moves (is_sp (first_operand i))) m.registers _
transfer_spares f bus m Pushf i spares plain = spares.word Sp refl m.registers _
transfer_spares f bus m Popf i spares plain =
    spares.flags (record m.registers { sp = offset_after m.registers.sp 2 }) _ refl ∙ spares.word Sp refl m.registers _
transfer_spares f bus m Sahf i spares plain = spares.flags m.registers _ refl
transfer_spares f bus m Lahf i spares plain = spares.half Ah refl m.registers _
transfer_spares f bus m Xlat i spares plain = spares.half Al refl m.registers _
transfer_spares f bus m In i spares plain =
    input_spares f bus m i spares (input_told i (first_of i.form.row) plain)
    (port_of (second_of i.form.row) m.registers.dx i.values.number) (is_ax (first_of i.form.row))
transfer_spares f bus m Out i spares plain = refl
