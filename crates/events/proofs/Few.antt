-- How many accesses a step, an iteration and an entry make: no more than the six bytes that an interrupt pushes.
use Rattle.std.proofs.Common.{ℕ, ◌+◌, ◌≤◌, Bool, true, false, if◌then◌else◌, List, [], ◌∷◌, ◌++◌, length, Option, Some, None, arith}
use Rattle.std.specs.Prelude.{◌==◌}
use Rattle.board_types.specs.declared.choice.ClockTable.{ClockTable}
use Rattle.bus.specs.Bus.{BusMeaning, with_word_at}
use Rattle.bus.specs.PortWriteBus.{after_port_writes}
use Rattle.isa.specs.declared.operation.Operation.{Operation}
use Rattle.isa.specs.declared.operation.Operation.TheVariants as operations
use Rattle.isa.specs.declared.operation.Arithmetic.{Arithmetic}
use Rattle.isa.specs.declared.operation.Arithmetic.TheVariants.{Cmp, Test}
use Rattle.isa.specs.declared.operation.Shift.{Shift}
use Rattle.isa.specs.declared.operation.Product.{Product}
use Rattle.isa.specs.declared.operation.Product.TheVariants.{Mul, Imul, Div, Idiv}
use Rattle.isa.specs.declared.operation.Unary.{Unary}
use Rattle.isa.specs.declared.operation.Transfer.{Transfer}
use Rattle.isa.specs.declared.operation.Transfer.TheVariants.{Mov, Xchg, Lea, Les, Lds, Push, Pop, Pushf, Popf, Sahf, Lahf, Xlat, In, Out}
use Rattle.isa.specs.declared.operation.Control.{Control}
use Rattle.isa.specs.declared.operation.Control.TheVariants.{Jmp, Call, Ret, JmpFar, CallFar, Retf, Int3, Int, Into, Iret}
use Rattle.isa.specs.declared.operation.Strings.{Strings}
use Rattle.isa.specs.declared.operation.Strings.TheVariants.{Movsb, Movsw, Cmpsb, Cmpsw, Stosb, Stosw, Lodsb, Lodsw, Scasb, Scasw}
use Rattle.isa.specs.declared.register.SegmentRegister.{SegmentRegister}
use Rattle.isa.specs.declared.form.Instr.{Instr}
use Rattle.isa.specs.Row.{first_of, operation_of, second_of}
use Rattle.isa.specs.Clocks.{is_repeated}
use Rattle.isa.specs.WordCounts.{clocks_in}
use Rattle.decode.specs.declared.decoding.Decoding.{Decoding as Decoded}
use Rattle.decode.specs.declared.decoding.Decoding.TheVariants.{Found, NoRow}
use Rattle.execute_machine.specs.declared.location.OperandLocation.{OperandLocation}
use Rattle.execute_machine.specs.declared.location.OperandLocation.TheVariants as locations
use Rattle.execute_machine.specs.declared.width.Width.{Width}
use Rattle.execute_machine.specs.declared.width.Width.TheVariants.{Byte, Word}
use Rattle.execute_machine.specs.Locations.{Machine, machine, with_value_at}
use Rattle.execute_machine.specs.Stack.{after_push, after_pop, after_entry_pushes, after_vector, after_entry}
use Rattle.execute_arith.specs.ArithmeticMeaning.{after_arithmetic, after_unary}
use Rattle.execute_arith.specs.Shifts.{after_shift}
use Rattle.execute_arith.specs.declared.numbers.Division.{Division}
use Rattle.execute_arith.specs.Products as product
use Rattle.execute_arith.specs.Products.{after_division, after_product}
use Rattle.execute_strings.specs.StringMeaning.{after_movs, after_cmps, after_stos, after_lods, after_scas, after_element, after_iteration, source_segment}
use Rattle.execute_transfer.specs.TransferMeaning.{after_mov, after_xchg, after_lea, after_pointer_load, after_push_operand}
use Rattle.execute_transfer.specs.TransferMeaning.{after_pop_operand, after_popf, after_xlat, after_byte_input, after_word_input}
use Rattle.execute_transfer.specs.TransferMeaning.{after_in, after_out, after_transfer, is_ax, outputs_at, outputs_of, port_of}
use Rattle.execute_control.specs.ControlMeaning.{after_call, after_control, after_far_pop, after_interrupt_return, after_ip_pop, after_return}
use Rattle.execute_meaning.specs.declared.repeating.Repeating.{Repeating}
use Rattle.execute_meaning.specs.Boundaries.{after_enter}
use Rattle.execute_meaning.specs.Cpu.{CpuState}
use Rattle.execute_meaning.specs.Meaning.{StepResult, after_operation, after_whole, after_iterating, after_repeat, after_begun}
use Rattle.execute_meaning.specs.Meaning.{after_fetch, after_found, after_step, after_again_of, after_again, iteration_outcome, repeating_of}
use Rattle.events.specs.declared.access.Access.{Access}
use Rattle.events.specs.EventLaws.{MakesFewAccesses}
use Rattle.events.specs.Noting.{Noted, noting, unnoted}

-- a count that no access raises by more than 1
record Counts {S : Type 0} (bus : BusMeaning S) (count : S → ℕ) : Type 0 where
  write : (s : S) (address byte : ℕ) → count (bus.after_write s address byte) ≤ count s + 1
  input : (s : S) (port : ℕ) → count (bus.after_input s port) ≤ count s + 1
  output : (s : S) (port byte : ℕ) → count (bus.after_output s port byte) ≤ count s + 1

none : (n k : ℕ) → n ≤ n + k
none n k = omega arith

-- some, and then more
more : (a b c m n : ℕ) → a ≤ b + m → b ≤ c + n → a ≤ c + (n + m)
more a b c m n first second = omega (arith, first, second)

one_less : (a c : ℕ) → a ≤ c + 1 → a ≤ c + 2
one_less a c is = omega (arith, is)

one_is_few : (a c : ℕ) → a ≤ c + 1 → a ≤ c + 6
one_is_few a c is = omega (arith, is)

two_are_few : (a c : ℕ) → a ≤ c + 2 → a ≤ c + 6
two_are_few a c is = omega (arith, is)

four_are_few : (a c : ℕ) → a ≤ c + 4 → a ≤ c + 6
four_are_few a c is = omega (arith, is)

-- a word, a push, an entry, and a value that is put at a location

word_few : {S : Type 0} (bus : BusMeaning S) (count : S → ℕ) → Counts bus count → (s : S) (segment offset word : ℕ)
    → count (with_word_at bus s segment offset word) ≤ count s + 2
unfolding with_word_at
word_few bus count counts s segment offset word = more _ _ _ 1 1 (counts.write _ _ _) (counts.write _ _ _)

push_few : {S : Type 0} (bus : BusMeaning S) (count : S → ℕ) → Counts bus count → (m : Machine S) (word : ℕ)
    → count (after_push bus m word).bus ≤ count m.bus + 2
unfolding after_push
push_few bus count counts m word = word_few bus count counts m.bus _ _ word

entry_few : {S : Type 0} (bus : BusMeaning S) (count : S → ℕ) → Counts bus count → (m : Machine S) (kind : ℕ)
    → count (after_entry bus m kind).bus ≤ count m.bus + 6
unfolding after_entry after_vector after_entry_pushes
entry_few bus count counts m kind =
    more _ _ _ 2 4 (push_few bus count counts _ _) (more _ _ _ 2 2 (push_few bus count counts _ _) (push_few bus count counts m _))

put_few : {S : Type 0} (bus : BusMeaning S) (count : S → ℕ) → Counts bus count → (m : Machine S) (l : OperandLocation) (value : ℕ)
    → count (with_value_at bus m l value).bus ≤ count m.bus + 2
unfolding with_value_at
put_few bus count counts m locations.Nothing value = none (count m.bus) 2
put_few bus count counts m (locations.Byte _) value = none (count m.bus) 2
put_few bus count counts m (locations.Word _) value = none (count m.bus) 2
put_few bus count counts m (locations.Segment _) value = none (count m.bus) 2
put_few bus count counts m (locations.ByteAt _ _) value = one_less _ _ (counts.write _ _ _)
put_few bus count counts m (locations.WordAt segment offset) value = word_few bus count counts m.bus segment offset value
put_few bus count counts m (locations.Number _) value = none (count m.bus) 2

-- each operation

arithmetic_few : {S : Type 0} (bus : BusMeaning S) (count : S → ℕ) → Counts bus count → (m : Machine S) (op : Arithmetic) (i : Instr)
    → count (after_arithmetic bus m op i).bus ≤ count m.bus + 6
unfolding after_arithmetic
arithmetic_few bus count counts m Cmp i = none (count m.bus) 6
arithmetic_few bus count counts m Test i = none (count m.bus) 6
arithmetic_few bus count counts m op i = two_are_few _ _ (put_few bus count counts _ _ _)

unary_few : {S : Type 0} (bus : BusMeaning S) (count : S → ℕ) → Counts bus count → (m : Machine S) (op : Unary) (i : Instr)
    → count (after_unary bus m op i).bus ≤ count m.bus + 6
unfolding after_unary
unary_few bus count counts m op i = two_are_few _ _ (put_few bus count counts _ _ _)

shift_few : {S : Type 0} (bus : BusMeaning S) (count : S → ℕ) → Counts bus count → (m : Machine S) (op : Shift) (i : Instr)
    → count (after_shift bus m op i).bus ≤ count m.bus + 6
unfolding after_shift
shift_few bus count counts m op i = two_are_few _ _ (put_few bus count counts _ _ _)

division_few : {S : Type 0} (bus : BusMeaning S) (count : S → ℕ) → Counts bus count → (m : Machine S) (width : Width) (d : Option Division)
    → count (after_division bus m width d).bus ≤ count m.bus + 6
unfolding after_division
division_few bus count counts m width None = entry_few bus count counts m 0
division_few bus count counts m width (Some d) = none (count m.bus) 6

product_few : {S : Type 0} (bus : BusMeaning S) (count : S → ℕ) → Counts bus count → (m : Machine S) (op : Product) (i : Instr)
    → count (after_product bus m op i).bus ≤ count m.bus + 6
unfolding after_product product.after_operation
product_few bus count counts m Mul i = none (count m.bus) 6
product_few bus count counts m Imul i = none (count m.bus) 6
product_few bus count counts m Div i = division_few bus count counts m _ _
product_few bus count counts m Idiv i = division_few bus count counts m _ _

movs_few : {S : Type 0} (bus : BusMeaning S) (count : S → ℕ) → Counts bus count → (m : Machine S) (width : Width) (from : SegmentRegister)
    → count (after_movs bus m width from).bus ≤ count m.bus + 6
unfolding after_movs
movs_few bus count counts m width from = two_are_few _ _ (put_few bus count counts m _ _)

stos_few : {S : Type 0} (bus : BusMeaning S) (count : S → ℕ) → Counts bus count → (m : Machine S) (width : Width)
    → count (after_stos bus m width).bus ≤ count m.bus + 6
unfolding after_stos
stos_few bus count counts m width = two_are_few _ _ (put_few bus count counts m _ _)

lods_few : {S : Type 0} (bus : BusMeaning S) (count : S → ℕ) → Counts bus count → (m : Machine S) (width : Width) (from : SegmentRegister)
    → count (after_lods bus m width from).bus ≤ count m.bus + 6
unfolding after_lods
lods_few bus count counts m width from = two_are_few _ _ (put_few bus count counts m _ _)

element_few : {S : Type 0} (bus : BusMeaning S) (count : S → ℕ) → Counts bus count → (m : Machine S) (op : Strings) (from : SegmentRegister)
    → count (after_element bus m op from).bus ≤ count m.bus + 6
unfolding after_element after_cmps after_scas
element_few bus count counts m Movsb from = movs_few bus count counts m Byte from
element_few bus count counts m Movsw from = movs_few bus count counts m Word from
element_few bus count counts m Cmpsb from = none (count m.bus) 6
element_few bus count counts m Cmpsw from = none (count m.bus) 6
element_few bus count counts m Stosb from = stos_few bus count counts m Byte
element_few bus count counts m Stosw from = stos_few bus count counts m Word
element_few bus count counts m Lodsb from = lods_few bus count counts m Byte from
element_few bus count counts m Lodsw from = lods_few bus count counts m Word from
element_few bus count counts m Scasb from = none (count m.bus) 6
element_few bus count counts m Scasw from = none (count m.bus) 6

pointer_few : {S : Type 0} (bus : BusMeaning S) (count : S → ℕ) → Counts bus count → (m : Machine S) (segment : SegmentRegister) (i : Instr)
    → count (after_pointer_load bus m segment i).bus ≤ count m.bus + 6
unfolding after_pointer_load
pointer_few bus count counts m segment i = four_are_few _ _ (more _ _ _ 2 2 (put_few bus count counts _ _ _) (put_few bus count counts m _ _))

xchg_few : {S : Type 0} (bus : BusMeaning S) (count : S → ℕ) → Counts bus count → (m : Machine S) (i : Instr) → count (after_xchg bus m i).bus ≤ count m.bus + 6
unfolding after_xchg
xchg_few bus count counts m i = four_are_few _ _ (more _ _ _ 2 2 (put_few bus count counts _ _ _) (put_few bus count counts m _ _))

input_few : {S : Type 0} (bus : BusMeaning S) (count : S → ℕ) → Counts bus count → (m : Machine S) (port : ℕ) (both : Bool)
    → count (if both then after_word_input bus m port else after_byte_input bus m port).bus ≤ count m.bus + 6
unfolding after_word_input after_byte_input
input_few bus count counts m port true = two_are_few _ _ (more _ _ _ 1 1 (counts.input _ _) (counts.input _ _))
input_few bus count counts m port false = one_is_few _ _ (counts.input _ _)

output_few : {S : Type 0} (bus : BusMeaning S) (count : S → ℕ) → Counts bus count → (s : S) (port ax : ℕ) (both : Bool)
    → count (after_port_writes bus.after_output s (outputs_at port ax both)) ≤ count s + 6
output_few bus count counts s port ax true = two_are_few _ _ (more _ _ _ 1 1 (counts.output _ _ _) (counts.output _ _ _))
output_few bus count counts s port ax false = one_is_few _ _ (counts.output _ _ _)

transfer_few : {S : Type 0} (bus : BusMeaning S) (count : S → ℕ) → Counts bus count → (m : Machine S) (op : Transfer) (i : Instr)
    → count (after_transfer bus m op i).bus ≤ count m.bus + 6
unfolding after_transfer after_mov after_lea after_push_operand after_pop_operand after_pop after_popf after_xlat after_in after_out outputs_of
transfer_few bus count counts m Mov i = two_are_few _ _ (put_few bus count counts _ _ _)
transfer_few bus count counts m Xchg i = xchg_few bus count counts m i
transfer_few bus count counts m Lea i = two_are_few _ _ (put_few bus count counts _ _ _)
transfer_few bus count counts m Les i = pointer_few bus count counts m _ i
transfer_few bus count counts m Lds i = pointer_few bus count counts m _ i
transfer_few bus count counts m Push i = two_are_few _ _ (push_few bus count counts m _)
transfer_few bus count counts m Pop i = two_are_few _ _ (put_few bus count counts _ _ _)
transfer_few bus count counts m Pushf i = two_are_few _ _ (push_few bus count counts m _)
transfer_few bus count counts m Popf i = none (count m.bus) 6
transfer_few bus count counts m Sahf i = none (count m.bus) 6
transfer_few bus count counts m Lahf i = none (count m.bus) 6
transfer_few bus count counts m Xlat i = none (count m.bus) 6
transfer_few bus count counts m In i =
    input_few bus count counts m (port_of (second_of i.form.row) m.registers.dx i.values.number) (is_ax (first_of i.form.row))
transfer_few bus count counts m Out i = output_few bus count counts m.bus _ _ _

into_few : {S : Type 0} (bus : BusMeaning S) (count : S → ℕ) → Counts bus count → (m : Machine S) (taken : Bool)
    → count (if taken then after_entry bus m 4 else m).bus ≤ count m.bus + 6
into_few bus count counts m true = entry_few bus count counts m 4
into_few bus count counts m false = none (count m.bus) 6

control_few : {S : Type 0} (bus : BusMeaning S) (count : S → ℕ) → Counts bus count → (m : Machine S) (op : Control) (i : Instr)
    → count (after_control bus m op i).bus ≤ count m.bus + 6
unfolding after_control after_call after_return after_interrupt_return after_far_pop after_ip_pop after_pop
control_few bus count counts m Jmp i = none (count m.bus) 6
control_few bus count counts m Call i = two_are_few _ _ (push_few bus count counts m _)
control_few bus count counts m Ret i = none (count m.bus) 6
control_few bus count counts m JmpFar i = none (count m.bus) 6
control_few bus count counts m CallFar i = four_are_few _ _ (more _ _ _ 2 2 (push_few bus count counts _ _) (push_few bus count counts m _))
control_few bus count counts m Retf i = none (count m.bus) 6
control_few bus count counts m Int3 i = entry_few bus count counts m 3
control_few bus count counts m Int i = entry_few bus count counts m _
control_few bus count counts m Into i = into_few bus count counts m m.registers.flags.overflow
control_few bus count counts m Iret i = none (count m.bus) 6

operation_few : {S : Type 0} (bus : BusMeaning S) (count : S → ℕ) → Counts bus count → (m : Machine S) (op : Operation) (i : Instr)
    → count (after_operation bus m op i).bus ≤ count m.bus + 6
unfolding after_operation
operation_few bus count counts m (operations.Arithmetic op) i = arithmetic_few bus count counts m op i
operation_few bus count counts m (operations.Shift op) i = shift_few bus count counts m op i
operation_few bus count counts m (operations.Product op) i = product_few bus count counts m op i
operation_few bus count counts m (operations.Unary op) i = unary_few bus count counts m op i
operation_few bus count counts m (operations.Jump _) i = none (count m.bus) 6
operation_few bus count counts m (operations.Looping _) i = none (count m.bus) 6
operation_few bus count counts m (operations.Strings op) i = element_few bus count counts m op (source_segment i)
operation_few bus count counts m (operations.Adjust _) i = none (count m.bus) 6
operation_few bus count counts m (operations.Transfer op) i = transfer_few bus count counts m op i
operation_few bus count counts m (operations.Control op) i = control_few bus count counts m op i
operation_few bus count counts m (operations.Processor _) i = none (count m.bus) 6

-- a step

whole_few : {S : Type 0} (bus : BusMeaning S) (count : S → ℕ) → Counts bus count → (table : ClockTable) (p : CpuState) (s : S) (op : Operation) (i : Instr)
    → count (after_whole bus table p s op i).bus ≤ count s + 6
unfolding after_whole
whole_few bus count counts table p s op i = operation_few bus count counts (machine p.registers s) op i

iterating_few : {S : Type 0} (bus : BusMeaning S) (count : S → ℕ) → Counts bus count
    → (p : CpuState) (s : S) (r : Repeating) (clocks : ℕ) → count (after_iterating bus p s r clocks).bus ≤ count s + 6
unfolding after_iterating after_iteration
iterating_few bus count counts p s r clocks = element_few bus count counts (machine p.registers s) r.operation r.segment

if_few : {S : Type 0} (count : S → ℕ) (n : ℕ) (b : Bool) (x y : StepResult S) → count x.bus ≤ n → count y.bus ≤ n → count (if b then x else y).bus ≤ n
if_few count n true x y first second = first
if_few count n false x y first second = second

repeat_few : {S : Type 0} (bus : BusMeaning S) (count : S → ℕ) → Counts bus count → (table : ClockTable) (p : CpuState) (s : S) (op : Strings) (i : Instr)
    → count (after_repeat bus table p s op i).bus ≤ count s + 6
unfolding after_repeat
repeat_few bus count counts table p s op i =
    if_few count _ (p.registers.cx == 0) _ _ (none (count s) 6)
    (iterating_few bus count counts p s (repeating_of table op i) (clocks_in table i (iteration_outcome true false)))

begun_few : {S : Type 0} (bus : BusMeaning S) (count : S → ℕ) → Counts bus count → (table : ClockTable) (p : CpuState) (s : S) (op : Operation) (i : Instr)
    → count (after_begun bus table p s op i).bus ≤ count s + 6
begun_few bus count counts table p s (operations.Strings op) i =
    if_few count _ (is_repeated i) _ _ (repeat_few bus count counts table p s op i) (whole_few bus count counts table p s (operations.Strings op) i)
begun_few bus count counts table p s op i = whole_few bus count counts table p s op i

step_few : {S : Type 0} (bus : BusMeaning S) (count : S → ℕ) → Counts bus count → (table : ClockTable) (p : CpuState) (s : S) (decoded : Decoded)
    → count (after_step bus table p s decoded).bus ≤ count s + 6
unfolding after_step after_found
step_few bus count counts table p s NoRow = none (count s) 6
step_few bus count counts table p s (Found i size) = begun_few bus count counts table (after_fetch p size) s (operation_of i.form.row) i

again_of_few : {S : Type 0} (bus : BusMeaning S) (count : S → ℕ) → Counts bus count
    → (p : CpuState) (s : S) (repeat : Option Repeating) → count (after_again_of bus p s repeat).bus ≤ count s + 6
again_of_few bus count counts p s None = none (count s) 6
again_of_few bus count counts p s (Some r) = iterating_few bus count counts (after_fetch p r.size) s r r.clocks

-- the bus that notes accesses has noted no more

one_more : (accesses : List Access) (a : Access) → length (accesses ++ a ∷ []) ≤ length accesses + 1
one_more [] a = omega arith
one_more (x ∷ accesses) a = let rest = one_more accesses a in omega (arith, rest)

abbrev noted_count : {S : Type 0} → Noted S → ℕ
noted_count n = length n.accesses

counts_noted : {S : Type 0} (bus : BusMeaning S) → Counts (noting bus) noted_count
counts_noted bus = record {
  write = λ n address byte. one_more n.accesses _;
  input = λ n port. one_more n.accesses _;
  output = λ n port byte. one_more n.accesses _;
}

pub makes_few : {S : Type 0} (bus : BusMeaning S) → MakesFewAccesses bus
unfolding after_again after_enter
makes_few bus = record {
  step = λ table p s decoded. step_few (noting bus) noted_count (counts_noted bus) table p (unnoted s) decoded;
  again = λ p s. again_of_few (noting bus) noted_count (counts_noted bus) p (unnoted s) p.repeat;
  enter = λ table p s kind cause. entry_few (noting bus) noted_count (counts_noted bus) (machine p.registers (unnoted s)) kind;
}
