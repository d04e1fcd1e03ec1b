-- CS:IP after a step is where the instruction is told to lead.
use Rattle.std.proofs.Common.{◌≡◌, ℕ, ◌-◌, ◌%◌, ◌==◌, Bool, true, false, if◌then◌else◌, refl, ap, subst}
use Rattle.std.specs.List.{list_all}
use Rattle.board_types.specs.Address.{offset_after}
use Rattle.board_types.specs.declared.choice.ClockTable.{ClockTable}
use Rattle.bus.specs.Bus.{BusMeaning}
use Rattle.digest.specs.Operands.{operand_of, word_by_place}
use Rattle.forms.proofs.Places.{Place as PlaceAt, place_of, row_excludes, spares_place}
use Rattle.forms.proofs.Spared.{SparesTold, adjust_spares, arithmetic_leaves, divided_spares, element_spares, isnt, product_spares}
use Rattle.forms.proofs.Spared.{shift_spares, transfer_spares, unary_spares}
use Rattle.execute_arith.specs.ArithmeticMeaning.{after_adjust, after_arithmetic, after_unary}
use Rattle.execute_arith.specs.Shifts.{after_shift}
use Rattle.execute_transfer.specs.TransferMeaning.{after_transfer}
use Rattle.execute_arith.specs.Products.{after_division, after_product, has_fault, has_no_quotient, with_division}
use Rattle.execute_arith.specs.Products as product
use Rattle.execute_arith.specs.declared.numbers.Division.{Division}
use Rattle.execute_machine.specs.declared.location.OperandLocation.{OperandLocation}
use Rattle.execute_machine.specs.declared.width.Width.TheVariants.{Byte as ByteWidth}
use Rattle.execute_meaning.specs.AccessCounts.{outcome_in}
use Rattle.isa.specs.declared.operation.JumpCondition.{JumpCondition}
use Rattle.isa.specs.declared.operation.Processor.{Processor as ProcessorType}
use Rattle.isa.specs.declared.operation.Processor.TheVariants.{Hlt}
use Rattle.board_types.specs.declared.state.State.{State}
use Rattle.std.proofs.Common.{Option, Some, None, ◌||◌, inl, inr}
use Rattle.std.specs.Prelude.{is_none}
use Rattle.forms.specs.Flow.{far_by, flow_by, flow_of, near_by, target_by, target_of}
use Rattle.forms.specs.declared.flow.Flow.{Flow}
use Rattle.forms.specs.declared.flow.Flow.TheVariants as flows
use Rattle.forms.specs.declared.flow.Target.TheVariants as targets
use Rattle.execute_control.specs.ControlMeaning.{after_flag_operation}
use Rattle.execute_control.specs.ControlMeaning.{after_call, after_control, after_far_pop, after_interrupt_return, after_ip_pop, after_jump, after_looping}
use Rattle.execute_control.specs.ControlMeaning.{near_target, number_at, is_relative, relative_target}
use Rattle.execute_control.specs.ControlMeaning.{after_return, cx_after, holds, is_loop_taken, with_target}
use Rattle.execute_machine.specs.FlagState.{FlagState}
use Rattle.execute_machine.specs.Locations.{Machine, far_segment, location_of, machine, operand_at, value_at, width_at}
use Rattle.execute_machine.specs.RegisterFile.{Registers}
use Rattle.execute_machine.specs.Stack.{top_word, after_entry, after_pop, after_push, after_vector}
use Rattle.execute_meaning.specs.Cpu.{CpuState}
use Rattle.execute_meaning.specs.Meaning.{StepResult, after_begun, after_fetch, after_found, after_iterating, after_operation, after_repeat, after_step}
use Rattle.execute_meaning.specs.Meaning.{after_whole}
use Rattle.execute_meaning.specs.Meaning.{is_taken, lacks_quotient, outcome_of, state_after, size_from_last_prefix, iteration_outcome, repeating_of}
use Rattle.execute_meaning.specs.Meaning.{step_result, with_end, with_repeat}
use Rattle.execute_meaning.specs.declared.shadow.Shadow.TheVariants.{Nothing}
use Rattle.execute_strings.specs.StringMeaning.{after_element, after_iteration, source_segment}
use Rattle.isa.proofs.Rows.{each}
use Rattle.isa.specs.Clocks.{is_repeated}
use Rattle.isa.specs.Encoding.{IsInstr}
use Rattle.isa.specs.Row.{first_of, operation_of, second_of}
use Rattle.isa.specs.Table.{rows}
use Rattle.isa.specs.WordCounts.{clocks_in}
use Rattle.isa.specs.declared.form.Instr.{Instr}
use Rattle.isa.specs.declared.form.Place.{Place}
use Rattle.isa.specs.declared.form.Place.TheVariants as places
use Rattle.isa.specs.declared.operation.Control.{Control as ControlType}
use Rattle.isa.specs.declared.operation.Control.TheVariants.{Jmp, Call, Ret, JmpFar, CallFar, Retf, Int3, Int, Into, Iret}
use Rattle.isa.specs.declared.operation.Looping.{Looping as LoopingType}
use Rattle.isa.specs.declared.operation.Operation.{Operation}
use Rattle.isa.specs.declared.operation.Operation.TheVariants.{Arithmetic, Shift, Product, Unary, Jump, Looping, Strings, Adjust, Transfer, Control, Processor}
use Rattle.isa.specs.declared.operation.Product.{Product as ProductType}
use Rattle.isa.specs.declared.operation.Product.TheVariants.{Mul, Imul, Div, Idiv}
use Rattle.isa.specs.declared.operation.Strings.{Strings as StringsType}
use Rattle.isa.specs.declared.row.Kind.{Kind}
use Rattle.isa.specs.declared.row.Kind.TheVariants as kinds
use Rattle.isa.specs.declared.row.Row.{Row}
use Rattle.forms.proofs.Others.{keeps_to, row_keeps}
use Rattle.forms.specs.FormLaws.{FlowIsTold, GoesAgain, GoesOn, GoesTo, IfElse, Leads, goes_off, is_far, state_by}

-- where a whole instruction leads
abbrev LeadsBy : {S : Type 0} → BusMeaning S → Instr → Operation → Bool → Machine S → Machine S → Type 0
LeadsBy bus i op off m done =
    Leads (flow_by op false) off (GoesOn m.registers done.registers)
    (GoesTo bus m.bus done.bus i (is_far op) (location_of m.registers i (first_of i.form.row)) (target_by i op) m.registers done.registers)
    (GoesAgain i m.registers done.registers)

goes_on_by : (r q : Registers) → place_of q ≡ place_of r → GoesOn r q
goes_on_by r q same = (ap (λ (x : PlaceAt). x.cs) same, ap (λ (x : PlaceAt). x.ip) same)

-- relative targets, and near ones in a register or in memory

abbrev pub is_near : Kind → Bool
is_near kinds.Rel8 = true
is_near kinds.Rel16 = true
is_near kinds.Rm16 = true
is_near kind = false

near_word : {S : Type 0} (bus : BusMeaning S) (m : Machine S) (t : S) (i : Instr) (location : OperandLocation) (place : Place) (sp : ℕ)
    → GoesTo bus m.bus t i false location (near_by (word_by_place place)) m.registers (record m.registers { sp = sp; ip = value_at bus m location })
near_word bus m t i location (places.Register number) sp = (refl, refl)
near_word bus m t i location place sp = (refl, refl)

near_goes : {S : Type 0} (bus : BusMeaning S) (m : Machine S) (t : S) (i : Instr) (sp : ℕ) (kind : Kind) → is_near kind ≡ true
    → GoesTo bus m.bus t i false (location_of m.registers i kind) (near_by (operand_of i kind)) m.registers
    (record m.registers {
      sp = sp;
      ip =
          if is_relative kind then offset_after m.registers.ip (number_at (location_of m.registers i kind))
          else value_at bus m (location_of m.registers i kind);
    })
unfolding location_of
near_goes bus m t i sp kinds.Rel8 is = (refl, refl)
near_goes bus m t i sp kinds.Rel16 is = (refl, refl)
near_goes bus m t i sp kinds.Rm16 is = near_word bus m t i (location_of m.registers i kinds.Rm16) i.form.place sp
near_goes bus m t i sp kind is = let none : false ≡ true = is in absurd (cc)

-- a jump with a condition has a relative target
abbrev pub is_short : Kind → Bool
is_short kinds.Rel8 = true
is_short kind = false

jump_goes : {S : Type 0} (bus : BusMeaning S) (m : Machine S) (t : S) (i : Instr) (cx : ℕ) (taken : Bool) (kind : Kind) → is_short kind ≡ true
    → IfElse (taken || false)
    (GoesTo bus m.bus t i false (location_of m.registers i kind) (near_by (operand_of i kind)) m.registers
    (with_target (record m.registers { cx = cx }) taken (offset_after m.registers.ip (number_at (location_of m.registers i kind)))))
    (GoesOn m.registers
    (with_target (record m.registers { cx = cx }) taken (offset_after m.registers.ip (number_at (location_of m.registers i kind)))))
unfolding location_of
jump_goes bus m t i cx true kinds.Rel8 is = (refl, refl)
jump_goes bus m t i cx false kinds.Rel8 is = (refl, refl)
jump_goes bus m t i cx taken kind is = let none : false ≡ true = is in absurd (cc)

jumps : {S : Type 0} (bus : BusMeaning S) (m : Machine S) (condition : JumpCondition) (i : Instr) → is_short (first_of i.form.row) ≡ true
    → LeadsBy bus i (Jump condition) (goes_off (outcome_of bus m (Jump condition) i)) m (machine (after_jump m.registers condition i) m.bus)
unfolding after_jump relative_target is_taken lacks_quotient
jumps bus m condition i is = jump_goes bus m m.bus i m.registers.cx (holds condition m.registers.flags) (first_of i.form.row) is

loops : {S : Type 0} (bus : BusMeaning S) (m : Machine S) (op : LoopingType) (i : Instr) → is_short (first_of i.form.row) ≡ true
    → LeadsBy bus i (Looping op) (goes_off (outcome_of bus m (Looping op) i)) m (machine (after_looping m.registers op i) m.bus)
unfolding after_looping relative_target is_taken lacks_quotient
loops bus m op i is = jump_goes bus m m.bus i (cx_after m.registers op) (is_loop_taken m.registers op) (first_of i.form.row) is

-- far targets

abbrev pub is_far_kind : Kind → Bool
is_far_kind kinds.Far = true
is_far_kind kinds.Memory = true
is_far_kind kind = false

far_word : {S : Type 0} (bus : BusMeaning S) (m : Machine S) (t : S) (i : Instr) (location : OperandLocation) (place : Place) (sp segment : ℕ)
    → GoesTo bus m.bus t i true location (far_by (word_by_place place) segment) m.registers
    (record m.registers { sp = sp; cs = far_segment bus m.bus location i; ip = value_at bus m location })
far_word bus m t i location (places.Register number) sp segment = (refl, refl)
far_word bus m t i location place sp segment = (refl, refl)

far_goes : {S : Type 0} (bus : BusMeaning S) (m : Machine S) (t : S) (i : Instr) (sp : ℕ) (kind : Kind) → is_far_kind kind ≡ true
    → GoesTo bus m.bus t i true (location_of m.registers i kind) (far_by (operand_of i kind) i.values.segment) m.registers
    (record m.registers {
      sp = sp;
      cs = far_segment bus m.bus (location_of m.registers i kind) i;
      ip = value_at bus m (location_of m.registers i kind);
    })
unfolding location_of value_at far_segment
far_goes bus m t i sp kinds.Far is = (refl, refl)
far_goes bus m t i sp kinds.Memory is = far_word bus m t i (location_of m.registers i kinds.Memory) i.form.place sp i.values.segment
far_goes bus m t i sp kind is = let none : false ≡ true = is in absurd (cc)

-- interrupts

abbrev pub is_kind_byte : Kind → Bool
is_kind_byte kinds.Imm8 = true
is_kind_byte kind = false

byte_kind : {S : Type 0} (bus : BusMeaning S) (m : Machine S) (i : Instr) (kind : Kind) → is_kind_byte kind ≡ true
    → operand_at bus m (location_of m.registers i kind) ByteWidth ≡ i.values.number % 256
unfolding location_of value_at
byte_kind bus m i kinds.Imm8 is = refl
byte_kind bus m i kind is = let none : false ≡ true = is in absurd (cc)

enters : {S : Type 0} (bus : BusMeaning S) (m : Machine S) (i : Instr) (far : Bool) (place : OperandLocation) (kind : ℕ)
    → GoesTo bus m.bus (after_entry bus m kind).bus i far place (targets.Vector kind) m.registers (after_entry bus m kind).registers
unfolding after_entry after_vector
enters bus m i far place kind = (refl, refl)

enters_told : {S : Type 0} (bus : BusMeaning S) (m : Machine S) (i : Instr) (far : Bool) (place : OperandLocation) (kind told : ℕ) → kind ≡ told
    → GoesTo bus m.bus (after_entry bus m kind).bus i far place (targets.Vector told) m.registers (after_entry bus m kind).registers
enters_told {S} bus m i far place kind told is =
    subst (λ n. GoesTo bus m.bus (after_entry bus m kind).bus i far place (targets.Vector n) m.registers (after_entry bus m kind).registers) is
    (enters bus m i far place kind)

into_goes : {S : Type 0} (bus : BusMeaning S) (m : Machine S) (i : Instr) (place : OperandLocation) (taken : Bool)
    → IfElse (taken || false)
    (GoesTo bus m.bus (if taken then after_entry bus m 4 else m).bus i false place (targets.Vector 4) m.registers
    (if taken then after_entry bus m 4 else m).registers)
    (GoesOn m.registers (if taken then after_entry bus m 4 else m).registers)
into_goes bus m i place true = enters bus m i false place 4
into_goes bus m i place false = (refl, refl)

division_goes : {S : Type 0} (bus : BusMeaning S) (m : Machine S) (i : Instr) (op : ProductType) → SparesTold place_of i (Product op) → (d : Option Division)
    → IfElse (false || is_none d)
    (GoesTo bus m.bus (after_division bus m (width_at (location_of m.registers i (first_of i.form.row))) d).bus i false
    (location_of m.registers i (first_of i.form.row)) (targets.Vector 0) m.registers
    (after_division bus m (width_at (location_of m.registers i (first_of i.form.row))) d).registers)
    (GoesOn m.registers (after_division bus m (width_at (location_of m.registers i (first_of i.form.row))) d).registers)
unfolding after_division
division_goes bus m i op spares None = enters bus m i false (location_of m.registers i (first_of i.form.row)) 0
division_goes bus m i op spares (Some d) = goes_on_by m.registers (with_division m.registers (width_at (location_of m.registers i (first_of i.form.row))) d)
    (divided_spares place_of i op spares m.registers d)

product_goes : {S : Type 0} (bus : BusMeaning S) (m : Machine S) (op : ProductType) (i : Instr) → SparesTold place_of i (Product op)
    → LeadsBy bus i (Product op) (goes_off (outcome_of bus m (Product op) i)) m (after_product bus m op i)
unfolding is_taken lacks_quotient has_fault has_no_quotient after_product product.after_operation
product_goes bus m Mul i spares =
    goes_on_by m.registers (after_product bus m Mul i).registers
    (product_spares place_of bus m Mul i spares (λ is. let none : false ≡ true = is in absurd (cc)))
product_goes bus m Imul i spares =
    goes_on_by m.registers (after_product bus m Imul i).registers
    (product_spares place_of bus m Imul i spares (λ is. let none : false ≡ true = is in absurd (cc)))
product_goes bus m Div i spares = division_goes bus m i Div spares _
product_goes bus m Idiv i spares = division_goes bus m i Idiv spares _

-- the operands of jumps, calls and returns
abbrev pub is_leading : Operation → Kind → Bool
is_leading (Jump condition) kind = is_short kind
is_leading (Looping op) kind = is_short kind
is_leading (Control Jmp) kind = is_near kind
is_leading (Control Call) kind = is_near kind
is_leading (Control JmpFar) kind = is_far_kind kind
is_leading (Control CallFar) kind = is_far_kind kind
is_leading (Control Int) kind = is_kind_byte kind
is_leading op kind = true

all_lead : list_all (λ (row : Row). is_leading row.operation row.first) rows ≡ true
unfolding rows
all_lead = refl

row_leads : (i : Instr) → IsInstr i → is_leading (operation_of i.form.row) (first_of i.form.row) ≡ true
row_leads i of_table = each (λ (row : Row). is_leading row.operation row.first) rows i.form.row all_lead of_table.form.row

opens_returns : Unit {0}
unfolding after_return after_interrupt_return after_far_pop after_ip_pop after_pop after_push top_word
opens_returns = tt

control_goes : {S : Type 0} (bus : BusMeaning S) (m : Machine S) (op : ControlType) (i : Instr) → is_leading (Control op) (first_of i.form.row) ≡ true
    → LeadsBy bus i (Control op) (goes_off (outcome_of bus m (Control op) i)) m (after_control bus m op i)
unfolding after_control after_call opens_returns near_target relative_target is_taken lacks_quotient
control_goes bus m Jmp i leads = near_goes bus m m.bus i m.registers.sp (first_of i.form.row) leads
control_goes bus m Call i leads = near_goes bus m _ i _ (first_of i.form.row) leads
control_goes bus m Ret i leads = (refl, refl)
control_goes bus m JmpFar i leads = far_goes bus m m.bus i m.registers.sp (first_of i.form.row) leads
control_goes bus m CallFar i leads = far_goes bus m _ i _ (first_of i.form.row) leads
control_goes bus m Retf i leads = (refl, refl)
control_goes bus m Int3 i leads = enters bus m i false (location_of m.registers i (first_of i.form.row)) 3
control_goes bus m Int i leads =
    enters_told bus m i false (location_of m.registers i (first_of i.form.row)) _ (i.values.number % 256) (byte_kind bus m i (first_of i.form.row) leads)
control_goes bus m Into i leads = into_goes bus m i (location_of m.registers i (first_of i.form.row)) m.registers.flags.overflow
control_goes bus m Iret i leads = (refl, refl)

processor_goes : {S : Type 0} (bus : BusMeaning S) (m : Machine S) (op : ProcessorType) (i : Instr) (off : Bool) (f : FlagState)
    → LeadsBy bus i (Processor op) off m (machine (record m.registers { flags = f }) m.bus)
processor_goes bus m Hlt i off f = (refl, refl)
processor_goes bus m op i off f = (refl, refl)

operation_goes : {S : Type 0} (bus : BusMeaning S) (m : Machine S) (op : Operation) (i : Instr)
    → keeps_to op (first_of i.form.row) (second_of i.form.row) ≡ true → is_leading op (first_of i.form.row) ≡ true → SparesTold place_of i op
    → LeadsBy bus i op (goes_off (outcome_of bus m op i)) m (after_operation bus m op i)
unfolding after_operation
operation_goes bus m (Arithmetic op) i keeps leads spares =
    goes_on_by m.registers (after_arithmetic bus m op i).registers
    (arithmetic_leaves place_of bus m op i spares (λ r sp. refl) (isnt _ keeps))
operation_goes bus m (Shift op) i keeps leads spares =
    goes_on_by m.registers (after_shift bus m op i).registers
    (shift_spares place_of bus m op i spares (isnt _ keeps))
operation_goes bus m (Product op) i keeps leads spares = product_goes bus m op i spares
operation_goes bus m (Unary op) i keeps leads spares =
    goes_on_by m.registers (after_unary bus m op i).registers
    (unary_spares place_of bus m op i spares (isnt _ keeps))
operation_goes bus m (Jump op) i keeps leads spares = jumps bus m op i leads
operation_goes bus m (Looping op) i keeps leads spares = loops bus m op i leads
operation_goes bus m (Strings op) i keeps leads spares =
    goes_on_by m.registers (after_element bus m op (source_segment i)).registers
    (element_spares place_of bus m op (source_segment i) i spares)
operation_goes bus m (Adjust op) i keeps leads spares =
    goes_on_by m.registers (after_adjust m.registers op)
    (adjust_spares place_of m.registers op i spares)
operation_goes bus m (Transfer op) i keeps leads spares =
    goes_on_by m.registers (after_transfer bus m op i).registers
    (transfer_spares place_of bus m op i spares keeps)
operation_goes bus m (Control op) i keeps leads spares = control_goes bus m op i leads
operation_goes bus m (Processor op) i keeps leads spares = processor_goes bus m op i _ (after_flag_operation m.registers.flags op)

-- a step

record Led {S : Type 0} (bus : BusMeaning S) (i : Instr) (op : Operation) (flow : Flow) (off : Bool) (p : CpuState) (s : S) (done : StepResult S) : Type 0 where
  place : Leads flow off (GoesOn p.registers done.cpu.registers)
      (GoesTo bus s done.bus i (is_far op) (location_of p.registers i (first_of i.form.row)) (target_by i op) p.registers done.cpu.registers)
      (GoesAgain i p.registers done.cpu.registers)
  state : done.cpu.state ≡ state_by flow p.state

state_is : (op : Operation) (state : State) → state_after state op ≡ state_by (flow_by op false) state
state_is (Product Div) state = refl
state_is (Product op) state = refl
state_is (Control Jmp) state = refl
state_is (Control op) state = refl
state_is (Processor Hlt) state = refl
state_is (Processor op) state = refl
state_is op state = refl

abbrev is_string : Operation → Bool
is_string (Strings op) = true
is_string op = false

unrepeated : (op : Operation) (repeated : Bool) → is_string op ≡ false → flow_by op false ≡ flow_by op repeated
unrepeated (Strings op) repeated is = let none : true ≡ false = is in cc
unrepeated (Product Div) repeated is = refl
unrepeated (Product op) repeated is = refl
unrepeated (Control Jmp) repeated is = refl
unrepeated (Control op) repeated is = refl
unrepeated (Processor Hlt) repeated is = refl
unrepeated (Processor op) repeated is = refl
unrepeated op repeated is = refl

-- what an instruction keeps to, being one of the table
record Keeps (op : Operation) (i : Instr) : Type 0 where
  keeps : keeps_to op (first_of i.form.row) (second_of i.form.row) ≡ true
  leads : is_leading op (first_of i.form.row) ≡ true
  spares : SparesTold place_of i op

whole_led : {S : Type 0} (bus : BusMeaning S) (table : ClockTable) (p : CpuState) (s : S) (op : Operation) (i : Instr) → Keeps op i
    → Led bus i op (flow_by op false) (goes_off (outcome_of bus (machine p.registers s) op i)) p s (after_whole bus table p s op i)
unfolding after_whole
whole_led bus table p s op i keeps = record {
  place = operation_goes bus (machine p.registers s) op i keeps.keeps keeps.leads keeps.spares;
  state = state_is op p.state;
}

unrepeated_led : {S : Type 0} (bus : BusMeaning S) (table : ClockTable) (p : CpuState) (s : S) (op : Operation) (i : Instr) → Keeps op i
    → is_string op ≡ false
    → Led bus i op (flow_by op (is_repeated i)) (goes_off (outcome_of bus (machine p.registers s) op i)) p s (after_whole bus table p s op i)
unrepeated_led bus table p s op i keeps is =
    subst (λ flow. Led bus i op flow (goes_off (outcome_of bus (machine p.registers s) op i)) p s (after_whole bus table p s op i))
    (unrepeated op (is_repeated i) is) (whole_led bus table p s op i keeps)

-- an iteration of a repeat

iteration_leaves : {S : Type 0} (bus : BusMeaning S) (m : Machine S) (op : StringsType) (i : Instr) → SparesTold place_of i (Strings op)
    → place_of (after_iteration bus m op (source_segment i)).registers ≡ place_of m.registers
unfolding after_iteration
iteration_leaves bus m op i spares = element_spares place_of bus m op (source_segment i) i spares

iterated_led : {S : Type 0} (bus : BusMeaning S) (table : ClockTable) (p : CpuState) (s t : S) (op : StringsType) (i : Instr) (off : Bool) (clocks : ℕ)
    (r : Registers) (more : Bool) → place_of r ≡ place_of p.registers
    → Led bus i (Strings op) flows.Repeat off p s
    (step_result (if more then with_repeat p r (repeating_of table op i) else with_end p r p.state Nothing) t clocks)
iterated_led bus table p s t op i off clocks r true same = record {
  place =
      (ap (λ (x : PlaceAt). x.cs) same, inr (ap (λ (x : PlaceAt). offset_after x.ip (65536 - size_from_last_prefix i)) same));
  state = refl;
}
iterated_led bus table p s t op i off clocks r false same = record {
  place = (ap (λ (x : PlaceAt). x.cs) same, inl (ap (λ (x : PlaceAt). x.ip) same));
  state = refl;
}

iterating_led : {S : Type 0} (bus : BusMeaning S) (table : ClockTable) (p : CpuState) (s : S) (op : StringsType) (i : Instr) (off : Bool) (clocks : ℕ)
    → SparesTold place_of i (Strings op)
    → Led bus i (Strings op) flows.Repeat off p s (after_iterating bus p s (repeating_of table op i) clocks)
unfolding after_iterating
iterating_led bus table p s op i off clocks spares =
    iterated_led bus table p s _ op i off clocks (after_iteration bus (machine p.registers s) op (source_segment i)).registers _
    (iteration_leaves bus (machine p.registers s) op i spares)

begun_led : {S : Type 0} (bus : BusMeaning S) (table : ClockTable) (p : CpuState) (s : S) (op : Operation) (i : Instr) → Keeps op i
    → Led bus i op (flow_by op (is_repeated i)) (goes_off (outcome_in bus p s op i)) p s (after_begun bus table p s op i)
unfolding after_repeat
begun_led {S} bus table p s (Strings op) i keeps = by_repeat (is_repeated i)
  where
    by_empty : (off empty : Bool)
        → Led bus i (Strings op) flows.Repeat off p s
        (if empty then step_result (with_end p p.registers p.state Nothing) s (clocks_in table i (iteration_outcome true true))
        else after_iterating bus p s (repeating_of table op i) (clocks_in table i (iteration_outcome true false)))
    by_empty off true = record { place = (refl, inl refl); state = refl }
    by_empty off false = iterating_led bus table p s op i off _ keeps.spares

    by_repeat : (repeated : Bool)
        → Led bus i (Strings op) (flow_by (Strings op) repeated)
        (goes_off (if repeated then iteration_outcome true (p.registers.cx == 0) else outcome_of bus (machine p.registers s) (Strings op) i)) p s
        (if repeated then after_repeat bus table p s op i else after_whole bus table p s (Strings op) i)
    by_repeat true = by_empty _ (p.registers.cx == 0)
    by_repeat false = whole_led bus table p s (Strings op) i keeps
begun_led bus table p s (Arithmetic op) i keeps = unrepeated_led bus table p s (Arithmetic op) i keeps refl
begun_led bus table p s (Shift op) i keeps = unrepeated_led bus table p s (Shift op) i keeps refl
begun_led bus table p s (Product op) i keeps = unrepeated_led bus table p s (Product op) i keeps refl
begun_led bus table p s (Unary op) i keeps = unrepeated_led bus table p s (Unary op) i keeps refl
begun_led bus table p s (Jump op) i keeps = unrepeated_led bus table p s (Jump op) i keeps refl
begun_led bus table p s (Looping op) i keeps = unrepeated_led bus table p s (Looping op) i keeps refl
begun_led bus table p s (Adjust op) i keeps = unrepeated_led bus table p s (Adjust op) i keeps refl
begun_led bus table p s (Transfer op) i keeps = unrepeated_led bus table p s (Transfer op) i keeps refl
begun_led bus table p s (Control op) i keeps = unrepeated_led bus table p s (Control op) i keeps refl
begun_led bus table p s (Processor op) i keeps = unrepeated_led bus table p s (Processor op) i keeps refl

pub flow_is_told : {S : Type 0} (bus : BusMeaning S) → FlowIsTold bus
unfolding after_step after_found flow_of target_of
flow_is_told bus table p s i size of_table =
    let led = begun_led bus table (after_fetch p size) s (operation_of i.form.row) i (record {
      keeps = row_keeps i of_table;
      leads = row_leads i of_table;
      spares = spares_place i (operation_of i.form.row) of_table (row_excludes i of_table);
    }) in
    record { place = led.place; state = led.state }
