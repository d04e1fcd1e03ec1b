-- Each thing that is told of an instruction happens: the runs are computed for all rows at once.
use Rattle.std.proofs.Common.{◌≡◌, ◌≢◌, ℕ, ◌<◌, ◌≤◌, Bool, true, false, ◌&&◌, if◌then◌else◌, refl, arith, Contains, length}
use Rattle.std.specs.List.{list_all}
use Rattle.isa.proofs.Rows.{each}
use Rattle.isa.specs.declared.row.Row.{Row}
use Rattle.isa.specs.declared.form.Place.{Place}
use Rattle.isa.specs.declared.form.Place.TheVariants as places
use Rattle.isa.specs.declared.layout.CodePart.{CodePart}
use Rattle.isa.specs.declared.layout.CodePart.TheVariants as code_parts
use Rattle.isa.specs.declared.layout.Field.{Field}
use Rattle.isa.specs.declared.layout.Field.TheVariants as fields
use Rattle.isa.specs.declared.layout.PlacePart.{PlacePart}
use Rattle.isa.specs.declared.layout.PlacePart.TheVariants as place_parts
use Rattle.isa.specs.declared.layout.RegPart.{RegPart}
use Rattle.isa.specs.declared.layout.RegPart.TheVariants as reg_parts
use Rattle.isa.specs.declared.layout.Second.{Second}
use Rattle.isa.specs.declared.layout.Second.TheVariants as seconds
use Rattle.isa.specs.Encoding.{FitsCode, FitsField, FitsPlace, FitsReg, FitsSecond, IsInstr, displacement_field}
use Rattle.isa.specs.Layout.{code_part, field_part, second_part}
use Rattle.execute_meaning.specs.Meaning.{after_step, after_found, after_whole, after_repeat, after_iterating, after_operation, is_taken, lacks_quotient}
use Rattle.execute_arith.specs.ArithmeticMeaning.{after_arithmetic, with_flags_of, result_of, after_unary, unary_result_of, with_unary_flags_of, after_adjust}
use Rattle.execute_arith.specs.Shifts.{after_shift, after_shifts, with_shifted}
use Rattle.execute_arith.specs.Single.{after_single, after_left, after_right, after_right_rotation}
use Rattle.execute_arith.specs.Products.{after_product, has_fault, has_no_quotient, after_division, with_product, with_division}
use Rattle.execute_arith.specs.Numbers.{unsigned_product, signed_product, signed_value, unsigned_division, signed_division, signed_result}
use Rattle.execute_control.specs.ControlMeaning.{after_jump, after_looping, relative_target, near_target, after_call, after_ip_pop, after_far_pop, after_return}
use Rattle.execute_control.specs.ControlMeaning.{after_interrupt_return, after_control, after_flag_operation}
use Rattle.execute_transfer.specs.TransferMeaning.{after_mov, after_xchg, after_lea, after_pointer_load, after_push_operand, after_pop_operand, after_popf}
use Rattle.execute_transfer.specs.TransferMeaning.{after_xlat, after_byte_input, after_word_input, after_in, outputs_of, after_out, after_transfer}
use Rattle.execute_strings.specs.StringMeaning.{after_movs, after_cmps, after_stos, after_lods, after_scas, after_element, after_iteration, goes_on}
use Rattle.execute_machine.specs.Stack.{after_push, top_word, after_pop, after_entry_pushes, after_vector, after_entry}
use Rattle.execute_machine.specs.Sums.{with_sum, with_difference, with_logic}
use Rattle.execute_machine.specs.Flags.{popped_flags}
use Rattle.execute_machine.specs.Registers.{byte_register, with_byte_register, word_register, with_word_register, segment_register, with_segment_register}
use Rattle.execute_machine.specs.Locations.{place_offset, base_offset, location_of, far_segment, value_at, with_value_at}
use Rattle.bus.specs.Bus.{word_at, with_word_at}
use Rattle.board_types.specs.Iterate.{iterate}
use Rattle.isa.specs.Clocks.{clocks_of}
use Rattle.isa.specs.WordCounts.{clocks_in, data_words, whole_words}
use Rattle.isa.specs.Encoding.{form_length}
use Rattle.isa.specs.Table.{rows}
use Rattle.forms.specs.Changed.{alters_of, sets_segment, sets_word}
use Rattle.forms.specs.Flow.{flow_of}
use Rattle.forms.specs.StackMove.{move_of}
use Rattle.forms.specs.StepClocks.{clocks_told}
use Rattle.forms.specs.Starts.{run_from}
use Rattle.forms.specs.NoMore.{happens, loads_sp}
use Rattle.execute_arith.specs.Products as products
use Rattle.forms.specs.NoMore.{Names, NoMore, instance_of, with_bx, with_memory, with_repeat, with_sp, with_sp_in_reg}
use Rattle.forms.specs.NoMore.{code_for, displacement_for, number_for, place_for, place_in, prefixes_for, reg_for, reg_in, segment_for}

-- the instances are instructions of the table

record Fit (n : Names) : Type 0 where
  named : n.named < 8
  reg : n.reg < 8
  segment : n.segment < 4
  not_cs : n.segment ≢ 1

code_fits : (n : Names) → Fit n → (part : CodePart) → FitsCode part (code_for n part)
code_fits n fit code_parts.Fixed = refl
code_fits n fit code_parts.Register = fit.named
code_fits n fit code_parts.Segment = fit.segment
code_fits n fit code_parts.SegmentNotCs = (fit.segment, fit.not_cs)

reg_fits : (n : Names) → Fit n → (part : RegPart) → FitsReg part (reg_for n part)
reg_fits n fit (reg_parts.Digit digit) = refl
reg_fits n fit reg_parts.Register = fit.reg
reg_fits n fit reg_parts.Segment = fit.segment
reg_fits n fit reg_parts.SegmentNotCs = (fit.segment, fit.not_cs)

place_fits : (n : Names) → Fit n → (part : PlacePart) → FitsPlace part (place_for n part)
place_fits n fit place_parts.Any = by_memory n.in_memory
  where
    by_memory : (in_memory : Bool) → FitsPlace place_parts.Any (if in_memory then places.Direct else places.Register n.named)
    by_memory true = tt
    by_memory false = fit.named
place_fits n fit place_parts.Memory = tt

second_fits : (n : Names) → Fit n → (second : Second) → FitsSecond second (reg_in n second) (place_in n second)
second_fits n fit seconds.Absent = (refl, refl)
second_fits n fit (seconds.Exactly byte) = (refl, refl)
second_fits n fit (seconds.Addressing part named) = (reg_fits n fit part, place_fits n fit named)

displacement_fits : (n : Names) (second : Second)
    → FitsField (displacement_field (place_in n second)) (displacement_for (place_in n second)) 0
displacement_fits n seconds.Absent = (refl, refl)
displacement_fits n (seconds.Exactly byte) = (refl, refl)
displacement_fits n (seconds.Addressing part place_parts.Memory) = (omega arith, refl)
displacement_fits n (seconds.Addressing part place_parts.Any) = by_memory n.in_memory
  where
    place : Bool → Place
    place in_memory = if in_memory then places.Direct else places.Register n.named

    by_memory : (in_memory : Bool) → FitsField (displacement_field (place in_memory)) (displacement_for (place in_memory)) 0
    by_memory true = (omega arith, refl)
    by_memory false = (refl, refl)

number_fits : (field : Field) → FitsField field (number_for field) (segment_for field)
number_fits fields.Absent = (refl, refl)
number_fits fields.Byte = (omega arith, refl)
number_fits fields.Word = (omega arith, refl)
number_fits fields.Far = (omega arith, omega arith)

few_prefixes : (repeated : Bool) → length (prefixes_for repeated) ≤ 7
few_prefixes true = omega arith
few_prefixes false = omega arith

is_instr : (n : Names) → Fit n → (row : Row) → Contains rows row → IsInstr (instance_of n row)
is_instr n fit row within = record {
  few = few_prefixes n.repeated;
  form = record { row = within; code = code_fits n fit (code_part row); second = second_fits n fit (second_part row) };
  values = record { displacement = displacement_fits n (second_part row); number = number_fits (field_part row) };
}

-- what the runs are computed by, in groups: to open one of these words is to open all that its line names

opens_steps : Unit {0}
unfolding after_step after_found after_whole after_repeat after_iterating after_operation is_taken lacks_quotient
opens_steps = tt

opens_sums : Unit {0}
unfolding after_arithmetic with_flags_of result_of with_sum with_difference with_logic lib.Count.ones
opens_sums = tt

opens_single : Unit {0}
unfolding after_unary unary_result_of with_unary_flags_of after_adjust
opens_single = tt

opens_shifts : Unit {0}
unfolding after_shift after_shifts with_shifted after_single after_left after_right after_right_rotation iterate
opens_shifts = tt

opens_products : Unit {0}
unfolding after_product has_fault has_no_quotient after_division with_product with_division products.after_operation
opens_products = tt

opens_numbers : Unit {0}
unfolding unsigned_product signed_product signed_value unsigned_division signed_division signed_result
opens_numbers = tt

opens_control : Unit {0}
unfolding after_jump after_looping relative_target near_target after_call after_return after_interrupt_return after_control
opens_control = tt

opens_transfers : Unit {0}
unfolding after_mov after_xchg after_lea after_pointer_load after_push_operand after_pop_operand after_popf after_xlat after_transfer
opens_transfers = tt

opens_ports : Unit {0}
unfolding after_byte_input after_word_input after_in outputs_of after_out
opens_ports = tt

opens_strings : Unit {0}
unfolding after_movs after_cmps after_stos after_lods after_scas after_element after_iteration goes_on
opens_strings = tt

opens_stack : Unit {0}
unfolding after_push top_word after_pop after_ip_pop after_far_pop after_entry_pushes after_vector after_entry popped_flags after_flag_operation
opens_stack = tt

opens_registers : Unit {0}
unfolding byte_register with_byte_register word_register with_word_register segment_register with_segment_register
opens_registers = tt

opens_places : Unit {0}
unfolding place_offset base_offset location_of far_segment value_at with_value_at word_at with_word_at
opens_places = tt

opens_clocks : Unit {0}
unfolding clocks_of clocks_in data_words whole_words form_length rows
opens_clocks = tt

opens_told : Unit {0}
unfolding alters_of sets_segment sets_word flow_of move_of clocks_told run_from happens loads_sp
opens_told = tt

opens_operations : Unit {0}
unfolding opens_steps opens_sums opens_single opens_shifts opens_products opens_numbers opens_control opens_transfers opens_ports
opens_operations = tt

abbrev shows : Row → Bool
shows row =
    happens (instance_of with_bx row) && (happens (instance_of with_memory row) && (happens (instance_of with_repeat row)
    && (loads_sp (instance_of with_sp row) && loads_sp (instance_of with_sp_in_reg row))))

all_show : list_all shows rows ≡ true
unfolding opens_operations opens_strings opens_stack opens_registers opens_places opens_clocks opens_told
all_show = refl

left_of : (a b : Bool) → (a && b) ≡ true → a ≡ true
left_of true b is = refl
left_of false b is = let never : false ≡ true = is in cc

right_of : (a b : Bool) → (a && b) ≡ true → b ≡ true
right_of true b is = is
right_of false b is = let never : false ≡ true = is in cc

not_one : (n : ℕ) → n ≡ 3 → n ≢ 1
not_one n is one = absurd (omega (arith, is, one))

fit : (named reg : ℕ) (in_memory repeated : Bool) → named < 8 → reg < 8
    → Fit (record { named = named; in_memory = in_memory; reg = reg; segment = 3; repeated = repeated })
fit named reg in_memory repeated named_fits reg_fits =
    record { named = named_fits; reg = reg_fits; segment = omega arith; not_cs = not_one 3 refl }

bx_fits : Fit with_bx
bx_fits = fit 3 2 false false (omega arith) (omega arith)

memory_fits : Fit with_memory
memory_fits = fit 3 2 true false (omega arith) (omega arith)

repeat_fits : Fit with_repeat
repeat_fits = fit 3 2 false true (omega arith) (omega arith)

sp_fits : Fit with_sp
sp_fits = fit 4 2 false false (omega arith) (omega arith)

reg_fits_sp : Fit with_sp_in_reg
reg_fits_sp = fit 3 4 false false (omega arith) (omega arith)

pub no_more : NoMore
no_more row within =
    let shown = each shows rows row all_show within in
    let not_bx = right_of _ _ shown in
    let not_memory = right_of _ _ not_bx in
    let not_repeat = right_of _ _ not_memory in
    record {
      with_bx = record { is_instr = is_instr with_bx bx_fits row within; of_row = refl; each = left_of _ _ shown };
      with_memory = record { is_instr = is_instr with_memory memory_fits row within; of_row = refl; each = left_of _ _ not_bx };
      with_repeat = record { is_instr = is_instr with_repeat repeat_fits row within; of_row = refl; each = left_of _ _ not_memory };
      with_sp = record { is_instr = is_instr with_sp sp_fits row within; of_row = refl; each = left_of _ _ not_repeat };
      with_sp_in_reg = record { is_instr = is_instr with_sp_in_reg reg_fits_sp row within; of_row = refl; each = right_of _ _ not_repeat };
    }
