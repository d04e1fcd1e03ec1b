-- ADD, ADC, SUB and SBB with AL leave sums and differences there.
use Rattle.std.proofs.Common.{◌≡◌, ℕ, ◌+◌, ◌*◌, ◌/◌, ◌%◌, sym, ap, subst, ◌∙◌, arith, if◌then◌else◌}
use Rattle.std.specs.Int.{from_bool}
use Rattle.isa.specs.declared.operation.Arithmetic.{Arithmetic}
use Rattle.isa.specs.declared.operation.Arithmetic.TheVariants.{Add, Adc, Sub, Sbb}
use Rattle.isa.specs.declared.register.ByteRegister.TheVariants.{Al}
use Rattle.isa.specs.Row.{second_of}
use Rattle.bus.specs.Bus.{BusMeaning}
use Rattle.execute_machine.specs.declared.location.OperandLocation.{OperandLocation}
use Rattle.execute_machine.specs.declared.location.OperandLocation.TheVariants as locations
use Rattle.execute_machine.specs.declared.width.Width.TheVariants.{Byte}
use Rattle.execute_machine.specs.Locations.{Machine, location_of, operand_at, value_at, with_value_at, width_at}
use Rattle.execute_machine.specs.Registers.{byte_register, with_byte_register}
use Rattle.execute_machine.specs.Flags.{forgetting, keeping}
use Rattle.execute_machine.specs.Sums.{difference_of, sum_of, with_difference, with_sum}
use Rattle.execute_arith.specs.ArithmeticMeaning.{after_arithmetic, al_of, keeps_result, result_of, with_flags, with_flags_of}
use Rattle.execute_arith.specs.ArithmeticLaws.{HasDifference, HasSum, SumsStandInAl}

-- an arithmetic operation on operands at two locations
abbrev after_at : {S : Type 0} → BusMeaning S → Machine S → Arithmetic → OperandLocation → OperandLocation → Machine S
after_at bus m op to from =
    let width = width_at to in
    let a = operand_at bus m to width in
    let b = operand_at bus m from width in
    let flagged = with_flags m (with_flags_of op m.registers.flags width a b) in
    if keeps_result op then with_value_at bus flagged to (result_of op m.registers.flags width a b) else flagged

cut_twice : (n : ℕ) → n % 256 % 256 ≡ n % 256
cut_twice n = omega arith

low_half : (word n : ℕ) → (word / 256 * 256 + n % 256 % 256) % 256 ≡ n % 256
low_half word n = omega arith

sum_in_al : {S : Type 0} (bus : BusMeaning S) (m : Machine S) (from : OperandLocation)
    → HasSum (after_at bus m Add (locations.Byte Al) from).registers (al_of m.registers) (operand_at bus m from Byte) 0
unfolding result_of value_at with_flags_of with_value_at byte_register with_byte_register
sum_in_al bus m from = record {
  before = keeping m.registers.flags (m.registers.ax % 256 % 256) (operand_at bus m from Byte)
      (sum_of Byte (m.registers.ax % 256 % 256) (operand_at bus m from Byte) 0);
  al = low_half _ _ ∙ ap (λ a. sum_of Byte a (operand_at bus m from Byte) 0) (cut_twice m.registers.ax);
  flags = ap (λ a. with_sum (keeping m.registers.flags (m.registers.ax % 256 % 256)
      (operand_at bus m from Byte) (sum_of Byte (m.registers.ax % 256 % 256) (operand_at bus m from Byte) 0))
      Byte a (operand_at bus m from Byte) 0)
      (cut_twice m.registers.ax);
}

carried_sum_in_al : {S : Type 0} (bus : BusMeaning S) (m : Machine S) (from : OperandLocation)
    → HasSum (after_at bus m Adc (locations.Byte Al) from).registers (al_of m.registers) (operand_at bus m from Byte) (from_bool m.registers.flags.carry)
unfolding result_of value_at with_flags_of with_value_at byte_register with_byte_register
carried_sum_in_al bus m from = record {
  before = forgetting m.registers.flags;
  al = low_half _ _ ∙ ap (λ a. sum_of Byte a (operand_at bus m from Byte) (from_bool m.registers.flags.carry)) (cut_twice m.registers.ax);
  flags = ap (λ a. with_sum (forgetting m.registers.flags) Byte a (operand_at bus m from Byte) (from_bool m.registers.flags.carry)) (cut_twice m.registers.ax);
}

difference_in_al : {S : Type 0} (bus : BusMeaning S) (m : Machine S) (from : OperandLocation)
    → HasDifference (after_at bus m Sub (locations.Byte Al) from).registers (al_of m.registers) (operand_at bus m from Byte) 0
unfolding result_of value_at with_flags_of with_value_at byte_register with_byte_register
difference_in_al bus m from = record {
  before = keeping m.registers.flags (m.registers.ax % 256 % 256) (operand_at bus m from Byte)
      (difference_of Byte (m.registers.ax % 256 % 256) (operand_at bus m from Byte) 0);
  al = low_half _ _ ∙ ap (λ a. difference_of Byte a (operand_at bus m from Byte) 0) (cut_twice m.registers.ax);
  flags = ap (λ a. with_difference (keeping m.registers.flags (m.registers.ax % 256 % 256)
      (operand_at bus m from Byte) (difference_of Byte (m.registers.ax % 256 % 256) (operand_at bus m from Byte) 0))
      Byte a (operand_at bus m from Byte) 0)
      (cut_twice m.registers.ax);
}

borrowed_difference_in_al : {S : Type 0} (bus : BusMeaning S) (m : Machine S) (from : OperandLocation)
    → HasDifference (after_at bus m Sbb (locations.Byte Al) from).registers (al_of m.registers) (operand_at bus m from Byte) (from_bool m.registers.flags.carry)
unfolding result_of value_at with_flags_of with_value_at byte_register with_byte_register
borrowed_difference_in_al bus m from = record {
  before = forgetting m.registers.flags;
  al = low_half _ _ ∙ ap (λ a. difference_of Byte a (operand_at bus m from Byte) (from_bool m.registers.flags.carry)) (cut_twice m.registers.ax);
  flags = ap (λ a. with_difference (forgetting m.registers.flags) Byte a (operand_at bus m from Byte) (from_bool m.registers.flags.carry))
      (cut_twice m.registers.ax);
}

pub sums_stand_in_al : {S : Type 0} (bus : BusMeaning S) → SumsStandInAl bus
unfolding after_arithmetic
sums_stand_in_al bus m i stands =
    let from = location_of m.registers i (second_of i.form.row) in
    let al = sym stands in
    let b = operand_at bus m from Byte in
    let carry = from_bool m.registers.flags.carry in
    record {
      add = subst (λ to. HasSum (after_at bus m Add to from).registers (al_of m.registers) b 0) al (sum_in_al bus m from);
      adc = subst (λ to. HasSum (after_at bus m Adc to from).registers (al_of m.registers) b carry) al (carried_sum_in_al bus m from);
      sub = subst (λ to. HasDifference (after_at bus m Sub to from).registers (al_of m.registers) b 0) al (difference_in_al bus m from);
      sbb = subst (λ to. HasDifference (after_at bus m Sbb to from).registers (al_of m.registers) b carry) al (borrowed_difference_in_al bus m from);
    }
