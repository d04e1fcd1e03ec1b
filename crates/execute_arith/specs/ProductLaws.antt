-- The laws of multiplication and division.
-- Laws: claims above the definitions, each proved as the contract of a function.
use Rattle.std.specs.Prelude.{ℕ, ◌≡◌, ◌+◌, ◌*◌, ◌/◌, ◌<◌, ◌⊎◌, true, false, ℤ, pos}
use Rattle.std.specs.Prelude.{◌+ℤ◌, ◌-ℤ◌, ◌*ℤ◌, nat_abs, int_lt, nat_le, if◌then◌else◌}
use Rattle.isa.specs.declared.operation.Product.TheVariants.{Mul, Imul, Div, Idiv}
use Rattle.isa.specs.declared.form.Instr.{Instr}
use Rattle.isa.specs.Row.{first_of}
use Rattle.bus.specs.Bus.{BusMeaning}
use Rattle.execute_machine.specs.RegisterFile.{Registers}
use Rattle.execute_machine.specs.declared.width.Width.{Width}
use Rattle.execute_machine.specs.declared.width.Width.TheVariants.{Byte, Word}
use Rattle.execute_machine.specs.Widths.{size_of, half_size}
use Rattle.execute_machine.specs.Locations.{Machine, location_of, width_at, operand_at}
use Rattle.execute_machine.specs.Stack.{after_entry}
use Rattle.execute_arith.specs.Numbers.{double_half}
use Rattle.execute_arith.specs.Products.{accumulator, dividend_of, after_product, has_fault}

-- the width of an instruction's operand, and its value
abbrev pub operand_width : {S : Type 0} → Machine S → Instr → Width
operand_width m i = width_at (location_of m.registers i (first_of i.form.row))

abbrev pub operand_of : {S : Type 0} → BusMeaning S → Machine S → Instr → ℕ
operand_of bus m i = operand_at bus m (location_of m.registers i (first_of i.form.row)) (operand_width m i)

-- a number, read as a signed one: from half of its values on it is negative
abbrev pub signed : ℕ → ℕ → ℤ
signed half number = if nat_le half number then pos number -ℤ pos (2 * half) else pos number

-- AX and DX hold words
pub record HoldsWords (r : Registers) : Type 0 where
  pub ax : r.ax < 65536
  pub dx : r.dx < 65536

-- MUL leaves the product of the unsigned numbers in AX or DX:AX
abbrev pub MulMultiplies : {S : Type 0} → BusMeaning S → Type 0
MulMultiplies {S} bus = (m : Machine S) (i : Instr) →
    dividend_of (after_product bus m Mul i).registers (operand_width m i)
    ≡ accumulator m.registers (operand_width m i) * operand_of bus m i

-- IMUL leaves the product of the signed numbers in AX or DX:AX
abbrev pub ImulMultiplies : {S : Type 0} → BusMeaning S → Type 0
ImulMultiplies {S} bus = (m : Machine S) (i : Instr) → HoldsWords m.registers →
    signed (double_half (operand_width m i)) (dividend_of (after_product bus m Imul i).registers (operand_width m i))
    ≡ signed (half_size (operand_width m i)) (accumulator m.registers (operand_width m i))
    *ℤ signed (half_size (operand_width m i)) (operand_of bus m i)

-- the remainder that a division leaves in AH or DX
abbrev pub remainder_of : Registers → Width → ℕ
remainder_of r Byte = r.ax / 256
remainder_of r Word = r.dx

-- a quotient and a remainder of unsigned numbers, the quotient below the size
pub record Divides (size dividend divisor quotient remainder : ℕ) : Type 0 where
  pub sum : dividend ≡ divisor * quotient + remainder
  pub below : remainder < divisor
  pub fits : quotient < size

-- DIV leaves the quotient and the remainder, and has a fault exactly if there are none
pub record DivDivides {S : Type 0} (bus : BusMeaning S) : Type 0 where
  pub divides : (m : Machine S) (i : Instr) → has_fault bus m Div i ≡ false
      → let after = (after_product bus m Div i).registers in
      Divides (size_of (operand_width m i)) (dividend_of m.registers (operand_width m i)) (operand_of bus m i)
      (accumulator after (operand_width m i)) (remainder_of after (operand_width m i))
  pub refuses : (m : Machine S) (i : Instr) → has_fault bus m Div i ≡ true → (quotient remainder : ℕ)
      → Divides (size_of (operand_width m i)) (dividend_of m.registers (operand_width m i)) (operand_of bus m i)
      quotient remainder
      → ⊥
  pub enters : (m : Machine S) (i : Instr) → has_fault bus m Div i ≡ true
      → after_product bus m Div i ≡ after_entry bus m 0

-- A quotient and a remainder of signed numbers: the remainder is 0 or has the dividend's sign, and the quotient's
-- magnitude is below half of the values, so that the least number counts as not fitting (this board's choice).
pub record DividesSigned (half : ℕ) (dividend divisor quotient remainder : ℤ) : Type 0 where
  pub sum : dividend ≡ divisor *ℤ quotient +ℤ remainder
  pub below : nat_abs remainder < nat_abs divisor
  pub sign : (remainder ≡ pos 0) ⊎ (int_lt remainder (pos 0) ≡ int_lt dividend (pos 0))
  pub fits : nat_abs quotient < half

abbrev pub SignedDivision : Width → ℕ → ℕ → ℤ → ℤ → Type 0
SignedDivision width dividend divisor quotient remainder =
    DividesSigned (half_size width) (signed (double_half width) dividend) (signed (half_size width) divisor)
    quotient remainder

pub record IdivDivides {S : Type 0} (bus : BusMeaning S) : Type 0 where
  pub divides : (m : Machine S) (i : Instr) → HoldsWords m.registers → has_fault bus m Idiv i ≡ false
      → let after = (after_product bus m Idiv i).registers in
      SignedDivision (operand_width m i) (dividend_of m.registers (operand_width m i)) (operand_of bus m i)
      (signed (half_size (operand_width m i)) (accumulator after (operand_width m i)))
      (signed (half_size (operand_width m i)) (remainder_of after (operand_width m i)))
  pub refuses : (m : Machine S) (i : Instr) → HoldsWords m.registers → has_fault bus m Idiv i ≡ true
      → (quotient remainder : ℤ)
      → SignedDivision (operand_width m i) (dividend_of m.registers (operand_width m i)) (operand_of bus m i)
      quotient remainder
      → ⊥
  pub enters : (m : Machine S) (i : Instr) → has_fault bus m Idiv i ≡ true
      → after_product bus m Idiv i ≡ after_entry bus m 0
