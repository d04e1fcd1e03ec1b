-- The laws of shifts and rotates.
-- Laws: claims above the definitions, each proved as the contract of a function.
use Rattle.std.specs.Prelude.{ℕ, ◌≡◌, ◌+◌, ◌*◌, ◌/◌, ◌%◌, ◌^◌, ◌<◌, ℤ, pos, ◌+ℤ◌, ◌-ℤ◌, ◌*ℤ◌, if◌then◌else◌}
use Rattle.isa.specs.declared.operation.Shift.TheVariants.{Rol, Ror, Rcl, Rcr, Shl, Shr, Sar}
use Rattle.execute_machine.specs.declared.width.Width.{Width}
use Rattle.execute_machine.specs.declared.width.Width.TheVariants.{Byte, Word}
use Rattle.execute_machine.specs.Widths.{size_of, is_negative}
use Rattle.execute_arith.specs.declared.single.Shifted.{Shifted}
use Rattle.execute_arith.specs.Shifts.{after_shifts}

abbrev pub bits_of : Width → ℕ
bits_of Byte = 8
bits_of Word = 16

-- a number of a width, read as a signed one
abbrev pub signed : Width → ℕ → ℤ
signed width value = if is_negative width value then pos value -ℤ pos (size_of width) else pos value

-- SHL by n is times 2 ^ n, modulo the width
abbrev pub ShlMultiplies : Type 0
ShlMultiplies =
    (width : Width) (s : Shifted) (n : ℕ) → s.value < size_of width
    → (after_shifts Shl width s n).value ≡ s.value * 2 ^ n % size_of width

-- SHR by n divides an unsigned number by 2 ^ n, toward 0
abbrev pub ShrDivides : Type 0
ShrDivides =
    (width : Width) (s : Shifted) (n : ℕ) → (after_shifts Shr width s n).value ≡ s.value / 2 ^ n

-- the quotient that is rounded toward minus infinity: the rest isn't negative and is below the divisor
pub record IsFloor (dividend : ℤ) (divisor : ℕ) (quotient : ℤ) : Type 0 where
  pub rest : ℕ
  pub below : rest < divisor
  pub sum : dividend ≡ pos divisor *ℤ quotient +ℤ pos rest

-- SAR by n divides a signed number by 2 ^ n, toward minus infinity
abbrev pub SarDivides : Type 0
SarDivides =
    (width : Width) (s : Shifted) (n : ℕ) → s.value < size_of width
    → IsFloor (signed width s.value) (2 ^ n) (signed width (after_shifts Sar width s n).value)

-- ROL and ROR by the width give the operand back
pub record RotatesTurnRound : Type 0 where
  pub rol : (width : Width) (s : Shifted) → s.value < size_of width
      → (after_shifts Rol width s (bits_of width)).value ≡ s.value
  pub ror : (width : Width) (s : Shifted) → s.value < size_of width
      → (after_shifts Ror width s (bits_of width)).value ≡ s.value

-- the operand and CF are the same before and after
pub record SameWithCarry (before after : Shifted) : Type 0 where
  pub value : after.value ≡ before.value
  pub carry : after.carry ≡ before.carry

-- RCL and RCR by the width and 1 give the operand and CF back
pub record RotatesThroughCarryTurnRound : Type 0 where
  pub rcl : (width : Width) (s : Shifted) → s.value < size_of width
      → SameWithCarry s (after_shifts Rcl width s (bits_of width + 1))
  pub rcr : (width : Width) (s : Shifted) → s.value < size_of width
      → SameWithCarry s (after_shifts Rcr width s (bits_of width + 1))
