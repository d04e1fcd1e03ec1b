-- The laws of comparisons, of decimal digits and of signs (8086 Family User's Manual, "Conditional Transfers",
-- "Arithmetic Instructions").
-- Laws: claims above the definitions, each proved as the contract of a function.
use Rattle.isa.specs.declared.operation.Adjust.TheVariants.{Daa, Das, Aaa, Aas, Aam, Aad, Cbw, Cwd}
use Rattle.std.specs.Prelude.{◌≡◌, ℕ, Bool, ◌+◌, ◌*◌, ◌/◌, ◌%◌, ◌-◌, ◌^◌, ◌<◌, not}
use Rattle.std.specs.Prelude.{if◌then◌else◌, nat_lt, nat_le, ℤ, pos, ◌-ℤ◌, ◌<ℤ◌, IsTrue, ◌↔◌}
use Rattle.std.specs.Int.{from_bool}
use Rattle.board_types.specs.Bits.{has_bit}
use Rattle.isa.specs.declared.operation.Arithmetic.TheVariants.{Add, Adc, Sub, Sbb, Cmp}
use Rattle.isa.specs.declared.operation.Unary.TheVariants.{Not}
use Rattle.isa.specs.declared.register.ByteRegister.TheVariants.{Al}
use Rattle.isa.specs.declared.form.Instr.{Instr}
use Rattle.isa.specs.Row.{first_of, second_of}
use Rattle.bus.specs.Bus.{BusMeaning}
use Rattle.execute_machine.specs.declared.location.OperandLocation.TheVariants as locations
use Rattle.execute_machine.specs.Locations.{Machine, location_of, operand_at, width_at}
use Rattle.execute_machine.specs.RegisterFile.{Registers}
use Rattle.execute_machine.specs.FlagState.{FlagState}
use Rattle.execute_machine.specs.declared.width.Width.{Width}
use Rattle.execute_machine.specs.declared.width.Width.TheVariants.{Byte, Word}
use Rattle.execute_machine.specs.Widths.{size_of}
use Rattle.execute_machine.specs.Sums.{difference_of, signed_of, sum_of, with_difference, with_sum}
use Rattle.execute_arith.specs.ArithmeticMeaning.{after_arithmetic, ah_of, al_of, unary_result_of, after_adjust}

-- what flags say of two numbers of a width: whether they are equal, and whether the first is below the second, as
-- unsigned and as signed numbers
pub record TellsOrder (f : FlagState) (width : Width) (a b : ℕ) : Type 0 where
  pub below : IsTrue f.carry ↔ (a < b)
  pub equal : IsTrue f.zero ↔ (a ≡ b)
  pub less : (¬ (f.sign ≡ f.overflow)) ↔ (signed_of width a <ℤ signed_of width b)

-- after a comparison the flags say the order of its numbers
abbrev pub ComparisonTells : Type 0
ComparisonTells =
    (f : FlagState) (width : Width) (a b : ℕ) → a < size_of width → b < size_of width
    → TellsOrder (with_difference f width a b 0) width a b

-- after a CMP the flags say the order of its operands
abbrev pub CmpTells : {S : Type 0} → BusMeaning S → Type 0
CmpTells {S} bus =
    (m : Machine S) (i : Instr)
    → let to = location_of m.registers i (first_of i.form.row) in
    let from = location_of m.registers i (second_of i.form.row) in
    let width = width_at to in
    TellsOrder (after_arithmetic bus m Cmp i).registers.flags width (operand_at bus m to width)
    (operand_at bus m from width)

-- AL and the flags are what the sum of two bytes left
pub record HasSum (r : Registers) (a b carry : ℕ) : Type 0 where
  pub before : FlagState
  pub al : al_of r ≡ sum_of Byte a b carry
  pub flags : r.flags ≡ with_sum before Byte a b carry

-- AL and the flags are what the difference of two bytes left
pub record HasDifference (r : Registers) (a b borrow : ℕ) : Type 0 where
  pub before : FlagState
  pub al : al_of r ≡ difference_of Byte a b borrow
  pub flags : r.flags ≡ with_difference before Byte a b borrow

-- ADD, ADC, SUB and SBB with AL leave sums and differences there
pub record WorksInAl {S : Type 0} (bus : BusMeaning S) (m : Machine S) (i : Instr) (b : ℕ) : Type 0 where
  pub add : HasSum (after_arithmetic bus m Add i).registers (al_of m.registers) b 0
  pub adc : HasSum (after_arithmetic bus m Adc i).registers (al_of m.registers) b (from_bool m.registers.flags.carry)
  pub sub : HasDifference (after_arithmetic bus m Sub i).registers (al_of m.registers) b 0
  pub sbb : HasDifference (after_arithmetic bus m Sbb i).registers (al_of m.registers) b
      (from_bool m.registers.flags.carry)

abbrev pub SumsStandInAl : {S : Type 0} → BusMeaning S → Type 0
SumsStandInAl {S} bus =
    (m : Machine S) (i : Instr) → location_of m.registers i (first_of i.form.row) ≡ locations.Byte Al
    → WorksInAl bus m i (operand_at bus m (location_of m.registers i (second_of i.form.row)) Byte)

-- a number below 100 as two decimal digits in a byte
abbrev pub packed : ℕ → ℕ
packed n = 16 * (n / 10) + n % 10

-- AL holds this number as packed digits, and CF says whether it carries
pub record LeavesPacked (r : Registers) (n : ℕ) (carries : Bool) : Type 0 where
  pub digits : al_of r ≡ packed n
  pub carry : r.flags.carry ≡ carries

-- DAA after ADD or ADC of packed numbers: their decimal sum, with its carry
abbrev pub DaaAdds : Type 0
DaaAdds =
    (r : Registers) (x y carry : ℕ) → x < 100 → y < 100 → carry < 2 → HasSum r (packed x) (packed y) carry
    → LeavesPacked (after_adjust r Daa) ((x + y + carry) % 100) (nat_le 100 (x + y + carry))

-- DAS after SUB or SBB of packed numbers: their decimal difference, with its borrow
abbrev pub DasSubtracts : Type 0
DasSubtracts =
    (r : Registers) (x y borrow : ℕ) → x < 100 → y < 100 → borrow < 2 → HasDifference r (packed x) (packed y) borrow
    → LeavesPacked (after_adjust r Das) ((x + 100 - (y + borrow)) % 100) (nat_lt x (y + borrow))

-- AL holds this digit and AH this byte, and CF says whether it carries
pub record LeavesDigit (r : Registers) (high digit : ℕ) (carries : Bool) : Type 0 where
  pub high_byte : ah_of r ≡ high
  pub low_byte : al_of r ≡ digit
  pub carry : r.flags.carry ≡ carries

-- AAA after ADD or ADC of bytes whose low halves are digits: their sum's digit, and its carry, which AH takes too
abbrev pub AaaAdds : Type 0
AaaAdds =
    (r : Registers) (a b carry : ℕ) → r.ax < 65536 → a % 16 < 10 → b % 16 < 10 → carry < 2 → HasSum r a b carry
    → let sum = a % 16 + b % 16 + carry in
    LeavesDigit (after_adjust r Aaa) ((ah_of r + sum / 10) % 256) (sum % 10) (nat_le 10 sum)

-- AAS after SUB or SBB of bytes whose low halves are digits: their difference's digit, and its borrow, which AH gives
abbrev pub AasSubtracts : Type 0
AasSubtracts =
    (r : Registers) (a b borrow : ℕ) → r.ax < 65536 → a < 256 → b < 256 → a % 16 < 10 → b % 16 < 10 → borrow < 2
    → HasDifference r a b borrow
    → let borrows = nat_lt (a % 16) (b % 16 + borrow) in
    LeavesDigit (after_adjust r Aas) ((ah_of r + 256 - from_bool borrows) % 256)
    ((a % 16 + 10 - (b % 16 + borrow)) % 10) borrows

-- AX holds this number as two unpacked digits
pub record HoldsDigits (r : Registers) (n : ℕ) : Type 0 where
  pub high : ah_of r < 10
  pub low : al_of r < 10
  pub number : 10 * ah_of r + al_of r ≡ n

-- AAM makes digits of a number below 100, as the product of two digits is
abbrev pub AamParts : Type 0
AamParts = (r : Registers) → al_of r < 100 → HoldsDigits (after_adjust r Aam) (al_of r)

-- AAD makes a number of its two digits
abbrev pub AadJoins : Type 0
AadJoins = (r : Registers) (n : ℕ) → HoldsDigits r n → (after_adjust r Aad).ax ≡ n

-- AAD makes of the digits that AAM leaves what AL was, whatever it was
abbrev pub AadUndoesAam : Type 0
AadUndoesAam = (r : Registers) → (after_adjust (after_adjust r Aam) Aad).ax ≡ al_of r

-- DX and AX as one signed number
abbrev pub signed_pair : Registers → ℤ
signed_pair r =
    let pair = 65536 * r.dx + r.ax in
    if nat_le 32768 r.dx then pos pair -ℤ pos (2 ^ 32) else pos pair

-- CBW and CWD keep the signed number
abbrev pub SignsExtend : Type 0
SignsExtend =
    (r : Registers) → r.ax < 65536
    → (signed_of Word (after_adjust r Cbw).ax ≡ signed_of Byte (al_of r))
    × (signed_pair (after_adjust r Cwd) ≡ signed_of Word r.ax)

-- how many bits a width has
abbrev pub bits_of : Width → ℕ
bits_of Byte = 8
bits_of Word = 16

-- NOT inverts each bit
abbrev pub NotInverts : Type 0
NotInverts =
    (width : Width) (a n : ℕ) → a < size_of width → n < bits_of width
    → has_bit (unary_result_of Not width a) n ≡ not (has_bit a n)
