-- Products and quotients of a byte or a word (8086 Family User's Manual, "Multiplication Instructions", "Division
-- Instructions"). A signed number is read as a sign and a magnitude; from half of its values on it is negative.
-- To be believed: the headline rests on it.
use Rattle.execute_machine.specs.Flags.{differ}
use Rattle.std.specs.Prelude.{ℕ, ◌*◌, ◌/◌, ◌%◌, ◌-◌, ◌==◌, nat_le, Bool, not, if◌then◌else◌, Option, Some, None}
use Rattle.execute_machine.specs.declared.width.Width.{Width}
use Rattle.execute_machine.specs.declared.width.Width.TheVariants.{Byte, Word}
use Rattle.execute_machine.specs.Widths.{size_of, half_size, is_negative}
use Rattle.execute_arith.specs.declared.numbers.FullProduct.{FullProduct}
use Rattle.execute_arith.specs.declared.numbers.Division.{Division}

-- half of the values that a number of twice the width has: a product, a dividend
abbrev pub double_half : Width → ℕ
double_half Byte = 32768
double_half Word = 2147483648

abbrev pub is_minus : ℕ → ℕ → Bool
is_minus half number = nat_le half number

abbrev pub magnitude : ℕ → ℕ → ℕ
magnitude half number = if is_minus half number then 2 * half - number else number

-- the number of this sign and magnitude
abbrev pub with_sign : ℕ → Bool → ℕ → ℕ
with_sign half minus size = if minus then (if size == 0 then 0 else 2 * half - size) else size

-- the high half that extends a low half by its sign
abbrev pub sign_extension : Width → ℕ → ℕ
sign_extension width low = if is_negative width low then size_of width - 1 else 0

-- the product of unsigned numbers; it is wide if its high half isn't 0
unfoldable pub unsigned_product : Width → ℕ → ℕ → FullProduct
unsigned_product width a b = record { value = a * b; is_wide = not (a * b / size_of width == 0) }

unfoldable pub signed_value : Width → ℕ → ℕ → ℕ
signed_value width a b =
    let half = half_size width in
    with_sign (double_half width) (differ (is_minus half a) (is_minus half b)) (magnitude half a * magnitude half b)

-- the product of signed numbers; it is wide if its high half isn't the sign extension of the low half
unfoldable pub signed_product : Width → ℕ → ℕ → FullProduct
signed_product width a b =
    let value = signed_value width a b in
    record { value = value; is_wide = not (value / size_of width == sign_extension width (value % size_of width)) }

-- the division of unsigned numbers; none if the divisor is 0 or the quotient doesn't fit
unfoldable pub unsigned_division : Width → ℕ → ℕ → Option Division
unsigned_division width dividend divisor =
    if divisor == 0 then None
    else if nat_le (size_of width) (dividend / divisor) then None
    else Some (record { quotient = dividend / divisor; remainder = dividend % divisor })

-- the division of signed numbers: the quotient is rounded toward 0, and the remainder has the dividend's sign
unfoldable pub signed_result : Width → ℕ → ℕ → ℕ → ℕ → Division
signed_result width dividend divisor quotient remainder =
    let half = half_size width in
    let minus = is_minus (double_half width) dividend in
    record {
      quotient = with_sign half (differ minus (is_minus half divisor)) quotient;
      remainder = with_sign half minus remainder;
    }

-- The division of signed numbers, or none. The least number of a width counts as not fitting: no quotient has the
-- magnitude of half of the values (this board's choice).
unfoldable pub signed_division : Width → ℕ → ℕ → Option Division
signed_division width dividend divisor =
    let above = magnitude (double_half width) dividend in
    let below = magnitude (half_size width) divisor in
    if below == 0 then None
    else if nat_le (half_size width) (above / below) then None
    else Some (signed_result width dividend divisor (above / below) (above % below))
