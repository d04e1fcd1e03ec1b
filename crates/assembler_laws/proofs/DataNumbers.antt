-- The bytes of numbers.
use Rattle.std.proofs.Common.{◌≡◌, ℕ, ℤ, zero, suc, pos, ◌+ℤ◌, ◌/◌, ◌%◌, ◌^◌, ◌<◌, [], ◌∷◌, length, get_or, refl, ap, arith, inl, inr, true}
use Rattle.std.specs.Prelude.{negsuc, ◌⊎◌}
use Rattle.std.proofs.lemmas.Int.{ints}
use Rattle.std.proofs.lemmas.Bool.Decides.{nat_tests}
use Rattle.assembler_syntax.specs.declared.statement.DataWidth.{DataWidth}
use Rattle.assembler_syntax.specs.declared.statement.DataWidth.TheVariants.{Byte, Word, Double}
use Rattle.assembler_form.specs.Fields.{modulo}
use Rattle.assembler_meaning.specs.Data.{fits_width, number_bytes, width_size}

-- the number of this many bytes that a value is
pub record IsNumber (size : ℕ) (value : ℤ) (number : ℕ) : Type 0 where
  pub below : number < 256 ^ size
  pub is_value : (value ≡ pos number) ⊎ (value +ℤ pos (256 ^ size) ≡ pos number)

byte_number : (value : ℤ) → fits_width Byte value ≡ true → IsNumber 1 value (modulo 256 value)
byte_number (pos n) fits =
    let few : n < 256 = grind (arith, nat_tests) in
    let same : n ≡ n % 256 = omega arith in
    record { below = omega arith; is_value = inl (ap pos same) }
byte_number (negsuc n) fits =
    let few : n < 128 = grind (arith, nat_tests) in
    record { below = omega arith; is_value = inr (omega (arith, ints)) }

word_number : (value : ℤ) → fits_width Word value ≡ true → IsNumber 2 value (modulo 65536 value)
word_number (pos n) fits =
    let few : n < 65536 = grind (arith, nat_tests) in
    let same : n ≡ n % 65536 = omega arith in
    record { below = omega arith; is_value = inl (ap pos same) }
word_number (negsuc n) fits =
    let few : n < 32768 = grind (arith, nat_tests) in
    record { below = omega arith; is_value = inr (omega (arith, ints)) }

double_number : (value : ℤ) → fits_width Double value ≡ true → IsNumber 4 value (modulo 4294967296 value)
double_number (pos n) fits =
    let few : n < 4294967296 = grind (arith, nat_tests) in
    let same : n ≡ n % 4294967296 = omega arith in
    record { below = omega arith; is_value = inl (ap pos same) }
double_number (negsuc n) fits =
    let few : n < 2147483648 = grind (arith, nat_tests) in
    record { below = omega arith; is_value = inr (omega (arith, ints)) }

pub number_of : DataWidth → ℤ → ℕ
number_of Byte value = modulo 256 value
number_of Word value = modulo 65536 value
number_of Double value = modulo 4294967296 value

pub is_number : (width : DataWidth) (value : ℤ) → fits_width width value ≡ true → IsNumber (width_size width) value (number_of width value)
unfolding number_of
is_number Byte value fits = byte_number value fits
is_number Word value fits = word_number value fits
is_number Double value fits = double_number value fits

one_byte : (u k d : ℕ) → u < 256 → k < 1 → get_or (u ∷ []) k d ≡ u / 256 ^ k % 256
one_byte u zero d few within = omega arith
one_byte u (suc k) d few within = absurd (omega (arith, within))

two_bytes : (u k d : ℕ) → u < 65536 → k < 2 → get_or (u % 256 ∷ u / 256 ∷ []) k d ≡ u / 256 ^ k % 256
two_bytes u zero d few within = omega arith
two_bytes u (suc zero) d few within = omega arith
two_bytes u (suc (suc k)) d few within = absurd (omega (arith, within))

four_bytes : (u k d : ℕ) → u < 4294967296 → k < 4
    → get_or (u % 256 ∷ u / 256 % 256 ∷ u / 65536 % 256 ∷ u / 16777216 ∷ []) k d ≡ u / 256 ^ k % 256
four_bytes u zero d few within = omega arith
four_bytes u (suc zero) d few within = refl
four_bytes u (suc (suc zero)) d few within = refl
four_bytes u (suc (suc (suc zero))) d few within = omega arith
four_bytes u (suc (suc (suc (suc k)))) d few within = absurd (omega (arith, within))

-- the bytes of a number, the low one first
pub bytes_are : (width : DataWidth) (value : ℤ) → IsNumber (width_size width) value (number_of width value) → (k d : ℕ) → k < width_size width
    → get_or (number_bytes width value) k d ≡ number_of width value / 256 ^ k % 256
unfolding number_of
bytes_are Byte value is k d within = one_byte (modulo 256 value) k d is.below within
bytes_are Word value is k d within = two_bytes (modulo 65536 value) k d is.below within
bytes_are Double value is k d within = four_bytes (modulo 4294967296 value) k d is.below within

pub number_size : (width : DataWidth) (value : ℤ) → length (number_bytes width value) ≡ width_size width
number_size Byte value = refl
number_size Word value = refl
number_size Double value = refl
