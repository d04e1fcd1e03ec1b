-- IMUL and IDIV of signed numbers.
use Rattle.execute_machine.specs.Flags.{differ}
use Rattle.std.proofs.Common.{◌≡◌, ℕ, ◌*◌, ◌/◌, ◌%◌, ◌<◌, ◌≤◌, Bool, true, false, ◌==◌, nat_le}
use Rattle.std.proofs.Common.{if◌then◌else◌, Option, Some, None, refl, sym, ap, ◌∙◌, subst, arith}
use Rattle.std.specs.Prelude.{ℤ, ◌*ℤ◌, nat_abs, is_none}
use Rattle.std.proofs.Math.Nat.{pos_of_ne-zero}
use Rattle.std.proofs.lemmas.Nat.{mul-le}
use Rattle.std.proofs.lemmas.Bool.{cond_both, eqb-true, eqb-false, leb-true, leb-false}
use Rattle.std.proofs.lemmas.Bool.Decides.{nat_tests}
use Rattle.isa.specs.declared.form.Instr.{Instr}
use Rattle.bus.specs.Bus.{BusMeaning}
use Rattle.execute_machine.specs.RegisterFile.{Registers}
use Rattle.execute_machine.specs.declared.width.Width.{Width}
use Rattle.execute_machine.specs.declared.width.Width.TheVariants.{Byte, Word}
use Rattle.execute_machine.specs.Widths.{size_of, half_size}
use Rattle.execute_machine.specs.Locations.{Machine}
use Rattle.execute_arith.specs.declared.numbers.Division.{Division}
use Rattle.execute_arith.specs.Numbers.{double_half, is_minus, magnitude, with_sign, signed_value, signed_product, signed_result, signed_division}
use Rattle.execute_arith.specs.Products.{accumulator, dividend_of, after_division, after_operation, has_no_quotient, after_product, has_fault}
use Rattle.execute_arith.specs.ProductLaws.{ImulMultiplies, IdivDivides, Divides, DividesSigned, SignedDivision}
use Rattle.execute_arith.specs.ProductLaws.{HoldsWords, signed, remainder_of, operand_of, operand_width}
use Rattle.execute_arith.proofs.Unsigned.{product_reads, quotient_reads, remainder_reads, none_by_zero, none_that_fits, divided, enters_by}
use Rattle.execute_arith.proofs.Signs.{number, abs_number, signs_multiply, signed_parts, signed_with, magnitude_fits, magnitudes_divide, signs_divide}

factor_fits : (width : Width) (n : ℕ) → n < size_of width → n < 2 * half_size width
factor_fits Byte n fits = fits
factor_fits Word n fits = fits

squares_fit : (width : Width) (a b : ℕ) → a ≤ half_size width → b ≤ half_size width → a * b < double_half width
squares_fit Byte a b p q = omega (arith, mul-le a b 128 128 p q)
squares_fit Word a b p q = omega (arith, mul-le a b 32768 32768 p q)

value_signed : (width : Width) (a b : ℕ) → a < size_of width → b < size_of width
    → signed (double_half width) (signed_value width a b) ≡ signed (half_size width) a *ℤ signed (half_size width) b
unfolding signed_value
value_signed width a b p q =
    let half = half_size width in
    let s = is_minus half a in
    let t = is_minus half b in
    let product = magnitude half a * magnitude half b in
    let small : product < double_half width =
    squares_fit width (magnitude half a) (magnitude half b) (magnitude_fits half a (factor_fits width a p)) (magnitude_fits half b (factor_fits width b q)) in
    signed_with (double_half width) (differ s t) product small
    ∙ signs_multiply s t (magnitude half a) (magnitude half b)
    ∙ ap (λ (z : ℤ). z *ℤ number t (magnitude half b)) (sym (signed_parts half a (factor_fits width a p)))
    ∙ ap (λ (z : ℤ). signed half a *ℤ z) (sym (signed_parts half b (factor_fits width b q)))

accumulator_fits : (r : Registers) (width : Width) → HoldsWords r → accumulator r width < size_of width
accumulator_fits r Byte h = omega arith
accumulator_fits r Word h = h.ax

dividend_fits : (r : Registers) (width : Width) → HoldsWords r → dividend_of r width < 2 * double_half width
dividend_fits r Byte h = h.ax
dividend_fits r Word h = omega (arith, h.ax, h.dx)

cut_fits : (width : Width) (n : ℕ) → n % size_of width < size_of width
cut_fits Byte n = omega arith
cut_fits Word n = omega arith

pub imul_multiplies : {S : Type 0} (bus : BusMeaning S) → ImulMultiplies bus
unfolding after_product after_operation signed_product
imul_multiplies bus m i words =
    let width = operand_width m i in
    ap (signed (double_half width)) (product_reads m.registers width _)
    ∙ value_signed width (accumulator m.registers width) (operand_of bus m i) (accumulator_fits m.registers width words) (cut_fits width _)

signed_magnitude : (half n : ℕ) → n < 2 * half → nat_abs (signed half n) ≡ magnitude half n
signed_magnitude half n fits = ap nat_abs (signed_parts half n fits) ∙ abs_number (is_minus half n) (magnitude half n)

with_sign_fits : (width : Width) (minus : Bool) (n : ℕ) → n < half_size width → with_sign (half_size width) minus n < size_of width
with_sign_fits Byte true n fits = grind (arith, nat_tests)
with_sign_fits Byte false n fits = omega arith
with_sign_fits Word true n fits = grind (arith, nat_tests)
with_sign_fits Word false n fits = omega arith

-- what an IDIV may answer: none if no pair fits, or else a pair that fits
record IsSignedPair (width : Width) (dividend divisor : ℕ) (d : Division) : Type 0 where
  pair : SignedDivision width dividend divisor (signed (half_size width) d.quotient) (signed (half_size width) d.remainder)
  fits : d.quotient < size_of width

abbrev JudgedSigned : Width → ℕ → ℕ → Option Division → Type 0
JudgedSigned width dividend divisor None =
    (quotient remainder : ℤ) → SignedDivision width dividend divisor quotient remainder → ⊥
JudgedSigned width dividend divisor (Some d) = IsSignedPair width dividend divisor d

-- a pair of signed numbers is one of magnitudes
magnitudes_of : (width : Width) (dividend divisor : ℕ) → dividend < 2 * double_half width
    → divisor < size_of width → (quotient remainder : ℤ) → SignedDivision width dividend divisor quotient remainder
    → Divides (half_size width) (magnitude (double_half width) dividend) (magnitude (half_size width) divisor) (nat_abs quotient) (nat_abs remainder)
magnitudes_of width dividend divisor p q quotient remainder v =
    let half = half_size width in
    let above = magnitude (double_half width) dividend in
    let e : nat_abs (signed (double_half width) dividend) ≡ above = signed_magnitude (double_half width) dividend p in
    let f : nat_abs (signed half divisor) ≡ magnitude half divisor = signed_magnitude half divisor (factor_fits width divisor q) in
    let first = magnitudes_divide half (signed (double_half width) dividend) (signed half divisor) quotient remainder v in
    let second = subst (λ (k : ℕ). Divides half k (nat_abs (signed half divisor)) (nat_abs quotient) (nat_abs remainder)) e first in
    subst (λ (k : ℕ). Divides half above k (nat_abs quotient) (nat_abs remainder)) f second

same_division : (half : ℕ) (n d q r n' d' q' r' : ℤ) → n' ≡ n → d' ≡ d → q' ≡ q → r' ≡ r → DividesSigned half n d q r → DividesSigned half n' d' q' r'
same_division half n d q r n' d' q' r' en ed eq er v =
    let first = subst (λ (z : ℤ). DividesSigned half z d q r) (sym en) v in
    let second = subst (λ (z : ℤ). DividesSigned half n' z q r) (sym ed) first in
    let third = subst (λ (z : ℤ). DividesSigned half n' d' z r) (sym eq) second in
    subst (λ (z : ℤ). DividesSigned half n' d' q' z) (sym er) third

-- a pair of magnitudes with its signs is one of signed numbers
signs_of : (width : Width) (dividend divisor quotient remainder : ℕ) → dividend < 2 * double_half width → divisor < size_of width
    → Divides (half_size width) (magnitude (double_half width) dividend) (magnitude (half_size width) divisor) quotient remainder
    → IsSignedPair width dividend divisor (signed_result width dividend divisor quotient remainder)
unfolding signed_result
signs_of width dividend divisor quotient remainder p q v =
    let half = half_size width in
    let s = is_minus (double_half width) dividend in
    let t = is_minus half divisor in
    let small : remainder < half = omega (arith, v.below, magnitude_fits half divisor (factor_fits width divisor q)) in
    record {
      pair = same_division half _ _ _ _ _ _ _ _
          (signed_parts (double_half width) dividend p) (signed_parts half divisor (factor_fits width divisor q))
          (signed_with half (differ s t) quotient v.fits) (signed_with half s remainder small)
          (signs_divide half s t (magnitude (double_half width) dividend) (magnitude half divisor) quotient remainder v);
      fits = with_sign_fits width (differ s t) quotient v.fits;
    }

judged : (width : Width) (dividend divisor : ℕ) → dividend < 2 * double_half width → divisor < size_of width
    → JudgedSigned width dividend divisor (signed_division width dividend divisor)
unfolding signed_division
judged width dividend divisor p q =
    let half = half_size width in
    let above = magnitude (double_half width) dividend in
    let below = magnitude half divisor in
    let quotient : Option Division = Some (signed_result width dividend divisor (above / below) (above % below)) in
    cond_both (below == 0) None (if nat_le half (above / below) then None else quotient) (JudgedSigned width dividend divisor)
    (λ zero quotient remainder v. none_by_zero half above below (eqb-true below 0 zero) (nat_abs quotient)
    (nat_abs remainder) (magnitudes_of width dividend divisor p q quotient remainder v))
    (λ some. cond_both (nat_le half (above / below)) None quotient (JudgedSigned width dividend divisor)
    (λ great quotient remainder v. none_that_fits half above below (leb-true half (above / below) great)
    (nat_abs quotient) (nat_abs remainder) (magnitudes_of width dividend divisor p q quotient remainder v))
    (λ small. signs_of width dividend divisor (above / below) (above % below) p q
    (divided half above below (pos_of_ne-zero (eqb-false below 0 some)) (leb-false half (above / below) small))))

divides_by : {S : Type 0} (bus : BusMeaning S) (m : Machine S) (width : Width) (dividend divisor : ℕ) (o : Option Division)
    → JudgedSigned width dividend divisor o → is_none o ≡ false
    → SignedDivision width dividend divisor (signed (half_size width) (accumulator (after_division bus m width o).registers width))
    (signed (half_size width) (remainder_of (after_division bus m width o).registers width))
unfolding after_division
divides_by bus m width dividend divisor None j fault = absurd (cc)
divides_by bus m width dividend divisor (Some d) j fault =
    same_division (half_size width) _ _ _ _ _ _ _ _ refl refl
    (ap (signed (half_size width)) (quotient_reads m.registers width d j.fits))
    (ap (signed (half_size width)) (remainder_reads m.registers width d j.fits)) j.pair

refuses_by : (width : Width) (dividend divisor : ℕ) (o : Option Division) → JudgedSigned width dividend divisor o
    → is_none o ≡ true → (quotient remainder : ℤ) → SignedDivision width dividend divisor quotient remainder → ⊥
refuses_by width dividend divisor None j fault = j
refuses_by width dividend divisor (Some d) j fault = absurd (cc)

judged_instr : {S : Type 0} (bus : BusMeaning S) (m : Machine S) (i : Instr) → HoldsWords m.registers
    → JudgedSigned (operand_width m i) (dividend_of m.registers (operand_width m i)) (operand_of bus m i)
    (signed_division (operand_width m i) (dividend_of m.registers (operand_width m i)) (operand_of bus m i))
judged_instr bus m i words =
    let width = operand_width m i in
    judged width (dividend_of m.registers width) (operand_of bus m i) (dividend_fits m.registers width words) (cut_fits width _)

pub idiv_divides : {S : Type 0} (bus : BusMeaning S) → IdivDivides bus
unfolding after_product after_operation has_fault has_no_quotient
idiv_divides bus = record {
  divides = λ m i words fault.
      divides_by bus m (operand_width m i) (dividend_of m.registers (operand_width m i)) (operand_of bus m i) _ (judged_instr bus m i words) fault;
  refuses = λ m i words fault.
      refuses_by (operand_width m i) (dividend_of m.registers (operand_width m i)) (operand_of bus m i) _ (judged_instr bus m i words) fault;
  enters = λ m i fault. enters_by bus m (operand_width m i) _ fault;
}
