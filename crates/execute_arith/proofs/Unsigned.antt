-- MUL and DIV of unsigned numbers.
use Rattle.std.proofs.Common.{◌≡◌, ℕ, ◌+◌, ◌*◌, ◌/◌, ◌%◌, ◌<◌, ◌≤◌, true, false, ◌==◌, nat_le, if◌then◌else◌, Option, Some, None, refl, sym, ap, ◌∙◌, arith}
use Rattle.std.specs.Prelude.{is_none}
use Rattle.std.proofs.Math.Nat.{div-add-mod, mod-lt, pos_of_ne-zero}
use Rattle.std.proofs.lemmas.Nat.{div-mul-add}
use Rattle.std.proofs.lemmas.Bool.{cond_both, eqb-true, eqb-false, leb-true, leb-false}
use Rattle.bus.specs.Bus.{BusMeaning}
use Rattle.execute_machine.specs.RegisterFile.{Registers}
use Rattle.execute_machine.specs.declared.width.Width.{Width}
use Rattle.execute_machine.specs.declared.width.Width.TheVariants.{Byte, Word}
use Rattle.execute_machine.specs.Widths.{size_of}
use Rattle.execute_machine.specs.Locations.{Machine}
use Rattle.execute_machine.specs.Stack.{after_entry}
use Rattle.execute_arith.specs.declared.numbers.Division.{Division}
use Rattle.execute_arith.specs.declared.numbers.FullProduct.{FullProduct}
use Rattle.execute_arith.specs.Numbers.{unsigned_product, unsigned_division}
use Rattle.execute_arith.specs.Products.{accumulator, dividend_of, with_product, with_division, after_division}
use Rattle.execute_arith.specs.Products.{after_operation, has_no_quotient, after_product, has_fault}
use Rattle.execute_arith.specs.ProductLaws.{MulMultiplies, Divides, DivDivides, remainder_of, operand_of, operand_width}

-- a product reads back from AX or DX:AX
pub product_reads : (r : Registers) (width : Width) (p : FullProduct) → dividend_of (with_product r width p) width ≡ p.value
unfolding with_product
product_reads r Byte p = refl
product_reads r Word p = omega arith

pub mul_multiplies : {S : Type 0} (bus : BusMeaning S) → MulMultiplies bus
unfolding after_product after_operation unsigned_product
mul_multiplies bus m i = product_reads m.registers (operand_width m i) _

-- a quotient and a remainder read back from their registers
pub quotient_reads : (r : Registers) (width : Width) (d : Division) → d.quotient < size_of width → accumulator (with_division r width d) width ≡ d.quotient
unfolding with_division
quotient_reads r Byte d fits = omega arith
quotient_reads r Word d fits = refl

pub remainder_reads : (r : Registers) (width : Width) (d : Division) → d.quotient < size_of width → remainder_of (with_division r width d) width ≡ d.remainder
unfolding with_division
remainder_reads r Byte d fits = omega arith
remainder_reads r Word d fits = refl

-- what a division may answer: none if no pair fits, or else a pair that fits
abbrev pub Judged : ℕ → ℕ → ℕ → Option Division → Type 0
Judged size dividend divisor None = (quotient remainder : ℕ) → Divides size dividend divisor quotient remainder → ⊥
Judged size dividend divisor (Some d) = Divides size dividend divisor d.quotient d.remainder

pub none_by_zero : (size dividend divisor : ℕ) → divisor ≡ 0 → (quotient remainder : ℕ) → Divides size dividend divisor quotient remainder → ⊥
none_by_zero size dividend divisor zero quotient remainder d = omega (arith, d.below, zero)

pub none_that_fits : (size dividend divisor : ℕ) → size ≤ dividend / divisor → (quotient remainder : ℕ) → Divides size dividend divisor quotient remainder → ⊥
none_that_fits size dividend divisor great quotient remainder d =
    let turned : dividend ≡ quotient * divisor + remainder = omega (arith, d.sum) in
    let exact : dividend / divisor ≡ quotient =
    ap (λ (k : ℕ). k / divisor) turned ∙ div-mul-add quotient divisor remainder d.below in
    omega (arith, great, exact, d.fits)

pub divided : (size dividend divisor : ℕ) → 0 < divisor → dividend / divisor < size → Divides size dividend divisor (dividend / divisor) (dividend % divisor)
divided size dividend divisor some small =
    record { sum = sym (div-add-mod dividend divisor); below = mod-lt dividend some; fits = small }

judged : (width : Width) (dividend divisor : ℕ) → Judged (size_of width) dividend divisor (unsigned_division width dividend divisor)
unfolding unsigned_division
judged width dividend divisor =
    let size = size_of width in
    let quotient : Option Division = Some (record { quotient = dividend / divisor; remainder = dividend % divisor }) in
    cond_both (divisor == 0) None (if nat_le size (dividend / divisor) then None else quotient) (Judged size dividend divisor)
    (λ zero. none_by_zero size dividend divisor (eqb-true divisor 0 zero))
    (λ some. cond_both (nat_le size (dividend / divisor)) None quotient (Judged size dividend divisor)
    (λ great. none_that_fits size dividend divisor (leb-true size (dividend / divisor) great))
    (λ small. divided size dividend divisor (pos_of_ne-zero (eqb-false divisor 0 some)) (leb-false size (dividend / divisor) small)))

at_pair : (size dividend divisor q r q' r' : ℕ) → q' ≡ q → r' ≡ r → Divides size dividend divisor q r → Divides size dividend divisor q' r'
at_pair size dividend divisor q r q' r' e f d =
    record {
      sum = d.sum ∙ ap (λ (k : ℕ). divisor * k + r) (sym e) ∙ ap (λ (k : ℕ). divisor * q' + k) (sym f);
      below = omega (arith, d.below);
      fits = omega (arith, d.fits);
    }

divides_by : {S : Type 0} (bus : BusMeaning S) (m : Machine S) (width : Width) (dividend divisor : ℕ) (o : Option Division)
    → Judged (size_of width) dividend divisor o → is_none o ≡ false
    → Divides (size_of width) dividend divisor (accumulator (after_division bus m width o).registers width)
    (remainder_of (after_division bus m width o).registers width)
unfolding after_division
divides_by bus m width dividend divisor None j fault = absurd (cc)
divides_by bus m width dividend divisor (Some d) j fault =
    at_pair (size_of width) dividend divisor d.quotient d.remainder _ _
    (quotient_reads m.registers width d j.fits) (remainder_reads m.registers width d j.fits) j

refuses_by : (size dividend divisor : ℕ) (o : Option Division) → Judged size dividend divisor o
    → is_none o ≡ true → (quotient remainder : ℕ) → Divides size dividend divisor quotient remainder → ⊥
refuses_by size dividend divisor None j fault = j
refuses_by size dividend divisor (Some d) j fault = absurd (cc)

pub enters_by : {S : Type 0} (bus : BusMeaning S) (m : Machine S) (width : Width) (o : Option Division) → is_none o ≡ true
    → after_division bus m width o ≡ after_entry bus m 0
unfolding after_division
enters_by bus m width None fault = refl
enters_by bus m width (Some d) fault = absurd (cc)

pub div_divides : {S : Type 0} (bus : BusMeaning S) → DivDivides bus
unfolding after_product after_operation has_fault has_no_quotient
div_divides bus = record {
  divides = λ m i fault.
      divides_by bus m (operand_width m i) (dividend_of m.registers (operand_width m i)) (operand_of bus m i) _
      (judged (operand_width m i) (dividend_of m.registers (operand_width m i)) (operand_of bus m i)) fault;
  refuses = λ m i fault.
      refuses_by (size_of (operand_width m i)) (dividend_of m.registers (operand_width m i)) (operand_of bus m i) _
      (judged (operand_width m i) (dividend_of m.registers (operand_width m i)) (operand_of bus m i)) fault;
  enters = λ m i fault. enters_by bus m (operand_width m i) _ fault;
}
