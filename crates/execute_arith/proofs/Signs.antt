-- Numbers by a sign and a magnitude.
use Rattle.execute_machine.specs.Flags.{differ}
use Rattle.std.proofs.Common.{◌≡◌, ℕ, zero, suc, ◌+◌, ◌*◌, ◌<◌, ◌≤◌, Bool, true, false, refl, sym, ap, ◌∙◌, arith, ◌⊎◌, inl, inr}
use Rattle.std.specs.Prelude.{ℤ, pos, negsuc, neg_ℤ, ◌+ℤ◌, ◌*ℤ◌, nat_abs, int_lt}
use Rattle.std.proofs.Math.Nat.{mul-zero, zero-mul, mul-suc}
use Rattle.std.proofs.lemmas.Int.{ints, unsigned_abs-mul}
use Rattle.std.proofs.lemmas.Bool.Decides.{nat_tests}
use Rattle.execute_arith.specs.Numbers.{is_minus, magnitude, with_sign}
use Rattle.execute_arith.specs.ProductLaws.{signed, Divides, DividesSigned}

abbrev pub number : Bool → ℕ → ℤ
number true n = neg_ℤ (pos n)
number false n = pos n

pub abs_number : (s : Bool) (n : ℕ) → nat_abs (number s n) ≡ n
abs_number true zero = refl
abs_number true (suc n) = refl
abs_number false n = refl

pub signs_multiply : (s t : Bool) (a b : ℕ) → number (differ s t) (a * b) ≡ number s a *ℤ number t b
signs_multiply false false a b = refl
signs_multiply false true a zero = rw mul-zero refl
signs_multiply false true a (suc b) = refl
signs_multiply true false zero b = rw zero-mul refl
signs_multiply true false (suc a) b = refl
signs_multiply true true zero zero = refl
signs_multiply true true zero (suc b) = rw zero-mul refl
signs_multiply true true (suc a) zero = rw mul-zero refl
signs_multiply true true (suc a) (suc b) = refl

pub sign_adds : (s : Bool) (a b : ℕ) → number s (a + b) ≡ number s a +ℤ number s b
sign_adds true a b = omega (arith, ints)
sign_adds false a b = refl

pub signed_parts : (half n : ℕ) → n < 2 * half → signed half n ≡ number (is_minus half n) (magnitude half n)
signed_parts half n fits = grind (arith, nat_tests, ints)

pub signed_with : (half : ℕ) (minus : Bool) (n : ℕ) → n < half → signed half (with_sign half minus n) ≡ number minus n
signed_with half true n fits = grind (arith, nat_tests, ints)
signed_with half false n fits = grind (arith, nat_tests, ints)

pub magnitude_fits : (half n : ℕ) → n < 2 * half → magnitude half n ≤ half
magnitude_fits half n fits = grind (arith, nat_tests)

-- if what is left is smaller than the product, or the product is 0, and has the sum's sign, magnitudes add up
Apart : ℤ → ℤ → Type 0
Apart p r = (nat_abs p ≡ 0) ⊎ (nat_abs r < nat_abs p)

below_zero : (a : ℕ) → int_lt (pos a) (pos 0) ≡ true → ⊥
below_zero a h = grind (arith, nat_tests)

magnitudes_add : (n p r : ℤ) → n ≡ p +ℤ r → Apart p r → (r ≡ pos 0) ⊎ (int_lt r (pos 0) ≡ int_lt n (pos 0)) → nat_abs n ≡ nat_abs p + nat_abs r
unfolding Apart
magnitudes_add (pos a) (pos b) (pos c) e apart sign = omega (arith, ints)
magnitudes_add (pos a) (negsuc b) (pos c) e apart sign =
    elim apart [ inl none ↦ omega (arith, ints, none) | inr less ↦ omega (arith, ints, less) ]
magnitudes_add (pos a) p (negsuc c) e apart sign =
    elim sign [ inl none ↦ absurd (cc) | inr alike ↦ absurd (below_zero a (sym alike)) ]
magnitudes_add (negsuc a) (pos b) (pos c) e apart sign = absurd (cc)
magnitudes_add (negsuc a) (negsuc b) (pos c) e apart sign =
    elim sign [ inl none ↦ omega (arith, ints, none) | inr alike ↦ absurd (below_zero c alike) ]
magnitudes_add (negsuc a) (pos b) (negsuc c) e apart sign =
    elim apart [ inl none ↦ omega (arith, ints, none) | inr less ↦ omega (arith, ints, less) ]
magnitudes_add (negsuc a) (negsuc b) (negsuc c) e apart sign = omega (arith, ints)

-- a product by a number is 0, or no smaller than that number
product_apart : (d q : ℕ) → (d * q ≡ 0) ⊎ (d ≤ d * q)
product_apart d zero = inl (mul-zero d)
product_apart d (suc q) = inr (rw mul-suc (omega arith))

apart_by : (d q r : ℤ) → nat_abs r < nat_abs d → Apart (d *ℤ q) r
unfolding Apart
apart_by d q r below =
    let product : nat_abs (d *ℤ q) ≡ nat_abs d * nat_abs q = unsigned_abs-mul d q in
    elim (product_apart (nat_abs d) (nat_abs q)) [ inl none ↦ inl (product ∙ none) | inr least ↦ inr (omega (arith, product, least, below)) ]

-- the magnitudes of a division of signed numbers are a division
pub magnitudes_divide : (half : ℕ) (n d q r : ℤ) → DividesSigned half n d q r → Divides half (nat_abs n) (nat_abs d) (nat_abs q) (nat_abs r)
magnitudes_divide half n d q r v = record {
  sum = magnitudes_add n (d *ℤ q) r v.sum (apart_by d q r v.below) v.sign ∙ ap (λ (k : ℕ). k + nat_abs r) (unsigned_abs-mul d q);
  below = v.below;
  fits = v.fits;
}

-- a division with signs put upon it is one of signed numbers
same_sign : (s : Bool) (n d q r : ℕ) → n ≡ d * q + r → (number s r ≡ pos 0) ⊎ (int_lt (number s r) (pos 0) ≡ int_lt (number s n) (pos 0))
same_sign true n d q zero e = inl refl
same_sign false n d q zero e = inl refl
same_sign false n d q (suc r) e = inr (grind (arith, nat_tests))
same_sign true zero d q (suc r) e = absurd (omega arith)
same_sign true (suc n) d q (suc r) e = inr refl

differ_twice : (s t : Bool) → differ t (differ s t) ≡ s
differ_twice true true = refl
differ_twice true false = refl
differ_twice false true = refl
differ_twice false false = refl

pub signs_divide : (half : ℕ) (s t : Bool) (n d q r : ℕ) → Divides half n d q r
    → DividesSigned half (number s n) (number t d) (number (differ s t) q) (number s r)
signs_divide half s t n d q r v = record {
  sum = ap (number s) v.sum ∙ sign_adds s (d * q) r
      ∙ ap (λ (k : Bool). number k (d * q) +ℤ number s r) (sym (differ_twice s t))
      ∙ ap (λ (z : ℤ). z +ℤ number s r) (signs_multiply t (differ s t) d q);
  below = omega (arith, abs_number s r, abs_number t d, v.below);
  sign = same_sign s n d q r v.sum;
  fits = omega (arith, abs_number (differ s t) q, v.fits);
}
