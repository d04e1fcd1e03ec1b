-- What the adjustments make of sums and differences of decimal digits.
use Rattle.isa.specs.declared.operation.Adjust.TheVariants.{Aaa, Aas}
use Rattle.std.proofs.Common.{◌≡◌, ℕ, ◌+◌, ◌*◌, ◌/◌, ◌%◌, ◌-◌, ◌<◌, ◌≤◌, Bool, true, false, ◌||◌, if◌then◌else◌, nat_lt, nat_le, refl, ap, subst, ◌∙◌, arith}
use Rattle.std.specs.Int.{from_bool}
use Rattle.std.proofs.lemmas.Bool.Decides.{nat_tests}
use Rattle.execute_machine.specs.RegisterFile.{Registers}
use Rattle.execute_machine.specs.Sums.{with_difference, with_sum}
use Rattle.execute_arith.specs.ArithmeticMeaning.{adjusts_low, ah_of, al_of, with_unpacked, after_adjust}
use Rattle.execute_arith.specs.ArithmeticLaws.{packed, AaaAdds, AadJoins, AadUndoesAam, AamParts, AasSubtracts}
use Rattle.execute_arith.specs.ArithmeticLaws.{DaaAdds, DasSubtracts, HasDifference, HasSum, LeavesDigit}

-- DAA and DAS on plain numbers: AL, AF and CF as the sum or the difference left them
abbrev change : Bool → Bool → ℕ → ℕ
change auxiliary carry al = (if nat_lt 9 (al % 16) || auxiliary then 6 else 0) + (if nat_lt 0x99 al || carry then 0x60 else 0)

sum_adjusted : (x y c al : ℕ) (auxiliary carry : Bool) → x < 100 → y < 100 → c < 2 → al ≡ (packed x + packed y + c) % 256
    → auxiliary ≡ nat_le 16 (packed x % 16 + packed y % 16 + c) → carry ≡ nat_le 256 (packed x + packed y + c)
    → (al + change auxiliary carry al) % 256 ≡ packed ((x + y + c) % 100)
sum_adjusted x y c al auxiliary carry p q r is low high = grind (arith, nat_tests)

sum_carries : (x y c al : ℕ) (carry : Bool) → x < 100 → y < 100 → c < 2 → al ≡ (packed x + packed y + c) % 256
    → carry ≡ nat_le 256 (packed x + packed y + c) → (nat_lt 0x99 al || carry) ≡ nat_le 100 (x + y + c)
sum_carries x y c al carry p q r is high = grind (arith, nat_tests)

difference_adjusted : (x y c al : ℕ) (auxiliary carry : Bool) → x < 100 → y < 100 → c < 2 → al ≡ (packed x + 256 - (packed y + c)) % 256
    → auxiliary ≡ nat_lt (packed x % 16) (packed y % 16 + c) → carry ≡ nat_lt (packed x) (packed y + c)
    → (al + 256 - change auxiliary carry al) % 256 ≡ packed ((x + 100 - (y + c)) % 100)
difference_adjusted x y c al auxiliary carry p q r is low high = grind (arith, nat_tests)

difference_borrows : (x y c al : ℕ) (carry : Bool) → x < 100 → y < 100 → c < 2 → al ≡ (packed x + 256 - (packed y + c)) % 256
    → carry ≡ nat_lt (packed x) (packed y + c) → (nat_lt 0x99 al || carry) ≡ nat_lt x (y + c)
difference_borrows x y c al carry p q r is high = grind (arith, nat_tests)

-- AF and CF as a sum or a difference leaves them
low_of_sum : (r : Registers) (a b carry : ℕ) → HasSum r a b carry → r.flags.auxiliary_carry ≡ nat_le 16 (a % 16 + b % 16 + carry)
unfolding with_sum
low_of_sum r a b carry h = ap (λ f. f.auxiliary_carry) h.flags

carry_of_sum : (r : Registers) (a b carry : ℕ) → HasSum r a b carry → r.flags.carry ≡ nat_le 256 (a + b + carry)
unfolding with_sum
carry_of_sum r a b carry h = ap (λ f. f.carry) h.flags

low_of_difference : (r : Registers) (a b borrow : ℕ) → HasDifference r a b borrow → r.flags.auxiliary_carry ≡ nat_lt (a % 16) (b % 16 + borrow)
unfolding with_difference
low_of_difference r a b borrow h = ap (λ f. f.auxiliary_carry) h.flags

carry_of_difference : (r : Registers) (a b borrow : ℕ) → HasDifference r a b borrow → r.flags.carry ≡ nat_lt a (b + borrow)
unfolding with_difference
carry_of_difference r a b borrow h = ap (λ f. f.carry) h.flags

low_half : (word n : ℕ) → (word / 256 * 256 + n % 256) % 256 ≡ n % 256
low_half word n = omega arith

pub daa_adds : DaaAdds
unfolding after_adjust
daa_adds r x y carry p q b h = record {
  digits = low_half r.ax _ ∙ sum_adjusted x y carry (al_of r) _ _ p q b h.al (low_of_sum _ _ _ _ h) (carry_of_sum _ _ _ _ h);
  carry = sum_carries x y carry (al_of r) _ p q b h.al (carry_of_sum _ _ _ _ h);
}

pub das_subtracts : DasSubtracts
unfolding after_adjust
das_subtracts r x y borrow p q b h = record {
  digits = low_half r.ax _ ∙ difference_adjusted x y borrow (al_of r) _ _ p q b h.al (low_of_difference _ _ _ _ h) (carry_of_difference _ _ _ _ h);
  carry = difference_borrows x y borrow (al_of r) _ p q b h.al (carry_of_difference _ _ _ _ h);
}

-- AAA, if the sum of the digits is 10 or more, and if it isn't
digit_adjusts : (a b carry al : ℕ) (auxiliary : Bool) → a % 16 < 10 → b % 16 < 10 → carry < 2 → al ≡ (a + b + carry) % 256
    → auxiliary ≡ nat_le 16 (a % 16 + b % 16 + carry) → (nat_lt 9 (al % 16) || auxiliary) ≡ nat_le 10 (a % 16 + b % 16 + carry)
digit_adjusts a b carry al auxiliary p q c is low = grind (arith, nat_tests)

above_ten : (t : ℕ) → true ≡ nat_le 10 t → 10 ≤ t
above_ten t e = grind (arith, nat_tests)

below_ten : (t : ℕ) → false ≡ nat_le 10 t → t < 10
below_ten t e = grind (arith, nat_tests)

digit_carries : (r : Registers) (t : ℕ) → r.ax < 65536 → t < 20 → al_of r % 16 ≡ t % 16 → 10 ≤ t
    → LeavesDigit (with_unpacked r ((ah_of r + 1) % 256) ((al_of r + 6) % 16) true) ((ah_of r + t / 10) % 256) (t % 10) true
digit_carries r t big most is ten = record { high_byte = omega arith; low_byte = omega arith; carry = refl }

digit_stays : (r : Registers) (t : ℕ) → r.ax < 65536 → al_of r % 16 ≡ t % 16 → t < 10
    → LeavesDigit (with_unpacked r (ah_of r) (al_of r % 16) false) ((ah_of r + t / 10) % 256) (t % 10) false
digit_stays r t big is ten = record { high_byte = omega arith; low_byte = omega arith; carry = refl }

aaa_leaves : (r : Registers) (t : ℕ) (adjusted : Bool) → r.ax < 65536 → t < 20 → al_of r % 16 ≡ t % 16 → adjusted ≡ nat_le 10 t
    → LeavesDigit (if adjusted then with_unpacked r ((ah_of r + 1) % 256) ((al_of r + 6) % 16) true else with_unpacked r (ah_of r) (al_of r % 16) false)
    ((ah_of r + t / 10) % 256) (t % 10) adjusted
aaa_leaves r t true big most is e = digit_carries r t big most is (above_ten t e)
aaa_leaves r t false big most is e = digit_stays r t big is (below_ten t e)

low_digit_of_sum : (a b carry al : ℕ) → al ≡ (a + b + carry) % 256 → al % 16 ≡ (a % 16 + b % 16 + carry) % 16
low_digit_of_sum a b carry al is = omega arith

pub aaa_adds : AaaAdds
unfolding after_adjust
aaa_adds r a b carry big p q c h =
    let e = digit_adjusts a b carry (al_of r) _ p q c h.al (low_of_sum _ _ _ _ h) in
    subst (λ carries. LeavesDigit (after_adjust r Aaa) ((ah_of r + (a % 16 + b % 16 + carry) / 10) % 256) ((a % 16 + b % 16 + carry) % 10) carries) e
    (aaa_leaves r (a % 16 + b % 16 + carry) (adjusts_low r.flags (al_of r)) big (omega arith) (low_digit_of_sum a b carry (al_of r) h.al) e)

-- AAS, if the difference of the digits is below 0, and if it isn't
digit_borrows : (a b borrow al : ℕ) (auxiliary : Bool) → a < 256 → b < 256 → a % 16 < 10 → b % 16 < 10 → borrow < 2 → al ≡ (a + 256 - (b + borrow)) % 256
    → auxiliary ≡ nat_lt (a % 16) (b % 16 + borrow) → (nat_lt 9 (al % 16) || auxiliary) ≡ nat_lt (a % 16) (b % 16 + borrow)
digit_borrows a b borrow al auxiliary m n p q c is low = grind (arith, nat_tests)

low_digit_of_difference : (a b borrow al : ℕ) → a < 256 → b < 256 → borrow < 2 → al ≡ (a + 256 - (b + borrow)) % 256
    → al % 16 ≡ (a % 16 + 16 - (b % 16 + borrow)) % 16
low_digit_of_difference a b borrow al m n c is = omega arith

is_below : (x y : ℕ) → true ≡ nat_lt x y → x < y
is_below x y e = grind (arith, nat_tests)

is_not_below : (x y : ℕ) → false ≡ nat_lt x y → y ≤ x
is_not_below x y e = grind (arith, nat_tests)

borrow_is_taken : (r : Registers) (x y : ℕ) → r.ax < 65536 → x < 10 → y < 11 → al_of r % 16 ≡ (x + 16 - y) % 16 → x < y
    → LeavesDigit (with_unpacked r ((ah_of r + 256 - 1) % 256) ((al_of r + 256 - 6) % 16) true) ((ah_of r + 256 - 1) % 256) ((x + 10 - y) % 10) true
borrow_is_taken r x y big p q is below = record { high_byte = omega arith; low_byte = omega arith; carry = refl }

no_borrow_is_taken : (r : Registers) (x y : ℕ) → r.ax < 65536 → x < 10 → al_of r % 16 ≡ (x + 16 - y) % 16 → y ≤ x
    → LeavesDigit (with_unpacked r (ah_of r) (al_of r % 16) false) ((ah_of r + 256 - 0) % 256) ((x + 10 - y) % 10) false
no_borrow_is_taken r x y big p is above = record { high_byte = omega arith; low_byte = omega arith; carry = refl }

aas_leaves : (r : Registers) (x y : ℕ) (adjusted : Bool) → r.ax < 65536 → x < 10 → y < 11 → al_of r % 16 ≡ (x + 16 - y) % 16 → adjusted ≡ nat_lt x y
    → LeavesDigit
    (if adjusted then with_unpacked r ((ah_of r + 256 - 1) % 256) ((al_of r + 256 - 6) % 16) true else with_unpacked r (ah_of r) (al_of r % 16) false)
    ((ah_of r + 256 - from_bool adjusted) % 256) ((x + 10 - y) % 10) adjusted
aas_leaves r x y true big p q is e = borrow_is_taken r x y big p q is (is_below x y e)
aas_leaves r x y false big p q is e = no_borrow_is_taken r x y big p is (is_not_below x y e)

pub aas_subtracts : AasSubtracts
unfolding after_adjust
aas_subtracts r a b borrow big m n p q c h =
    let e = digit_borrows a b borrow (al_of r) _ m n p q c h.al (low_of_difference _ _ _ _ h) in
    subst (λ borrows. LeavesDigit (after_adjust r Aas) ((ah_of r + 256 - from_bool borrows) % 256) ((a % 16 + 10 - (b % 16 + borrow)) % 10) borrows) e
    (aas_leaves r (a % 16) (b % 16 + borrow) (adjusts_low r.flags (al_of r)) big p (omega arith) (low_digit_of_difference a b borrow (al_of r) m n c h.al) e)

pub aam_parts : AamParts
unfolding after_adjust
aam_parts r small = record { high = omega arith; low = omega arith; number = omega arith }

pub aad_joins : AadJoins
unfolding after_adjust
aad_joins r n h = omega (arith, h.high, h.low, h.number)

pub aad_undoes_aam : AadUndoesAam
unfolding after_adjust
aad_undoes_aam r = omega arith
