-- Counts that fall, and go round below 0.
use Rattle.std.proofs.Common.{◌≡◌, ◌≢◌, ℕ, ◌+◌, ◌-◌, ◌*◌, ◌/◌, ◌%◌, ◌<◌, ◌≤◌, ◌⊎◌, true, false, refl, sym, ap, ◌∙◌, arith, inl, inr, nat_lt, lit≤}
use Rattle.std.specs.Prelude.{◌==◌}
use Rattle.std.proofs.lemmas.Bool.{cases_lt}
use Rattle.std.proofs.lemmas.Bool.Decides.{nat_tests}
use Rattle.std.proofs.lemmas.Nat.{mod_below}
use Rattle.std.proofs.Math.Nat.{mod-eq_of_lt, mod_self, add-mod_right, mod-add-mod}
use Rattle.pit8253.specs.declared.program.Radix.{Radix}
use Rattle.pit8253.specs.declared.program.Radix.TheVariants.{Binary, Decimal}
use Rattle.pit8253.specs.Program.{modulus, count_minus}
use Rattle.pit8253.specs.PitLaws.{length_of, count_after}
use Rattle.pit8253.proofs.Falls.{if_yes, if_no}

-- tests of numbers

pub differs : (a b : ℕ) → a ≢ b → (a == b) ≡ false
differs a b other = grind (arith, nat_tests)

pub same : (a b : ℕ) → a ≡ b → (a == b) ≡ true
same a b is = grind (arith, nat_tests)

pub below : (a b : ℕ) → a < b → nat_lt a b ≡ true
below a b is = grind (arith, nat_tests)

pub not_below : (a b : ℕ) → b ≤ a → nat_lt a b ≡ false
not_below a b is = grind (arith, nat_tests)

pub modulus_even : (radix : Radix) → modulus radix ≡ 2 * (modulus radix / 2)
modulus_even Binary = refl
modulus_even Decimal = refl

pub modulus_large : (radix : Radix) → 10000 ≤ modulus radix
modulus_large Binary = lit≤ tt
modulus_large Decimal = lit≤ tt

pub minus_within : (radix : Radix) (count by : ℕ) → by ≤ count → count_minus radix count by ≡ count - by
minus_within radix count by within = if_no (nat_lt count by) (count + modulus radix - by) (count - by) (not_below count by within)

pub minus_around : (radix : Radix) (count by : ℕ) → count < by → count_minus radix count by ≡ count + modulus radix - by
minus_around radix count by around = if_yes (nat_lt count by) (count + modulus radix - by) (count - by) (below count by around)

pub length_some : (radix : Radix) (count : ℕ) → 0 < count → length_of radix count ≡ count
length_some radix count some = if_no (count == 0) (modulus radix) count (differs count 0 (omega arith))

pub length_none : (radix : Radix) (count : ℕ) → count ≡ 0 → length_of radix count ≡ modulus radix
length_none radix count none = if_yes (count == 0) (modulus radix) count (same count 0 none)

-- a count that is so much less, by whether it goes round
pub high_part : (m count r : ℕ) → count < m → r ≤ count → (count + m - r) % m ≡ count - r
high_part m count r within le =
    let parts : count + m - r ≡ (count - r) + m = omega arith in
    let small : count - r < m = omega arith in
    ap (λ k. k % m) parts ∙ add-mod_right (count - r) m ∙ mod-eq_of_lt small

low_part : (m count r : ℕ) → count < r → r ≤ m → (count + m - r) % m ≡ count + m - r
low_part m count r around le =
    let small : count + m - r < m = omega arith in
    mod-eq_of_lt small

-- one more, by whether the remainder goes round
record More (m r s : ℕ) : Type 0 where
  here : r < m
  there : ((r + 1 < m) × (s ≡ r + 1)) ⊎ ((r + 1 ≡ m) × (s ≡ 0))

one_more : (m n : ℕ) → 0 < m → More m (n % m) ((n + 1) % m)
one_more m n some =
    let here : n % m < m = mod_below n m some in
    let next : (n + 1) % m ≡ (n % m + 1) % m = sym (mod-add-mod n m 1) in
    record {
      here = here;
      there = elim (cases_lt (n % m + 1) m) [
        | inl more ↦ inl (more, next ∙ mod-eq_of_lt more)
        | inr round ↦
            let is : n % m + 1 ≡ m = omega arith in
            inr (is, next ∙ ap (λ k. k % m) is ∙ mod_self m)
      ];
    }

-- one less, by whether the count goes round
less_one : (radix : Radix) (v w : ℕ) → ((v ≡ 0) × (w ≡ modulus radix - 1)) ⊎ ((0 < v) × (w ≡ v - 1)) → count_minus radix v 1 ≡ w
less_one radix v w (inl round) =
    let large = modulus_large radix in
    minus_around radix v 1 (omega (arith, round.0)) ∙ omega (arith, round.0, round.1)
less_one radix v w (inr within) = minus_within radix v 1 (omega (arith, within.0)) ∙ sym within.1

round_step : (m count r s : ℕ) → count < m → More m r s
    → (((count + m - r) % m ≡ 0) × ((count + m - s) % m ≡ m - 1)) ⊎ ((0 < (count + m - r) % m) × ((count + m - s) % m ≡ (count + m - r) % m - 1))
round_step m count r s within more = elim (cases_lt count r) [
  | inl around ↦
      let here = low_part m count r around (omega (arith, more.here)) in
      elim more.there [
        | inl next ↦
            let there = low_part m count s (omega (arith, next.1)) (omega (arith, next.0, next.1)) in
            inr (omega (arith, more.here), omega (arith, next.0, next.1))
        | inr last ↦
            let there = high_part m count s within (omega (arith, last.1)) in
            inr (omega (arith, more.here), omega (arith, last.0, last.1))
      ]
  | inr le ↦
      let here = high_part m count r within le in
      elim more.there [
        | inl next ↦ elim (cases_lt r count) [
          | inl lt ↦
              let there = high_part m count s within (omega (arith, next.1)) in
              inr (omega arith, omega (arith, next.0, next.1))
          | inr eq ↦
              let there = low_part m count s (omega (arith, next.1)) (omega (arith, next.0, next.1)) in
              inl (omega arith, omega (arith, next.0, next.1))
        ]
        | inr last ↦
            let there = high_part m count s within (omega (arith, last.1)) in
            inl (omega (arith, last.0), omega (arith, last.0, last.1))
      ]
]

pub after_none : (radix : Radix) (count : ℕ) → count < modulus radix → count_after radix count 0 ≡ count
after_none radix count within =
    let none : 0 % modulus radix ≡ 0 = mod-eq_of_lt (omega (arith, modulus_large radix)) in
    ap (λ r. (count + modulus radix - r) % modulus radix) none ∙ high_part (modulus radix) count 0 within (omega arith) ∙ omega arith

pub after_more : (radix : Radix) (count n : ℕ) → count < modulus radix → count_minus radix (count_after radix count n) 1 ≡ count_after radix count (n + 1)
after_more radix count n within =
    less_one radix (count_after radix count n) (count_after radix count (n + 1))
    (round_step (modulus radix) count (n % modulus radix) ((n + 1) % modulus radix) within (one_more (modulus radix) n (omega (arith, modulus_large radix))))

-- a count within its radix is short of the modulus and not nothing
pub record Lengths (radix : Radix) (count : ℕ) : Type 0 where
  pub some : 0 < length_of radix count
  pub short : length_of radix count ≤ modulus radix
  pub is : ((count ≡ 0) × (length_of radix count ≡ modulus radix)) ⊎ ((0 < count) × (length_of radix count ≡ count))

pub lengths : (radix : Radix) (count : ℕ) → count < modulus radix → Lengths radix count
lengths radix count within = elim (cases_lt 0 count) [
  | inl some ↦
      let is = length_some radix count some in
      record { some = omega arith; short = omega arith; is = inr (some, is) }
  | inr none ↦
      let zero_count : count ≡ 0 = omega arith in
      let is = length_none radix count zero_count in
      let large = modulus_large radix in
      record { some = omega arith; short = omega arith; is = inl (zero_count, is) }
]

-- before the count's end, and at it

pub after_within : (radix : Radix) (count n : ℕ) → count < modulus radix → 0 < n → n < length_of radix count
    → count_after radix count n ≡ length_of radix count - n
after_within radix count n within some before =
    let long : Lengths radix count = lengths radix count within in
    let small : n < modulus radix = omega (arith, long.short) in
    ap (λ r. (count + modulus radix - r) % modulus radix) (mod-eq_of_lt small)
    ∙ elim long.is [
      | inl none ↦ low_part (modulus radix) count n (omega (arith, none.0)) (omega arith) ∙ omega (arith, none.0, none.1)
      | inr more ↦ high_part (modulus radix) count n within (omega (arith, more.1)) ∙ omega (arith, more.1)
    ]

pub after_end : (radix : Radix) (count : ℕ) → count < modulus radix → count_after radix count (length_of radix count) ≡ 0
after_end radix count within =
    let long : Lengths radix count = lengths radix count within in
    elim long.is [
      | inl none ↦
          let round : length_of radix count % modulus radix ≡ 0 = ap (λ k. k % modulus radix) none.1 ∙ mod_self (modulus radix) in
          ap (λ r. (count + modulus radix - r) % modulus radix) round ∙ high_part (modulus radix) count 0 within (omega arith) ∙ omega (arith, none.0)
      | inr more ↦
          let small : length_of radix count < modulus radix = omega (arith, more.1) in
          ap (λ r. (count + modulus radix - r) % modulus radix) (mod-eq_of_lt small ∙ more.1)
          ∙ high_part (modulus radix) count count within (omega arith) ∙ omega arith
    ]
