-- A shift by several places: all but the last at once, since no bit that leaves there shows in the flags.
use Rattle.std.proofs.Common.{◌≡◌, ℕ, zero, suc, ◌+◌, ◌-◌, ◌*◌, ◌/◌, ◌%◌, ◌^◌, ◌<◌, ◌≤◌, true, false, if◌then◌else◌, sym, ap, ◌∙◌, arith, inl, inr}
use Rattle.std.proofs.Math.Nat.{div-eq_of_lt}
use Rattle.std.proofs.lemmas.Nat.{pow-add, pow_pos}
use Rattle.std.proofs.lemmas.Bool.{cases_lt}
use Rattle.std.proofs.lemmas.Bool.Decides.{nat_tests}
use Rattle.board_types.specs.Iterate.{iterate}
use Rattle.isa.specs.declared.operation.Shift.TheVariants.{Shl, Shr, Sar}
use Rattle.execute_machine.specs.FlagState.{FlagState}
use Rattle.execute_machine.specs.declared.width.Width.{Width}
use Rattle.execute_machine.specs.declared.width.Width.TheVariants.{Byte, Word}
use Rattle.execute_machine.specs.Widths.{size_of, half_size, is_negative}
use Rattle.execute_arith.specs.declared.single.Shifted.{Shifted}
use Rattle.execute_arith.specs.Single.{after_single, after_left, after_right}
use Rattle.execute_arith.specs.Places.{alone, lack, signed_right}
use Rattle.execute_arith.specs.Shifts.{after_shifts, shifted_operand}
use Rattle.execute_arith.proofs.Powers.{sar_high_value, sar_low_value, shl_multiplies, shr_divides}

-- a place past the last bit
split : (k : ℕ) → 15 < k → 2 ^ k ≡ 65536 * 2 ^ (k - 16)
split k many = let parts : k ≡ 16 + (k - 16) = omega (arith, many) in ap (λ n. 2 ^ n) parts ∙ pow-add 2 16 (k - 16)

pub none_right : (v k : ℕ) → v < 65536 → 15 < k → 0 ≡ v / 2 ^ k
none_right v k fits many = sym (div-eq_of_lt (omega (arith, fits, split k many, pow_pos (k - 16))))

turned : (v x : ℕ) → v * (65536 * x) ≡ (v * x) * 65536
turned v x = omega arith

cut : (width : Width) (x : ℕ) → 0 ≡ x * 65536 % size_of width
cut Byte x = omega arith
cut Word x = omega arith

pub none_left : (width : Width) (v k : ℕ) → 15 < k → 0 ≡ v * 2 ^ k % size_of width
none_left width v k many =
    cut width (v * 2 ^ (k - 16)) ∙ ap (λ n. n % size_of width) (sym (ap (λ n. v * n) (split k many) ∙ turned v (2 ^ (k - 16))))

pub last_left : (width : Width) (f : FlagState) (a count value : ℕ) → 0 < count → a < size_of width → value ≡ a * 2 ^ (count - 1) % size_of width
    → after_single Shl width (alone value) ≡ after_shifts Shl width (shifted_operand f a) count
unfolding after_shifts iterate after_single after_left
last_left width f a zero value some fits is = absurd (omega (arith, some))
last_left width f a (suc n) value some fits is =
    let at : suc n - 1 ≡ n = omega arith in
    ap (λ x. after_single Shl width (alone x)) (is ∙ ap (λ k. a * 2 ^ k % size_of width) at ∙ sym (shl_multiplies width (shifted_operand f a) n fits))

pub last_right : (width : Width) (f : FlagState) (a count value : ℕ) → 0 < count → value ≡ a / 2 ^ (count - 1)
    → after_single Shr width (alone value) ≡ after_shifts Shr width (shifted_operand f a) count
unfolding after_shifts iterate after_single after_right
last_right width f a zero value some is = absurd (omega (arith, some))
last_right width f a (suc n) value some is =
    let at : suc n - 1 ≡ n = omega arith in
    ap (λ x. after_single Shr width (alone x)) (is ∙ ap (λ k. a / 2 ^ k) at ∙ sym (shr_divides width (shifted_operand f a) n))

not_negative : (width : Width) (v : ℕ) → v < half_size width → is_negative width v ≡ false
not_negative Byte v low = grind (arith, nat_tests)
not_negative Word v low = grind (arith, nat_tests)

negative : (width : Width) (v : ℕ) → half_size width ≤ v → is_negative width v ≡ true
negative Byte v above = grind (arith, nat_tests)
negative Word v above = grind (arith, nat_tests)

signed_value : (width : Width) (s : Shifted) (n : ℕ) → s.value < size_of width → signed_right width s.value n ≡ (after_shifts Sar width s n).value
signed_value width s n fits = elim (cases_lt s.value (half_size width)) [
  | inl low ↦
      ap (λ b. if b then lack width (lack width s.value / 2 ^ n) else s.value / 2 ^ n) (not_negative width s.value low) ∙ sym (sar_low_value width s n low)
  | inr above ↦
      ap (λ b. if b then lack width (lack width s.value / 2 ^ n) else s.value / 2 ^ n) (negative width s.value above)
      ∙ sym (sar_high_value width s n above fits)
]

pub last_signed : (width : Width) (f : FlagState) (a count value : ℕ) → 0 < count → a < size_of width → value ≡ signed_right width a (count - 1)
    → after_single Sar width (alone value) ≡ after_shifts Sar width (shifted_operand f a) count
unfolding after_shifts iterate after_single after_right
last_signed width f a zero value some fits is = absurd (omega (arith, some))
last_signed width f a (suc n) value some fits is =
    let at : suc n - 1 ≡ n = omega arith in
    ap (λ x. after_single Sar width (alone x)) (is ∙ ap (signed_right width a) at ∙ signed_value width (shifted_operand f a) n fits)
