-- SHL, SHR and SAR by n are products and quotients.
use Rattle.std.proofs.Common.{◌≡◌, ℕ, zero, suc, ◌+◌, ◌-◌, ◌*◌, ◌/◌, ◌%◌, ◌^◌, ◌<◌, ◌≤◌, sym, ap, ◌∙◌, arith, inl, inr}
use Rattle.std.specs.Prelude.{ℤ, pos, negsuc, neg_ℤ, ◌+ℤ◌, ◌*ℤ◌}
use Rattle.std.proofs.Math.Nat.{pow-suc, mod-eq_of_lt, mod-lt, div-div-eq-div-mul, div-add-mod}
use Rattle.std.proofs.lemmas.Nat.{mul-mod_second, pow_pos}
use Rattle.std.proofs.lemmas.Int.{ints}
use Rattle.std.proofs.lemmas.Bool.{cases_lt}
use Rattle.std.proofs.lemmas.Bool.Decides.{nat_tests}
use Rattle.board_types.specs.Iterate.{iterate}
use Rattle.isa.specs.declared.operation.Shift.TheVariants.{Shl, Shr, Sar}
use Rattle.execute_machine.specs.declared.width.Width.{Width}
use Rattle.execute_machine.specs.declared.width.Width.TheVariants.{Byte, Word}
use Rattle.execute_machine.specs.Widths.{size_of, half_size}
use Rattle.execute_arith.specs.declared.single.Shifted.{Shifted}
use Rattle.execute_arith.specs.Single.{after_single, after_left, after_right}
use Rattle.execute_arith.specs.Places.{lack}
use Rattle.execute_arith.specs.Shifts.{after_shifts}
use Rattle.execute_arith.specs.ShiftLaws.{ShlMultiplies, ShrDivides, SarDivides, IsFloor, signed}
use Rattle.execute_arith.proofs.Runs.{Simulates, run_seen, kept_by_run}

left_once : (width : Width) (s : Shifted) → (after_single Shl width s).value ≡ 2 * s.value % size_of width
unfolding after_single after_left
left_once width s = omega arith

doubled : (v k : ℕ) → 2 * (v * 2 ^ k) ≡ v * 2 ^ suc k
doubled v k = rw pow-suc (omega arith)

pub shl_multiplies : ShlMultiplies
unfolding after_shifts iterate
shl_multiplies width s zero fits =
    let e : s.value * 2 ^ 0 ≡ s.value = omega arith in
    sym (ap (λ (k : ℕ). k % size_of width) e ∙ mod-eq_of_lt fits)
shl_multiplies width s (suc n) fits =
    left_once width (iterate (after_single Shl width) n s)
    ∙ ap (λ (v : ℕ). 2 * v % size_of width) (shl_multiplies width s n fits)
    ∙ mul-mod_second 2 (s.value * 2 ^ n) (size_of width)
    ∙ ap (λ (k : ℕ). k % size_of width) (doubled s.value n)

halved : (v n : ℕ) → v / 2 ^ n / 2 ≡ v / 2 ^ suc n
halved v n = div-div-eq-div-mul v (2 ^ n) 2 ∙ ap (λ (k : ℕ). v / k) (sym (pow-suc 2 n))

right_once : (width : Width) (s : Shifted) → (after_single Shr width s).value ≡ s.value / 2
unfolding after_single after_right
right_once width s = omega arith

pub shr_divides : ShrDivides
unfolding after_shifts iterate
shr_divides width s zero = omega arith
shr_divides width s (suc n) =
    right_once width (iterate (after_single Shr width) n s) ∙ ap (λ (v : ℕ). v / 2) (shr_divides width s n) ∙ halved s.value n

half : ℕ → ℕ
half v = v / 2

halves : (n v : ℕ) → iterate half n v ≡ v / 2 ^ n
unfolding iterate half
halves zero v = omega arith
halves (suc n) v = ap (λ (k : ℕ). k / 2) (halves n v) ∙ halved v n

-- a number that isn't negative is halved
Low : Width → Shifted → Type 0
Low width s = s.value < half_size width

low_once : (width : Width) → Simulates (after_single Sar width) half (λ s. s.value) (Low width)
unfolding after_single after_right half Low
low_once Byte = record { seen = λ s low. grind (arith, nat_tests); kept = λ s low. grind (arith, nat_tests) }
low_once Word = record { seen = λ s low. grind (arith, nat_tests); kept = λ s low. grind (arith, nat_tests) }

-- of a negative one what lacks to -1 is halved
record IsHigh (width : Width) (s : Shifted) : Type 0 where
  above : half_size width ≤ s.value
  fits : s.value < size_of width

high_once : (width : Width) → Simulates (after_single Sar width) half (λ s. lack width s.value) (IsHigh width)
unfolding after_single after_right half
high_once Byte =
    record { seen = λ s high. grind (arith, nat_tests); kept = λ s high. record { above = grind (arith, nat_tests); fits = grind (arith, nat_tests) } }
high_once Word =
    record { seen = λ s high. grind (arith, nat_tests); kept = λ s high. record { above = grind (arith, nat_tests); fits = grind (arith, nat_tests) } }

signed_low : (width : Width) (v : ℕ) → v < half_size width → signed width v ≡ pos v
signed_low Byte v low = grind (arith, nat_tests, ints)
signed_low Word v low = grind (arith, nat_tests, ints)

signed_high : (width : Width) (v : ℕ) → half_size width ≤ v → v < size_of width → signed width v ≡ negsuc (lack width v)
signed_high Byte v above fits = grind (arith, nat_tests, ints)
signed_high Word v above fits = grind (arith, nat_tests, ints)

floor_low : (v m : ℕ) → 0 < m → IsFloor (pos v) m (pos (v / m))
floor_low v m some = record { rest = v % m; below = mod-lt v some; sum = ap pos (sym (div-add-mod v m)) }

less : (k c r : ℕ) → k ≡ suc c + r → negsuc c ≡ neg_ℤ (pos k) +ℤ pos r
less k c r e = omega (arith, ints)

floor_high : (c m : ℕ) → 0 < m → IsFloor (negsuc c) m (negsuc (c / m))
floor_high c m some =
    let e : m * suc (c / m) ≡ suc c + (m - suc (c % m)) = omega (arith, div-add-mod c m, mod-lt c some) in
    record { rest = m - suc (c % m); below = omega arith; sum = less (m * suc (c / m)) c (m - suc (c % m)) e }

seen_as : (a b : ℤ) (m : ℕ) (x y : ℤ) → x ≡ a → y ≡ b → IsFloor a m b → IsFloor x m y
seen_as a b m x y xa yb f =
    record { rest = f.rest; below = f.below; sum = xa ∙ f.sum ∙ ap (λ (z : ℤ). pos m *ℤ z +ℤ pos f.rest) (sym yb) }

pub sar_low_value : (width : Width) (s : Shifted) (n : ℕ) → s.value < half_size width → (after_shifts Sar width s n).value ≡ s.value / 2 ^ n
unfolding after_shifts Low
sar_low_value width s n low = run_seen (after_single Sar width) half (λ (t : Shifted). t.value) (Low width) (low_once width) n s low ∙ halves n s.value

sar_low : (width : Width) (s : Shifted) (n : ℕ) → s.value < half_size width
    → IsFloor (signed width s.value) (2 ^ n) (signed width (after_shifts Sar width s n).value)
unfolding after_shifts Low
sar_low width s n low =
    let step = after_single Sar width in
    let e : (iterate step n s).value ≡ s.value / 2 ^ n = sar_low_value width s n low in
    let still : (iterate step n s).value < half_size width = kept_by_run step half (λ (t : Shifted). t.value) (Low width) (low_once width) n s low in
    seen_as (pos s.value) (pos (s.value / 2 ^ n)) (2 ^ n) (signed width s.value) (signed width (iterate step n s).value)
    (signed_low width s.value low) (signed_low width (iterate step n s).value still ∙ ap pos e) (floor_low s.value (2 ^ n) (pow_pos n))

pub sar_high_value : (width : Width) (s : Shifted) (n : ℕ) → half_size width ≤ s.value → s.value < size_of width
    → (after_shifts Sar width s n).value ≡ lack width (lack width s.value / 2 ^ n)
unfolding after_shifts
sar_high_value width s n above fits =
    let view : Shifted → ℕ = λ t. lack width t.value in
    let high : IsHigh width s = record { above = above; fits = fits } in
    let step = after_single Sar width in
    let still : IsHigh width (iterate step n s) = kept_by_run step half view (IsHigh width) (high_once width) n s high in
    let below : (iterate step n s).value < size_of width = still.fits in
    let twice : lack width (lack width (iterate step n s).value) ≡ (iterate step n s).value = omega (arith, below) in
    sym twice ∙ ap (lack width) (run_seen step half view (IsHigh width) (high_once width) n s high ∙ halves n (lack width s.value))

sar_high : (width : Width) (s : Shifted) (n : ℕ) → half_size width ≤ s.value → s.value < size_of width
    → IsFloor (signed width s.value) (2 ^ n) (signed width (after_shifts Sar width s n).value)
unfolding after_shifts
sar_high width s n above fits =
    let step = after_single Sar width in
    let view : Shifted → ℕ = λ t. lack width t.value in
    let high : IsHigh width s = record { above = above; fits = fits } in
    let e : view (iterate step n s) ≡ lack width s.value / 2 ^ n =
    run_seen step half view (IsHigh width) (high_once width) n s high ∙ halves n (lack width s.value) in
    let still : IsHigh width (iterate step n s) = kept_by_run step half view (IsHigh width) (high_once width) n s high in
    seen_as (negsuc (lack width s.value)) (negsuc (lack width s.value / 2 ^ n)) (2 ^ n) (signed width s.value) (signed width (iterate step n s).value)
    (signed_high width s.value above fits) (signed_high width (iterate step n s).value still.above still.fits ∙ ap negsuc e)
    (floor_high (lack width s.value) (2 ^ n) (pow_pos n))

pub sar_divides : SarDivides
sar_divides width s n fits =
    elim (cases_lt s.value (half_size width)) [ inl low ↦ sar_low width s n low | inr above ↦ sar_high width s n above fits ]
