-- A number that is turned through all its places is what it was.
use Rattle.std.proofs.Common.{◌≡◌, ℕ, zero, suc, ◌+◌, ◌-◌, ◌*◌, ◌/◌, ◌%◌, ◌^◌, ◌<◌, ◌≤◌, nat_le}
use Rattle.std.proofs.Common.{◌==◌, if◌then◌else◌, refl, sym, ap, ◌∙◌, arith, inl, inr, pow-add}
use Rattle.std.proofs.Math.Nat.{pow-suc, pow-succ', add-zero, zero-add, mul-le-mul_right}
use Rattle.std.proofs.lemmas.Bool.{cases_lt}
use Rattle.std.proofs.lemmas.Bool.Decides.{nat_tests}
use Rattle.board_types.specs.Iterate.{iterate}
use Rattle.execute_arith.proofs.Runs.{Simulates, run_undone}

-- one place to the left, h being half of the numbers: the top bit comes in at the bottom
abbrev pub turn : ℕ → ℕ → ℕ
turn h w = if nat_le h w then 2 * (w - h) + 1 else 2 * w

-- one place to the right
abbrev pub turn_back : ℕ → ℕ → ℕ
turn_back h w = if w % 2 == 1 then w / 2 + h else w / 2

-- w is x turned by some places; p is 2 to the number of these, and r 2 to the number of those that are left
record IsTurned (p r x w : ℕ) : Type 0 where
  high : ℕ
  low : ℕ
  whole : x ≡ high * r + low
  turned : w ≡ low * p + high
  high_fits : high < p
  low_fits : low < r

turned_below : (h p q x w : ℕ) → h ≡ q * p → (t : IsTurned p (2 * q) x w) → t.low < q → IsTurned (2 * p) q x (turn h w)
turned_below h p q x w e t below =
    let room : suc t.low * p ≤ q * p = mul-le-mul_right p below in
    let small : w < h = omega (arith, t.turned, t.high_fits, e, room) in
    let same : turn h w ≡ 2 * w = grind (arith, nat_tests) in
    record {
      high = 2 * t.high;
      low = t.low;
      whole = omega (arith, t.whole);
      turned = omega (arith, t.turned, same);
      high_fits = omega (arith, t.high_fits);
      low_fits = below;
    }

turned_above : (h p q x w l : ℕ) → h ≡ q * p → (t : IsTurned p (2 * q) x w) → t.low ≡ q + l → IsTurned (2 * p) q x (turn h w)
turned_above h p q x w l e t split =
    let at_split : w ≡ (q + l) * p + t.high = t.turned ∙ ap (λ (k : ℕ). k * p + t.high) split in
    let great : h ≤ w = omega (arith, at_split, e) in
    let same : turn h w ≡ 2 * (w - h) + 1 = grind (arith, nat_tests) in
    record {
      high = 2 * t.high + 1;
      low = l;
      whole = omega (arith, t.whole, split);
      turned = omega (arith, at_split, same, e);
      high_fits = omega (arith, t.high_fits);
      low_fits = omega (arith, t.low_fits, split);
    }

turned_more : (h p q x w : ℕ) → h ≡ q * p → IsTurned p (2 * q) x w → IsTurned (2 * p) q x (turn h w)
turned_more h p q x w e t =
    elim (cases_lt t.low q) [ inl below ↦ turned_below h p q x w e t below | inr above ↦ turned_above h p q x w (t.low - q) e t (omega arith) ]

at_powers : (p q r r' x w : ℕ) → p ≡ q → r ≡ r' → IsTurned p r x w → IsTurned q r' x w
at_powers p q r r' x w e f t =
    record {
      high = t.high;
      low = t.low;
      whole = t.whole ∙ ap (λ (k : ℕ). t.high * k + t.low) f;
      turned = t.turned ∙ ap (λ (k : ℕ). t.low * k + t.high) e;
      high_fits = omega (arith, t.high_fits);
      low_fits = omega (arith, t.low_fits);
    }

places : (h k j x : ℕ) → 2 * h ≡ 2 ^ (j + k) → x < 2 * h → IsTurned (2 ^ k) (2 ^ j) x (iterate (turn h) k x)
unfolding iterate
places h zero j x e fits =
    let none : 2 ^ (j + 0) ≡ 2 ^ j = ap (λ (k : ℕ). 2 ^ k) (add-zero j) in
    record { high = 0; low = x; whole = omega arith; turned = omega arith; high_fits = omega arith; low_fits = omega arith }
places h (suc k) j x e fits =
    let total : suc j + k ≡ j + suc k = omega arith in
    let before : IsTurned (2 ^ k) (2 ^ suc j) x (iterate (turn h) k x) =
    places h k (suc j) x (e ∙ ap (λ (i : ℕ). 2 ^ i) (sym total)) fits in
    let w = iterate (turn h) k x in
    let parts : 2 ^ (j + suc k) ≡ 2 ^ j * 2 ^ suc k = pow-add 2 j (suc k) in
    let double : 2 ^ j * 2 ^ suc k ≡ 2 * (2 ^ j * 2 ^ k) = rw pow-suc (omega arith) in
    let whole : h ≡ 2 ^ j * 2 ^ k = omega arith in
    at_powers (2 * 2 ^ k) (2 ^ suc k) (2 ^ j) (2 ^ j) x (turn h w) (sym (pow-succ' 2 k)) refl
    (turned_more h (2 ^ k) (2 ^ j) x w whole (at_powers (2 ^ k) (2 ^ k) (2 ^ suc j) (2 * 2 ^ j) x w refl (pow-succ' 2 j) before))

pub turned_round : (h n x : ℕ) → 2 * h ≡ 2 ^ n → x < 2 * h → iterate (turn h) n x ≡ x
turned_round h n x e fits =
    let t : IsTurned (2 ^ n) (2 ^ 0) x (iterate (turn h) n x) = places h n 0 x (e ∙ ap (λ (i : ℕ). 2 ^ i) (sym (zero-add n))) fits in
    let none : t.low ≡ 0 = omega (arith, t.low_fits) in
    let all : iterate (turn h) n x ≡ 0 * 2 ^ n + t.high = t.turned ∙ ap (λ (k : ℕ). k * 2 ^ n + t.high) none in
    omega (arith, all, t.whole)

-- a turn keeps the bound, and a turn back undoes it
turn_fits : (h w : ℕ) → w < 2 * h → turn h w < 2 * h
turn_fits h w fits = grind (arith, nat_tests)

turns : (h : ℕ) → Simulates (turn h) (turn h) (λ w. w) (λ w. w < 2 * h)
turns h = record { seen = λ w fits. refl; kept = λ w fits. turn_fits h w fits }

undone_below : (h w : ℕ) → w < h → turn_back h (turn h w) ≡ w
undone_below h w below =
    let same : turn h w ≡ 2 * w = grind (arith, nat_tests) in
    let even : 2 * w % 2 ≡ 0 = omega arith in
    ap (turn_back h) same ∙ grind (arith, nat_tests)

undone_above : (h w : ℕ) → h ≤ w → turn_back h (turn h w) ≡ w
undone_above h w above =
    let same : turn h w ≡ 2 * (w - h) + 1 = grind (arith, nat_tests) in
    let odd : (2 * (w - h) + 1) % 2 ≡ 1 = omega arith in
    ap (turn_back h) same ∙ grind (arith, nat_tests)

undone : (h w : ℕ) → turn_back h (turn h w) ≡ w
undone h w = elim (cases_lt w h) [ inl below ↦ undone_below h w below | inr above ↦ undone_above h w above ]

pub turned_back_round : (h n x : ℕ) → 2 * h ≡ 2 ^ n → x < 2 * h → iterate (turn_back h) n x ≡ x
turned_back_round h n x e fits =
    ap (iterate (turn_back h) n) (sym (turned_round h n x e fits))
    ∙ run_undone (turn h) (turn_back h) (λ w. w < 2 * h) (turns h) (λ w _. undone h w) n x fits
