-- Falls that don't come to the end of the count, or of the half, need neither its length nor a remainder.
use Rattle.std.proofs.Common.{◌≡◌, ℕ, ◌+◌, ◌-◌, ◌*◌, ◌/◌, ◌%◌, ◌<◌, ◌≤◌, Bool, true, false, ◌&&◌, if◌then◌else◌, refl, ap, ◌∙◌, arith, nat_lt, inl, inr}
use Rattle.std.specs.Prelude.{◌==◌}
use Rattle.std.proofs.lemmas.Bool.{cases_lt}
use Rattle.std.proofs.Math.Nat.{mod-eq_of_lt}
use Rattle.board_types.specs.LineLevel.{is_high}
use Rattle.board_types.specs.declared.line.Line.{Line}
use Rattle.board_types.specs.declared.line.Line.TheVariants.{Low, High}
use Rattle.pit8253.specs.declared.program.Radix.{Radix}
use Rattle.pit8253.specs.Program.{modulus}
use Rattle.pit8253.specs.Counter.{CounterState}
use Rattle.pit8253.specs.PitLaws.{count_after, ticks_left, after_fall, after_strobe_fall, after_rate_fall, falls_left, half_left, after_half_fall}
use Rattle.pit8253.specs.Ahead.{after_rate, half_ticks, after_square}
use Rattle.pit8253.proofs.Falls.{if_yes, if_no}
use Rattle.pit8253.proofs.Counts.{differs, below, length_some, high_part}

and_true : (b : Bool) → (b && true) ≡ b
and_true true = refl
and_true false = refl

-- a count that stays above 0
count_short : (radix : Radix) (count n : ℕ) → count < modulus radix → n < count → count_after radix count n ≡ count - n
count_short radix count n within short =
    let small : n % modulus radix ≡ n = mod-eq_of_lt (omega arith) in
    ap (λ k. (count + modulus radix - k) % modulus radix) small ∙ high_part (modulus radix) count n within (omega arith)

left_short : (c : CounterState) (n : ℕ) → n < c.count → nat_lt n (ticks_left c) ≡ true
left_short c n short = ap (λ k. nat_lt n k) (length_some c.count_radix c.count (omega arith)) ∙ below n c.count short

pub falls_short : (c : CounterState) (n : ℕ) → c.count < modulus c.count_radix → 0 < c.count - n → after_fall c n ≡ record c { count = c.count - n }
falls_short c n within short =
    ap (λ k. record c { count = k; out = (if nat_lt n (ticks_left c) then c.out else High) }) (count_short c.count_radix c.count n within (omega arith))
    ∙ ap (λ o. record c { count = c.count - n; out = o }) (if_yes (nat_lt n (ticks_left c)) c.out High (left_short c n (omega arith)))

pub strobes_short : (c : CounterState) (n : ℕ) → c.count < modulus c.count_radix → 0 < n → 0 < c.count - n
    → after_strobe_fall c n ≡ record c { count = c.count - n; out = High }
strobes_short c n within some short =
    let length : ticks_left c ≡ c.count = length_some c.count_radix c.count (omega arith) in
    let due : (c.strobe_due && nat_lt n (ticks_left c)) ≡ c.strobe_due = ap (λ b. c.strobe_due && b) (left_short c n (omega arith)) ∙ and_true c.strobe_due in
    let unmet : (n == ticks_left c) ≡ false = ap (λ k. n == k) length ∙ differs n c.count (omega arith) in
    let out : (if n == 0 then c.out else (if (n == ticks_left c) && c.strobe_due then Low else High)) ≡ High =
    if_no (n == 0) c.out (if (n == ticks_left c) && c.strobe_due then Low else High) (differs n 0 (omega arith))
    ∙ if_no ((n == ticks_left c) && c.strobe_due) Low High (ap (λ b. b && c.strobe_due) unmet) in
    ap (λ k. record c {
      count = k;
      strobe_due = c.strobe_due && nat_lt n (ticks_left c);
      out = (if n == 0 then c.out else (if (n == ticks_left c) && c.strobe_due then Low else High));
    })
    (count_short c.count_radix c.count n within (omega arith))
    ∙ ap (λ b. record c { count = c.count - n; strobe_due = b; out = (if n == 0 then c.out else (if (n == ticks_left c) && c.strobe_due then Low else High)) })
    due
    ∙ ap (λ o. record c { count = c.count - n; out = o }) out

rates_short : (c : CounterState) (n : ℕ) → c.count < modulus c.count_radix → 1 < c.count - n → after_rate_fall c n ≡ record c { count = c.count - n }
rates_short c n within short =
    let unmet : (n + 1 == ticks_left c) ≡ false =
    ap (λ k. n + 1 == k) (length_some c.count_radix c.count (omega arith)) ∙ differs (n + 1) c.count (omega arith) in
    ap (λ k. record c { count = k; out = (if n == 0 then c.out else (if n + 1 == ticks_left c then Low else c.out)) })
    (count_short c.count_radix c.count n within (omega arith))
    ∙ ap (λ o. record c { count = c.count - n; out = (if n == 0 then c.out else o) }) (if_no (n + 1 == ticks_left c) Low c.out unmet)
    ∙ ap (λ o. record c { count = c.count - n; out = o }) (either (n == 0) c.out)
  where
    either : (b : Bool) (o : Line) → (if b then o else o) ≡ o
    either true o = refl
    either false o = refl

pub divides_short : (c : CounterState) (n : ℕ) → c.count < modulus c.count_radix → 1 < c.count - n → after_rate c n ≡ record c { count = c.count - n }
unfolding after_rate
divides_short c n within short =
    if_yes (nat_lt n (ticks_left c)) (after_rate_fall c n) _ (left_short c n (omega arith)) ∙ rates_short c n within short

-- half a count that isn't 0
abbrev pub half_short : CounterState → ℕ
half_short c = if is_high c.out then (c.count + 1) / 2 else c.count / 2

half_some : (c : CounterState) → 0 < c.count → falls_left c ≡ half_short c
half_some c some =
    ap (λ k. if is_high c.out then (k + 1) / 2 else k / 2) (either c.keeps_zero c.count (ticks_left c) (length_some c.count_radix c.count some))
  where
    either : (b : Bool) (x y : ℕ) → y ≡ x → (if b then x else y) ≡ x
    either true x y is = refl
    either false x y is = is

halves_zero : (b : Bool) (count : ℕ) → count ≤ 1 → (if b then (count + 1) / 2 else count / 2) ≤ 1
halves_zero true count small = omega arith
halves_zero false count small = omega arith

pub squares_short : (c : CounterState) (n : ℕ) → 0 < n → 0 < half_short c - n → after_square c n ≡ record c { count = 2 * (half_short c - n) }
unfolding after_square
squares_short c n some short =
    let above : 1 < c.count = elim (cases_lt 1 c.count) [
      | inl is ↦ is
      | inr small ↦ let low : half_short c ≤ 1 = halves_zero (is_high c.out) c.count small in omega arith
    ] in
    let falls : falls_left c ≡ half_short c = half_some c (omega arith) in
    let ticks : half_ticks c ≡ half_left c = if_no (c.count == 1) 1 (half_left c) (differs c.count 1 (omega arith)) in
    if_yes (nat_lt n (half_ticks c)) (after_half_fall c n) _
    (ap (λ k. nat_lt n k) ticks ∙ below n (half_left c) (before n (falls_left c) (half_short c) (if c.keeps_zero then 1 else 0) falls short))
    ∙ ap (λ k. record c { count = k }) (if_no (n == 0) c.count (2 * (falls_left c - n)) (differs n 0 (omega arith)) ∙ ap (λ k. 2 * (k - n)) falls)
  where
    before : (n falls half more : ℕ) → falls ≡ half → 0 < half - n → n < falls + more
    before n falls half more is short = omega arith
