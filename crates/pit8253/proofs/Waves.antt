-- A counter any number of ticks on: its state in closed form, and the level of OUT after a load.
use Rattle.std.proofs.Common.{◌≡◌, ◌≢◌, ℕ, zero, suc, ◌+◌, ◌-◌, ◌*◌, ◌/◌, ◌%◌, ◌<◌, ◌≤◌, Bool, true, false}
use Rattle.std.proofs.Common.{if◌then◌else◌, not, ◌&&◌, refl, sym, ap, ◌∙◌, subst, arith, inl, inr, nat_lt}
use Rattle.std.specs.Prelude.{◌==◌}
use Rattle.std.proofs.lemmas.Bool.{cases_lt}
use Rattle.std.proofs.lemmas.Bool.Decides.{nat_tests}
use Rattle.std.proofs.lemmas.Nat.{mod_below}
use Rattle.board_types.proofs.Iterate.{iterate_more, iterate_add, iterate_fixed}
use Rattle.board_types.specs.LineLevel.{is_high, opposite}
use Rattle.board_types.specs.declared.line.Line.{Line}
use Rattle.board_types.specs.declared.line.Line.TheVariants.{Low, High}
use Rattle.pit8253.specs.declared.program.Mode.TheVariants.{RateGenerator, SquareWave}
use Rattle.pit8253.specs.declared.program.Radix.{Radix}
use Rattle.pit8253.specs.Program.{modulus, count_minus}
use Rattle.pit8253.specs.Counter.{CounterState, is_8254, after_load, loads_less, after_square_load, after_count, after_decrement}
use Rattle.pit8253.specs.Counter.{after_rate_count, half_step, after_square_count, after_strobe_count, after_tick, after_ticks}
use Rattle.pit8253.specs.PitLaws.{length_of, size, ticks_left, Runs, count_after, after_fall, after_strobe_fall, after_rate_fall, falls_left}
use Rattle.pit8253.specs.PitLaws.{half_left, after_half_fall, TicksAdd, CountsDown, CountsToStrobe, CountsPeriod, CountsHalf, ReloadsAtOne}
use Rattle.pit8253.specs.PitLaws.{CountsPeriods, CountsHalves, CountsOut, ShootsOnce, Divides, MakesSquares, StaysHigh, StrobesOnce, StrobesOnTrigger}
use Rattle.pit8253.proofs.Falls.{by_steps, round_again, if_yes, if_no}
use Rattle.pit8253.proofs.Counts.{differs, same, below, not_below, modulus_even, modulus_large, minus_within, minus_around}
use Rattle.pit8253.proofs.Counts.{length_some, after_none, after_more, after_within, after_end, Lengths, lengths}
use Rattle.pit8253.proofs.Ticking.{with_count, tick_terminal_count, tick_one_shot, tick_rate, tick_square, tick_software_strobe}
use Rattle.pit8253.proofs.Ticking.{tick_hardware_strobe, decrement, rate_falls, rate_reloads, ends_at, square_falls, square_turns, strobe_count}

pub ticks_add : TicksAdd
ticks_add k m c = sym (iterate_add after_tick k m c)

-- a counter whose count and OUT are what they were is what it was
unmoved : (c : CounterState) (count : ℕ) (due : Bool) (out : Line) → count ≡ c.count → due ≡ c.strobe_due → out ≡ c.out → with_count c count due out ≡ c
unmoved c count due out same_count same_due same_out =
    ap (λ k. with_count c k due out) same_count ∙ ap (λ b. with_count c c.count b out) same_due ∙ ap (λ o. with_count c c.count c.strobe_due o) same_out

either : {A : Type 0} (b : Bool) (x y : A) → x ≡ y → (if b then x else y) ≡ y
either true x y is = is
either false x y is = refl

loaded_runs : (c : CounterState) (out : Line) → c.newest < modulus c.radix → Runs (after_load c out)
loaded_runs c out within = record { loaded = refl; none_due = refl; within = within }

-- modes 0 and 1

-- OUT after one more tick
fall_out : (radix : Radix) (count n : ℕ) (out : Line) → count < modulus radix
    → (if count_after radix count (n + 1) == 0 then High else (if nat_lt n (length_of radix count) then out else High))
    ≡ (if nat_lt (n + 1) (length_of radix count) then out else High)
fall_out radix count n out within =
    let next : ℕ = count_after radix count (n + 1) in
    let long : ℕ = length_of radix count in
    elim (cases_lt (n + 1) long) [
      | inl before ↦
          let is = after_within radix count (n + 1) within (omega arith) before in
          if_no (next == 0) High (if nat_lt n long then out else High) (differs next 0 (omega arith))
          ∙ if_yes (nat_lt n long) out High (below n long (omega arith))
          ∙ sym (if_yes (nat_lt (n + 1) long) out High (below (n + 1) long before))
      | inr after ↦
          elim (cases_lt n long) [
            | inl last ↦
                let at : n + 1 ≡ long = omega arith in
                let end : next ≡ 0 = ap (λ k. count_after radix count k) at ∙ after_end radix count within in
                if_yes (next == 0) High (if nat_lt n long then out else High) (same next 0 end)
            | inr over ↦
                ap (λ o. if next == 0 then High else o) (if_no (nat_lt n long) out High (not_below n long over))
                ∙ either (next == 0) High High refl
          ]
          ∙ sym (if_no (nat_lt (n + 1) long) out High (not_below (n + 1) long after))
    ]

falls : (c : CounterState) → Runs c → ((n : ℕ) (due : Bool) (out : Line) → after_tick (with_count c n due out) ≡ after_decrement (with_count c n due out))
    → (n : ℕ) → after_ticks c n ≡ after_fall c n
falls c runs rule n =
    let start : after_fall c 0 ≡ c =
    unmoved c (count_after c.count_radix c.count 0) c.strobe_due (if nat_lt 0 (ticks_left c) then c.out else High)
    (after_none c.count_radix c.count runs.within) refl
    (if_yes (nat_lt 0 (ticks_left c)) c.out High (below 0 (ticks_left c) (lengths c.count_radix c.count runs.within).some)) in
    by_steps after_tick (after_fall c) c n start
    (λ k _. rule (count_after c.count_radix c.count k) c.strobe_due (if nat_lt k (ticks_left c) then c.out else High)
    ∙ decrement c (count_after c.count_radix c.count k) (count_after c.count_radix c.count (k + 1)) c.strobe_due
    (if nat_lt k (ticks_left c) then c.out else High) (after_more c.count_radix c.count k runs.within)
    ∙ ap (λ o. with_count c (count_after c.count_radix c.count (k + 1)) c.strobe_due o) (fall_out c.count_radix c.count k c.out runs.within))
    n (omega arith)

pub counts_down : CountsDown
counts_down c runs (inl terminal) n = falls c runs (tick_terminal_count c runs terminal.0 terminal.1 terminal.2) n
counts_down c runs (inr one_shot) n = falls c runs (tick_one_shot c runs one_shot) n

pub mode_0 : CountsOut
mode_0 c mode gate first within n =
    ap (λ s. s.out) (counts_down (after_load c Low) (loaded_runs c Low within) (inl (mode, gate, first)) n)

pub mode_1 : ShootsOnce
mode_1 c mode within n = ap (λ s. s.out) (counts_down (after_load c Low) (loaded_runs c Low within) (inr mode) n)

-- modes 4 and 5

-- the strobe and OUT after one more tick, by whether the count is then 0, whether the end lay ahead, whether it still
-- does, and whether this is it
record Strobes (due zero ahead still end : Bool) : Type 0 where
  due_then : ((due && ahead) && not (zero && (due && ahead))) ≡ (due && still)
  out_then : (if zero && (due && ahead) then Low else High) ≡ (if end && due then Low else High)

strobe_ahead : (due : Bool) → Strobes due false true true false
strobe_ahead true = record { due_then = refl; out_then = refl }
strobe_ahead false = record { due_then = refl; out_then = refl }

strobe_end : (due : Bool) → Strobes due true true false true
strobe_end true = record { due_then = refl; out_then = refl }
strobe_end false = record { due_then = refl; out_then = refl }

strobe_over : (due zero : Bool) → Strobes due zero false false false
strobe_over true true = record { due_then = refl; out_then = refl }
strobe_over true false = record { due_then = refl; out_then = refl }
strobe_over false true = record { due_then = refl; out_then = refl }
strobe_over false false = record { due_then = refl; out_then = refl }

strobe_step : (radix : Radix) (count n : ℕ) (due : Bool) → count < modulus radix
    → Strobes due (count_after radix count (n + 1) == 0) (nat_lt n (length_of radix count))
    (nat_lt (n + 1) (length_of radix count)) (n + 1 == length_of radix count)
strobe_step radix count n due within =
    let next : ℕ = count_after radix count (n + 1) in
    let long : ℕ = length_of radix count in
    elim (cases_lt (n + 1) long) [
      | inl before ↦
          let is = after_within radix count (n + 1) within (omega arith) before in
          strobe_case due (next == 0) (nat_lt n long) (nat_lt (n + 1) long) (n + 1 == long) false true true false
          (differs next 0 (omega arith)) (below n long (omega arith)) (below (n + 1) long before) (differs (n + 1) long (omega arith)) (strobe_ahead due)
      | inr after ↦ elim (cases_lt n long) [
        | inl last ↦
            let at : n + 1 ≡ long = omega arith in
            let end : next ≡ 0 = ap (λ k. count_after radix count k) at ∙ after_end radix count within in
            strobe_case due (next == 0) (nat_lt n long) (nat_lt (n + 1) long) (n + 1 == long) true true false true
            (same next 0 end) (below n long last) (not_below (n + 1) long after) (same (n + 1) long at) (strobe_end due)
        | inr over ↦
            strobe_case due (next == 0) (nat_lt n long) (nat_lt (n + 1) long) (n + 1 == long) (next == 0) false false false
            refl (not_below n long over) (not_below (n + 1) long after) (differs (n + 1) long (omega arith)) (strobe_over due (next == 0))
      ]
    ]
  where
    strobe_case : (due z a s e z1 a1 s1 e1 : Bool) → z ≡ z1 → a ≡ a1 → s ≡ s1 → e ≡ e1 → Strobes due z1 a1 s1 e1 → Strobes due z a s e
    strobe_case due z a s e z1 a1 s1 e1 zs as_ ss es given = rw (zs, as_, ss, es) given

falls_to_strobe : (c : CounterState) → Runs c
    → ((n : ℕ) (due : Bool) (out : Line) → after_tick (with_count c n due out) ≡ after_strobe_count (with_count c n due out)) → (n : ℕ)
    → after_ticks c n ≡ after_strobe_fall c n
falls_to_strobe c runs rule n =
    let long : Lengths c.count_radix c.count = lengths c.count_radix c.count runs.within in
    let start : after_strobe_fall c 0 ≡ c =
    unmoved c (count_after c.count_radix c.count 0) (c.strobe_due && nat_lt 0 (ticks_left c)) c.out
    (after_none c.count_radix c.count runs.within)
    (ap (λ b. c.strobe_due && b) (below 0 (ticks_left c) long.some) ∙ and_true c.strobe_due) refl in
    by_steps after_tick (after_strobe_fall c) c n start
    (λ k _.
    let step : Strobes c.strobe_due (count_after c.count_radix c.count (k + 1) == 0)
    (nat_lt k (ticks_left c)) (nat_lt (k + 1) (ticks_left c)) (k + 1 == ticks_left c) =
    strobe_step c.count_radix c.count k c.strobe_due runs.within in
    let due : Bool = c.strobe_due && nat_lt k (ticks_left c) in
    let level : Line = (if k == 0 then c.out else (if (k == ticks_left c) && c.strobe_due then Low else High)) in
    let now : ℕ = count_after c.count_radix c.count k in
    let next : ℕ = count_after c.count_radix c.count (k + 1) in
    let out_next : Line = (if (k + 1 == ticks_left c) && c.strobe_due then Low else High) in
    rule now due level
    ∙ strobe_count c now next due level (after_more c.count_radix c.count k runs.within)
    ∙ ap (λ b. with_count c next b (if (next == 0) && due then Low else High)) step.due_then
    ∙ ap (λ o. with_count c next (c.strobe_due && nat_lt (k + 1) (ticks_left c)) o)
    (step.out_then ∙ sym (if_no (k + 1 == 0) c.out out_next (differs (k + 1) 0 (omega arith)))))
    n (omega arith)
  where
    and_true : (b : Bool) → (b && true) ≡ b
    and_true true = refl
    and_true false = refl

pub counts_to_strobe : CountsToStrobe
counts_to_strobe c runs (inl software) n = falls_to_strobe c runs (tick_software_strobe c runs software.0 software.1) n
counts_to_strobe c runs (inr hardware) n = falls_to_strobe c runs (tick_hardware_strobe c runs hardware) n

-- OUT after a load, if the strobe is due
strobe_out : (n size : ℕ) → 0 < size → (if n == 0 then High else (if (n == size) && true then Low else High)) ≡ (if n == size then Low else High)
strobe_out n size some = elim (cases_lt 0 n) [
  | inl more ↦
      if_no (n == 0) High (if (n == size) && true then Low else High) (differs n 0 (omega arith)) ∙ due (n == size)
  | inr none ↦
      if_yes (n == 0) High (if (n == size) && true then Low else High) (same n 0 (omega arith))
      ∙ sym (if_no (n == size) Low High (differs n size (omega arith)))
]
  where
    due : (b : Bool) → (if b && true then Low else High) ≡ (if b then Low else High)
    due true = refl
    due false = refl

pub mode_4 : StrobesOnce
mode_4 c mode gate within n =
    ap (λ s. s.out) (counts_to_strobe (after_load c High) (loaded_runs c High within) (inl (mode, gate)) n)
    ∙ strobe_out n (size c) (lengths c.radix c.newest within).some

pub mode_5 : StrobesOnTrigger
mode_5 c mode within n =
    ap (λ s. s.out) (counts_to_strobe (after_load c High) (loaded_runs c High within) (inr mode) n)
    ∙ strobe_out n (size c) (lengths c.radix c.newest within).some

-- mode 2

rate_step : (c : CounterState) → Runs c
    → ((n : ℕ) (due : Bool) (out : Line) → after_tick (with_count c n due out) ≡ after_rate_count (with_count c n due out)) → (k : ℕ) → k + 1 < ticks_left c
    → after_tick (after_rate_fall c k) ≡ after_rate_fall c (k + 1)
rate_step c runs rule k before =
    let long : Lengths c.count_radix c.count = lengths c.count_radix c.count runs.within in
    let now : ℕ = count_after c.count_radix c.count k in
    let next : ℕ = count_after c.count_radix c.count (k + 1) in
    let out_now : Line = (if k == 0 then c.out else (if k + 1 == ticks_left c then Low else c.out)) in
    let out_next : Line = (if k + 1 + 1 == ticks_left c then Low else c.out) in
    let is : next ≡ ticks_left c - (k + 1) = after_within c.count_radix c.count (k + 1) runs.within (omega arith) before in
    let level : out_now ≡ c.out =
    ap (λ o. if k == 0 then c.out else o) (if_no (k + 1 == ticks_left c) Low c.out (differs (k + 1) (ticks_left c) (omega arith)))
    ∙ either (k == 0) c.out c.out refl in
    rule now c.strobe_due out_now
    ∙ rate_falls c now next c.strobe_due out_now (not_one c runs k before) (after_more c.count_radix c.count k runs.within)
    ∙ ap (λ o. with_count c next c.strobe_due (if next == 1 then Low else o)) level
    ∙ ap (λ b. with_count c next c.strobe_due (if b then Low else c.out)) (last_but_one next (k + 1) (ticks_left c) is before)
    ∙ ap (λ o. with_count c next c.strobe_due o) (sym (if_no (k + 1 == 0) c.out out_next (differs (k + 1) 0 (omega arith))))
  where
    not_one : (c : CounterState) → Runs c → (k : ℕ) → k + 1 < ticks_left c → count_after c.count_radix c.count k ≢ 1
    not_one c runs zero before =
        let long : Lengths c.count_radix c.count = lengths c.count_radix c.count runs.within in
        let start = after_none c.count_radix c.count runs.within in
        elim long.is [
          | inl none ↦ omega (arith, none.0)
          | inr more ↦ omega (arith, more.1)
        ]
    not_one c runs (suc k) before =
        let is = after_within c.count_radix c.count (suc k) runs.within (omega arith) (omega arith) in
        omega arith

    last_but_one : (next n long : ℕ) → next ≡ long - n → n < long → (next == 1) ≡ (n + 1 == long)
    last_but_one next n long is before = elim (cases_lt (n + 1) long) [
      | inl more ↦ differs next 1 (omega arith) ∙ sym (differs (n + 1) long (omega arith))
      | inr last ↦ same next 1 (omega arith) ∙ sym (same (n + 1) long (omega arith))
    ]

pub counts_period : CountsPeriod
counts_period c runs mode gate =
    let rule = tick_rate c runs mode gate in
    let long : Lengths c.count_radix c.count = lengths c.count_radix c.count runs.within in
    let start : after_rate_fall c 0 ≡ c =
    unmoved c (count_after c.count_radix c.count 0) c.strobe_due c.out (after_none c.count_radix c.count runs.within) refl refl in
    let last : ℕ = ticks_left c - 1 in
    let within : (n : ℕ) → n ≤ last → after_ticks c n ≡ after_rate_fall c n =
    by_steps after_tick (after_rate_fall c) c last start (λ k before. rate_step c runs rule k (omega arith)) in
    let whole : ticks_left c ≡ last + 1 = omega (arith, long.some) in (
      λ n before. within n (omega arith),
      ap (λ k. after_ticks c k) whole ∙ iterate_more after_tick last c ∙ ap after_tick (within last (omega arith))
          ∙ rule (count_after c.count_radix c.count last) c.strobe_due (if last == 0 then c.out else (if last + 1 == ticks_left c then Low else c.out))
          ∙ rate_reloads c (count_after c.count_radix c.count last) c.strobe_due
          (if last == 0 then c.out else (if last + 1 == ticks_left c then Low else c.out)) (last_is_one c runs last whole),
    )
  where
    last_is_one : (c : CounterState) → Runs c → (last : ℕ) → ticks_left c ≡ last + 1 → count_after c.count_radix c.count last ≡ 1
    last_is_one c runs zero whole =
        let long : Lengths c.count_radix c.count = lengths c.count_radix c.count runs.within in
        after_none c.count_radix c.count runs.within ∙ elim long.is [
          | inl none ↦ omega (arith, none.1, modulus_large c.count_radix)
          | inr more ↦ omega (arith, more.1)
        ]
    last_is_one c runs (suc k) whole = after_within c.count_radix c.count (suc k) runs.within (omega arith) (omega arith) ∙ omega arith

pub counts_periods : CountsPeriods
counts_periods c mode gate within n =
    let period = counts_period (after_load c High) (loaded_runs c High within) mode gate in
    round_again after_tick (size c) (after_load c High) period.1 n
    ∙ period.0 (n % size c) (mod_below n (size c) (lengths c.radix c.newest within).some)

pub mode_2 : Divides
mode_2 c mode gate within other n =
    ap (λ s. s.out) (counts_periods c mode gate within n) ∙ low_last (n % size c) (size c) (one c within other)
  where
    one : (c : CounterState) → c.newest < modulus c.radix → c.newest ≢ 1 → size c ≢ 1
    one c within other =
        let large = modulus_large c.radix in
        elim (lengths c.radix c.newest within).is [
          | inl none ↦ omega (arith, none.1)
          | inr more ↦ omega (arith, more.1)
        ]

    low_last : (r size : ℕ) → size ≢ 1 → (if r == 0 then High else (if r + 1 == size then Low else High)) ≡ (if r + 1 == size then Low else High)
    low_last r size other = elim (cases_lt 0 r) [
      | inl more ↦ if_no (r == 0) High (if r + 1 == size then Low else High) (differs r 0 (omega arith))
      | inr none ↦
          if_yes (r == 0) High (if r + 1 == size then Low else High) (same r 0 (omega arith))
          ∙ sym (if_no (r + 1 == size) Low High (differs (r + 1) size (omega arith)))
    ]

-- mode 3

even_step : (n : ℕ) (out : Line) → n % 2 ≡ 0 → half_step n out ≡ 2
even_step n out even = if_yes (n % 2 == 0) 2 (if is_high out then 1 else 3) (same (n % 2) 0 even)

odd_step : (n : ℕ) (out : Line) → n % 2 ≡ 1 → half_step n out ≡ (if is_high out then 1 else 3)
odd_step n out odd = if_no (n % 2 == 0) 2 (if is_high out then 1 else 3) (differs (n % 2) 0 (omega arith))

falls_by : (radix : Radix) (n by m : ℕ) (out : Line) → half_step n out ≡ by → count_minus radix n by ≡ m → count_minus radix n (half_step n out) ≡ m
falls_by radix n by m out step is = ap (λ s. count_minus radix n s) step ∙ is

-- a half of `len` ticks: the first of them leaves twice the ticks that are then to come
record Half (radix : Radix) (count : ℕ) (out : Line) (len : ℕ) : Type 0 where
  some : 0 < len
  first : count_minus radix count (half_step count out) ≡ 2 * (len - 1)

half : (radix : Radix) (count : ℕ) (out : Line) → count < modulus radix → count ≢ 1
    → Half radix count out (if is_high out then (length_of radix count + 1) / 2 else length_of radix count / 2)
half radix count High within other =
    let len : ℕ = (length_of radix count + 1) / 2 in
    elim (lengths radix count within).is [
      | inl none ↦
          let even = modulus_even radix in
          let large = modulus_large radix in
          let step = minus_around radix count 2 (omega (arith, none.0)) in
          record {
            some = omega (arith, none.1);
            first = falls_by radix count 2 (2 * (len - 1)) High (even_step count High (omega (arith, none.0))) (omega (arith, none.0, none.1));
          }
      | inr more ↦ elim (cases_lt (count % 2) 1) [
        | inl even ↦
            let step = minus_within radix count 2 (omega (arith, more.0)) in
            record {
              some = omega (arith, more.0, more.1);
              first = falls_by radix count 2 (2 * (len - 1)) High (even_step count High (omega arith)) (omega (arith, more.0, more.1));
            }
        | inr odd ↦
            let step = minus_within radix count 1 (omega (arith, more.0)) in
            record {
              some = omega (arith, more.0, more.1);
              first = falls_by radix count 1 (2 * (len - 1)) High (odd_step count High (omega arith)) (omega (arith, more.0, more.1));
            }
      ]
    ]
half radix count Low within other =
    let len : ℕ = length_of radix count / 2 in
    elim (lengths radix count within).is [
      | inl none ↦
          let even = modulus_even radix in
          let large = modulus_large radix in
          let step = minus_around radix count 2 (omega (arith, none.0)) in
          record {
            some = omega (arith, none.1);
            first = falls_by radix count 2 (2 * (len - 1)) Low (even_step count Low (omega (arith, none.0))) (omega (arith, none.0, none.1));
          }
      | inr more ↦ elim (cases_lt (count % 2) 1) [
        | inl even ↦
            let step = minus_within radix count 2 (omega (arith, more.0)) in
            record {
              some = omega (arith, more.0, more.1);
              first = falls_by radix count 2 (2 * (len - 1)) Low (even_step count Low (omega arith)) (omega (arith, more.0, more.1));
            }
        | inr odd ↦
            let step = minus_within radix count 3 (omega (arith, more.0)) in
            record {
              some = omega (arith, more.0, more.1);
              first = falls_by radix count 3 (2 * (len - 1)) Low (odd_step count Low (omega arith)) (omega (arith, more.0, more.1));
            }
      ]
    ]

-- the count k ticks into a half, and what it falls to
record HalfStep (radix : Radix) (n : ℕ) (out : Line) (next : ℕ) : Type 0 where
  other : n ≢ 1
  falls_to : count_minus radix n (half_step n out) ≡ next

half_falls : (radix : Radix) (count len : ℕ) (out : Line) → count ≢ 1 → Half radix count out len → (k : ℕ) → k < len
    → HalfStep radix (if k == 0 then count else 2 * (len - k)) out (2 * (len - (k + 1)))
half_falls radix count len out other start zero before =
    let one : len - (zero + 1) ≡ len - 1 = omega arith in
    record { other = other; falls_to = start.first ∙ ap (λ j. 2 * j) (sym one) }
half_falls radix count len out other start (suc k) before =
    let now : ℕ = 2 * (len - suc k) in
    let is : (if suc k == 0 then count else now) ≡ now = if_no (suc k == 0) count now (differs (suc k) 0 (omega arith)) in
    let step = minus_within radix now 2 (omega arith) in
    subst (λ n. HalfStep radix n out (2 * (len - (suc k + 1)))) (sym is)
    (record { other = omega arith; falls_to = falls_by radix now 2 (2 * (len - (suc k + 1))) out (even_step now out (omega arith)) (omega arith) })

-- how a half goes on from each of its ticks, and how the last of them ends it
record HalfGoes (c : CounterState) (fall len : ℕ) : Type 0 where
  some : 0 < len
  goes : (k : ℕ) → k + 1 < len
      → after_square_count (with_count c (if k == 0 then c.count else 2 * (fall - k)) c.strobe_due c.out)
      ≡ with_count c (2 * (fall - (k + 1))) c.strobe_due c.out
  ends : (k : ℕ) → k + 1 ≡ len
      → after_square_count (with_count c (if k == 0 then c.count else 2 * (fall - k)) c.strobe_due c.out)
      ≡ after_square_load c (if c.newest == 1 then High else opposite c.out)

-- a fall to 0 ends a half
goes_plain : (c : CounterState) → Runs c → c.count ≢ 1 → c.keeps_zero ≡ false → (fall : ℕ) → Half c.count_radix c.count c.out fall → HalfGoes c fall fall
goes_plain c runs other plain fall start = record {
  some = start.some;
  goes = λ k before.
      let now : ℕ = (if k == 0 then c.count else 2 * (fall - k)) in
      let next : ℕ = 2 * (fall - (k + 1)) in
      let step : HalfStep c.count_radix now c.out next = half_falls c.count_radix c.count fall c.out other start k (omega arith) in
      square_falls c now next c.strobe_due c.out step.other step.falls_to
      (ap (λ b. ends_at b now next) plain ∙ differs next 0 (omega arith));
  ends = λ k last.
      let now : ℕ = (if k == 0 then c.count else 2 * (fall - k)) in
      let next : ℕ = 2 * (fall - (k + 1)) in
      let step : HalfStep c.count_radix now c.out next = half_falls c.count_radix c.count fall c.out other start k (omega arith) in
      square_turns c now next c.strobe_due c.out step.other step.falls_to
      (ap (λ b. ends_at b now next) plain ∙ same next 0 (omega arith));
}

-- a kept 0 ends a half
goes_kept : (c : CounterState) → c.count ≢ 1 → 0 < c.count → c.keeps_zero ≡ true
    → (fall : ℕ) → Half c.count_radix c.count c.out fall → HalfGoes c fall (fall + 1)
goes_kept c other some kept fall start = record {
  some = omega arith;
  goes = λ k before.
      let now : ℕ = (if k == 0 then c.count else 2 * (fall - k)) in
      let next : ℕ = 2 * (fall - (k + 1)) in
      let step : HalfStep c.count_radix now c.out next = half_falls c.count_radix c.count fall c.out other start k (omega arith) in
      square_falls c now next c.strobe_due c.out step.other step.falls_to
      (ap (λ b. ends_at b now next) kept ∙ differs now 0 (above c.count fall k some (omega arith)));
  ends = λ k last.
      let now : ℕ = (if k == 0 then c.count else 2 * (fall - k)) in
      let first : 0 < fall = start.some in
      let none : now ≡ 0 = if_no (k == 0) c.count (2 * (fall - k)) (differs k 0 (omega arith)) ∙ omega arith in
      square_turns c now (count_minus c.count_radix now (half_step now c.out)) c.strobe_due c.out (omega arith) refl
      (ap (λ b. ends_at b now (count_minus c.count_radix now (half_step now c.out))) kept ∙ same now 0 none);
}
  where
    above : (count fall k : ℕ) → 0 < count → k < fall → (if k == 0 then count else 2 * (fall - k)) ≢ 0
    above count fall zero some before = omega arith
    above count fall (suc k) some before =
        let is : (if suc k == 0 then count else 2 * (fall - suc k)) ≡ 2 * (fall - suc k) =
        if_no (suc k == 0) count (2 * (fall - suc k)) (differs (suc k) 0 (omega arith)) in
        omega arith

-- a kept 0 that is there
goes_at_zero : (c : CounterState) → c.count ≡ 0 → c.keeps_zero ≡ true → (fall : ℕ) → HalfGoes c fall 1
goes_at_zero c none kept fall = record {
  some = omega arith;
  goes = λ k before. absurd (too_far k before);
  ends = λ k last.
      let now : ℕ = (if k == 0 then c.count else 2 * (fall - k)) in
      let is : now ≡ 0 = if_yes (k == 0) c.count (2 * (fall - k)) (same k 0 (omega arith)) ∙ none in
      square_turns c now (count_minus c.count_radix now (half_step now c.out)) c.strobe_due c.out (omega arith) refl
      (ap (λ b. ends_at b now (count_minus c.count_radix now (half_step now c.out))) kept ∙ same now 0 is);
}
  where
    too_far : (k : ℕ) → k + 1 < 1 → ⊥
    too_far k before = omega arith

-- the falls of a count that isn't 0, whether its 0 is kept or not
fall_of : ℕ → Line → ℕ
fall_of count out = if is_high out then (count + 1) / 2 else count / 2

fall_none : (count : ℕ) (out : Line) → count ≡ 0 → fall_of count out ≡ 0
unfolding fall_of
fall_none count High none = omega arith
fall_none count Low none = omega arith

half_goes : (c : CounterState) → Runs c → c.count ≢ 1 → (keeps : Bool) → c.keeps_zero ≡ keeps → HalfGoes c (falls_left c) (half_left c)
unfolding fall_of
half_goes c runs other false plain =
    let falls : falls_left c ≡ fall_of (ticks_left c) c.out = ap (λ b. fall_of (if b then c.count else ticks_left c) c.out) plain in
    let len : half_left c ≡ falls_left c = ap (λ b. falls_left c + (if b then 1 else 0)) plain ∙ omega arith in
    subst (λ n. HalfGoes c (falls_left c) n) (sym len)
    (subst (λ n. HalfGoes c n n) (sym falls)
    (goes_plain c runs other plain (fall_of (ticks_left c) c.out) (half c.count_radix c.count c.out runs.within other)))
half_goes c runs other true kept =
    let falls : falls_left c ≡ fall_of c.count c.out = ap (λ b. fall_of (if b then c.count else ticks_left c) c.out) kept in
    let len : half_left c ≡ falls_left c + 1 = ap (λ b. falls_left c + (if b then 1 else 0)) kept in
    subst (λ n. HalfGoes c (falls_left c) n) (sym len)
    (subst (λ n. HalfGoes c n (n + 1)) (sym falls)
    (elim (cases_lt 0 c.count) [
      | inl some ↦
          let length : ticks_left c ≡ c.count = length_some c.count_radix c.count some in
          goes_kept c other some kept (fall_of c.count c.out)
          (subst (λ n. Half c.count_radix c.count c.out (fall_of n c.out)) length (half c.count_radix c.count c.out runs.within other))
      | inr none ↦
          let nothing : c.count ≡ 0 = omega arith in
          subst (λ n. HalfGoes c n (n + 1)) (sym (fall_none c.count c.out nothing))
          (subst (λ n. HalfGoes c 0 n) (omega arith) (goes_at_zero c nothing kept 0))
    ]))

pub half_some : (c : CounterState) → Runs c → c.count ≢ 1 → 0 < half_left c
half_some c runs other = (half_goes c runs other c.keeps_zero refl).some

pub counts_half : CountsHalf
counts_half c runs mode gate other =
    let rule = tick_square c runs mode gate in
    let half_of : HalfGoes c (falls_left c) (half_left c) = half_goes c runs other c.keeps_zero refl in
    let last : ℕ = half_left c - 1 in
    let whole : last + 1 ≡ half_left c = omega (arith, half_of.some) in
    let within : (n : ℕ) → n ≤ last → after_ticks c n ≡ after_half_fall c n =
    by_steps after_tick (after_half_fall c) c last refl (λ k before.
    let next : ℕ = 2 * (falls_left c - (k + 1)) in
    rule (if k == 0 then c.count else 2 * (falls_left c - k)) c.strobe_due c.out
    ∙ half_of.goes k (omega arith)
    ∙ ap (λ m. with_count c m c.strobe_due c.out) (sym (if_no (k + 1 == 0) c.count next (differs (k + 1) 0 (omega arith))))) in (
      λ n before. within n (omega arith),
      ap (λ k. after_ticks c k) (sym whole) ∙ iterate_more after_tick last c ∙ ap after_tick (within last (omega arith))
          ∙ rule (if last == 0 then c.count else 2 * (falls_left c - last)) c.strobe_due c.out ∙ half_of.ends last whole,
    )

pub reloads_at_one : ReloadsAtOne
reloads_at_one c runs mode gate one =
    tick_square c runs mode gate c.count c.strobe_due c.out ∙ ap (λ k. after_square_count (with_count c k c.strobe_due c.out)) one

-- what mode 3 loads of a newest count other than 1: another count than 1, whose half has the ticks that the newest
-- count gives it
pub record SquareLoad (c : CounterState) (out : Line) : Type 0 where
  pub runs : Runs (after_square_load c out)
  pub other : (after_square_load c out).count ≢ 1
  pub half : half_left (after_square_load c out) ≡ (if is_high out then (size c + 1) / 2 else size c / 2)

-- an odd count above 1
pub record Odd (n : ℕ) : Type 0 where
  pub odd : n % 2 ≡ 1
  pub other : n ≢ 1

pub less_odd : (c : CounterState) → loads_less c ≡ true → Odd c.newest
less_odd c less = by_tests (is_8254 c.kind) (c.newest % 2 == 1) (c.newest == 1) refl refl less
  where
    by_tests : (a o i : Bool) → (c.newest % 2 == 1) ≡ o → (c.newest == 1) ≡ i → (a && o && not i) ≡ true → Odd c.newest
    by_tests false o i odd one holds = cc
    by_tests true false i odd one holds = cc
    by_tests true true true odd one holds = cc
    by_tests true true false odd one holds = record { odd = grind (arith, nat_tests); other = λ is. unequal (sym (same c.newest 1 is) ∙ one) }
      where
        unequal : true ≢ false
        unequal is = cc

-- what is loaded, by whether it is less
abbrev pub square_form : CounterState → Bool → Line → CounterState
square_form c b out = record (after_load c out) { count = (if b then c.newest - 1 else c.newest); keeps_zero = b && is_high out }

pub square_loads : (c : CounterState) (out : Line) → c.newest < modulus c.radix → c.newest ≢ 1 → SquareLoad c out
square_loads c out within other = by_less (loads_less c) refl out
  where
    long : Lengths c.radix c.newest
    long = lengths c.radix c.newest within

    by_less : (b : Bool) → loads_less c ≡ b → (out : Line) → SquareLoad c out
    by_less false whole High =
        let is : after_square_load c High ≡ square_form c false High = ap (λ b. square_form c b High) whole in
        record {
          runs = record { loaded = refl; none_due = refl; within = subst (λ s. s.count < modulus c.radix) (sym is) within };
          other = subst (λ s. s.count ≢ 1) (sym is) other;
          half = ap half_left is ∙ omega arith;
        }
    by_less false whole Low =
        let is : after_square_load c Low ≡ square_form c false Low = ap (λ b. square_form c b Low) whole in
        record {
          runs = record { loaded = refl; none_due = refl; within = subst (λ s. s.count < modulus c.radix) (sym is) within };
          other = subst (λ s. s.count ≢ 1) (sym is) other;
          half = ap half_left is ∙ omega arith;
        }
    by_less true less High =
        let is : after_square_load c High ≡ square_form c true High = ap (λ b. square_form c b High) less in
        let odd : Odd c.newest = less_odd c less in
        let length : size c ≡ c.newest = length_some c.radix c.newest (omega (arith, odd.odd)) in
        record {
          runs = record { loaded = refl; none_due = refl; within = subst (λ s. s.count < modulus c.radix) (sym is) (omega arith) };
          other = subst (λ s. s.count ≢ 1) (sym is) (omega (arith, odd.odd));
          half = ap half_left is ∙ omega (arith, odd.odd, length);
        }
    by_less true less Low =
        let is : after_square_load c Low ≡ square_form c true Low = ap (λ b. square_form c b Low) less in
        let odd : Odd c.newest = less_odd c less in
        let length : size c ≡ c.newest = length_some c.radix c.newest (omega (arith, odd.odd)) in
        let length_less : length_of c.radix (c.newest - 1) ≡ c.newest - 1 = length_some c.radix (c.newest - 1) (omega (arith, odd.odd, odd.other)) in
        record {
          runs = record { loaded = refl; none_due = refl; within = subst (λ s. s.count < modulus c.radix) (sym is) (omega arith) };
          other = subst (λ s. s.count ≢ 1) (sym is) (omega (arith, odd.odd));
          half = ap half_left is ∙ omega (arith, odd.odd, length, length_less);
        }

pub counts_halves : CountsHalves
counts_halves c mode gate within other n =
    let load_high : SquareLoad c High = square_loads c High within other in
    let load_low : SquareLoad c Low = square_loads c Low within other in
    let first = counts_half (after_square_load c High) load_high.runs mode gate load_high.other in
    let second = counts_half (after_square_load c Low) load_low.runs mode gate load_low.other in
    let high : ℕ = (size c + 1) / 2 in
    let turn : after_ticks (after_square_load c High) high ≡ after_square_load c Low =
    ap (λ k. after_ticks (after_square_load c High) k) (sym load_high.half) ∙ first.1
    ∙ ap (λ b. after_square_load c (if b then High else Low)) (differs c.newest 1 other) in
    let back : after_ticks (after_square_load c Low) (size c / 2) ≡ after_square_load c High =
    ap (λ k. after_ticks (after_square_load c Low) k) (sym load_low.half) ∙ second.1
    ∙ ap (λ b. after_square_load c (if b then High else High)) (differs c.newest 1 other) in
    let whole : size c ≡ high + size c / 2 = omega arith in
    let period : after_ticks (after_square_load c High) (size c) ≡ after_square_load c High =
    ap (λ k. after_ticks (after_square_load c High) k) whole ∙ iterate_add after_tick high (size c / 2) (after_square_load c High)
    ∙ ap (λ s. after_ticks s (size c / 2)) turn ∙ back in
    let k : ℕ = n % size c in
    let left : k < size c = mod_below n (size c) (lengths c.radix c.newest within).some in
    round_again after_tick (size c) (after_square_load c High) period n
    ∙ elim (cases_lt k high) [
      | inl in_first ↦
          first.0 k (subst (λ j. k < j) (sym load_high.half) in_first)
          ∙ sym
          (if_yes (nat_lt k high) (after_half_fall (after_square_load c High) k) (after_half_fall (after_square_load c Low) (k - high)) (below k high in_first))
      | inr in_second ↦
          let parts : k ≡ high + (k - high) = omega arith in
          ap (λ j. after_ticks (after_square_load c High) j) parts
          ∙ iterate_add after_tick high (k - high) (after_square_load c High)
          ∙ ap (λ s. after_ticks s (k - high)) turn
          ∙ second.0 (k - high) (subst (λ j. k - high < j) (sym load_low.half) (omega arith))
          ∙ sym (if_no (nat_lt k high) (after_half_fall (after_square_load c High) k)
          (after_half_fall (after_square_load c Low) (k - high)) (not_below k high in_second))
    ]

pub mode_3 : MakesSquares
mode_3 c mode gate within other n =
    ap (λ s. s.out) (counts_halves c mode gate within other n) ∙ level (nat_lt (n % size c) ((size c + 1) / 2))
    (after_half_fall (after_square_load c High) (n % size c)) (after_half_fall (after_square_load c Low) (n % size c - (size c + 1) / 2)) refl refl
  where
    level : (b : Bool) (x y : CounterState) → x.out ≡ High → y.out ≡ Low → (if b then x else y).out ≡ (if b then High else Low)
    level true x y high low = high
    level false x y high low = low

-- modes 2 and 3, a count of 1

rate_of_one : (c : CounterState) → c.mode ≡ RateGenerator → c.newest ≡ 1 → after_tick (after_load c High) ≡ after_load c High
unfolding after_tick
rate_of_one c mode one =
    let d : CounterState = after_load c High in
    ap (λ m. after_count d m) mode
    ∙ either (is_high c.gate) (after_rate_count d) d (rate_reloads d c.newest true High one)

-- a 1 is loaded as it is
pub square_load_of_one : (c : CounterState) (out : Line) → c.newest ≡ 1 → after_square_load c out ≡ after_load c out
square_load_of_one c out one =
    let whole : loads_less c ≡ false =
    ap (λ b. is_8254 c.kind && (c.newest % 2 == 1) && not b) (same c.newest 1 one) ∙ never (is_8254 c.kind) (c.newest % 2 == 1) in
    ap (λ b. square_form c b out) whole
  where
    never : (a b : Bool) → (a && b && not true) ≡ false
    never true true = refl
    never true false = refl
    never false b = refl

square_of_one : (c : CounterState) → c.mode ≡ SquareWave → c.newest ≡ 1 → after_tick (after_load c High) ≡ after_load c High
unfolding after_tick
square_of_one c mode one =
    let d : CounterState = after_load c High in
    ap (λ m. after_count d m) mode
    ∙ either (is_high c.gate) (after_square_count d) d
    (ap (λ k. after_square_count (with_count d k true High)) one ∙ square_load_of_one c High one)

pub a_count_of_1 : StaysHigh
a_count_of_1 c (inl rate) one n = iterate_fixed after_tick n (after_load c High) (rate_of_one c rate one)
a_count_of_1 c (inr square) one n = iterate_fixed after_tick n (after_load c High) (square_of_one c square one)
