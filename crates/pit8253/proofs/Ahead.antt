-- The closed forms are what the ticks make, one after another.
use Rattle.std.proofs.Common.{◌≡◌, ◌≢◌, ℕ, zero, suc, ◌+◌, ◌-◌, ◌/◌, ◌%◌, ◌<◌, ◌≤◌, ◌⊎◌, Bool, true, false, if◌then◌else◌}
use Rattle.std.proofs.Common.{◌&&◌, ◌||◌, refl, sym, ap, ◌∙◌, subst, arith, inl, inr, nat_lt, Option, None, Some}
use Rattle.std.specs.Prelude.{◌==◌, is_none}
use Rattle.std.proofs.lemmas.Bool.{cases_lt}
use Rattle.std.proofs.lemmas.Nat.{mod_below}
use Rattle.board_types.proofs.Iterate.{iterate_zero, iterate_more, iterate_add, iterate_fixed}
use Rattle.board_types.specs.LineLevel.{is_high, opposite}
use Rattle.board_types.specs.declared.line.Line.{Line}
use Rattle.board_types.specs.declared.line.Line.TheVariants.{Low, High}
use Rattle.pit8253.specs.declared.program.Mode.{Mode}
use Rattle.pit8253.specs.declared.program.Mode.TheVariants.{TerminalCount, OneShot, RateGenerator, SquareWave, SoftwareStrobe, HardwareStrobe}
use Rattle.pit8253.specs.declared.program.Progress.{Progress}
use Rattle.pit8253.specs.declared.program.Progress.TheVariants.{Awaited, Written, Loaded}
use Rattle.pit8253.specs.Program.{modulus}
use Rattle.pit8253.specs.Counter.{CounterState, is_loaded, after_load, loads_less, after_square_load, after_due_load, after_count}
use Rattle.pit8253.specs.Counter.{after_decrement, after_rate_count, after_square_count, after_strobe_count, after_rest, after_tick, after_ticks}
use Rattle.pit8253.specs.PitLaws.{size, ticks_left, Runs, after_fall, after_strobe_fall, after_rate_fall, half_left, after_half_fall}
use Rattle.pit8253.specs.Ahead.{is_counting, after_rests, after_rate, half_ticks, after_turn, after_halves, after_square, after_counting, after_run}
use Rattle.pit8253.proofs.Falls.{round_again, if_yes, if_no}
use Rattle.pit8253.proofs.Counts.{differs, same, below, not_below, lengths}
use Rattle.pit8253.proofs.Ticking.{tick_counts}
use Rattle.pit8253.proofs.Waves.{counts_down, counts_to_strobe, counts_period, counts_periods, counts_half, half_some}
use Rattle.pit8253.proofs.Waves.{reloads_at_one, SquareLoad, square_loads, square_load_of_one, a_count_of_1}

-- counts within their radices
pub record Sound (c : CounterState) : Type 0 where
  pub newest : c.newest < modulus c.radix
  pub count : c.count < modulus c.count_radix

pub one_or_other : (n : ℕ) → (n ≡ 1) ⊎ (n ≢ 1)
one_or_other zero = inr (omega arith)
one_or_other (suc zero) = inl refl
one_or_other (suc (suc n)) = inr (omega arith)

-- which tests say that a tick counts

is_loaded_one : (p : Progress) → is_loaded p ≡ true → p ≡ Loaded
is_loaded_one Loaded holds = refl
is_loaded_one Awaited holds = cc
is_loaded_one Written holds = cc

pub record Enabled (p : Progress) (g : Line) : Type 0 where
  pub loaded : p ≡ Loaded
  pub gate : g ≡ High

pub enabled : (p : Progress) (g : Line) → (is_loaded p && is_high g) ≡ true → Enabled p g
enabled Loaded High holds = record { loaded = refl; gate = refl }
enabled Loaded Low holds = cc
enabled Awaited g holds = cc
enabled Written g holds = cc

record Unstopped (p : Progress) (g : Line) (f : Option ℕ) : Type 0 where
  loaded : p ≡ Loaded
  gate : g ≡ High
  first : f ≡ None

unstopped : (p : Progress) (g : Line) (f : Option ℕ) → (is_loaded p && is_high g && is_none f) ≡ true → Unstopped p g f
unstopped Loaded High None holds = record { loaded = refl; gate = refl; first = refl }
unstopped Loaded High (Some b) holds = cc
unstopped Loaded Low f holds = cc
unstopped Awaited g f holds = cc
unstopped Written g f holds = cc

pub runs_of : (c : CounterState) → Sound c → c.load_due ≡ false → c.progress ≡ Loaded → Runs c
runs_of c sound due loaded = record { loaded = loaded; none_due = due; within = sound.count }

-- modes 0 and 1, by whether the ticks count

pub runs_terminal : (c : CounterState) → Sound c → c.load_due ≡ false → c.mode ≡ TerminalCount → (n : ℕ) (b : Bool) → is_counting c TerminalCount ≡ b
    → after_ticks c n ≡ (if b then after_fall c n else c)
runs_terminal c sound due mode n true counts =
    let tests = unstopped c.progress c.gate c.first_byte counts in
    counts_down c (runs_of c sound due tests.loaded) (inl (mode, tests.gate, tests.first)) n
runs_terminal c sound due mode n false rests =
    iterate_fixed after_tick n c
    (tick_counts c c due refl ∙ ap (λ m. after_count c m) mode ∙ if_no (is_counting c TerminalCount) (after_decrement c) c rests)

pub runs_one_shot : (c : CounterState) → Sound c → c.load_due ≡ false → c.mode ≡ OneShot → (n : ℕ) (b : Bool) → is_counting c OneShot ≡ b
    → after_ticks c n ≡ (if b then after_fall c n else c)
runs_one_shot c sound due mode n true counts =
    counts_down c (runs_of c sound due (is_loaded_one c.progress counts)) (inr mode) n
runs_one_shot c sound due mode n false rests =
    iterate_fixed after_tick n c
    (tick_counts c c due refl ∙ ap (λ m. after_count c m) mode ∙ if_no (is_counting c OneShot) (after_decrement c) c rests)

-- mode 2

rate_ahead : (c : CounterState) → Sound c → Runs c → c.mode ≡ RateGenerator → c.gate ≡ High → (n : ℕ) → after_ticks c n ≡ after_rate c n
unfolding after_rate
rate_ahead c sound runs mode gate n =
    let left : ℕ = ticks_left c in
    let period = counts_period c runs mode gate in
    let early : CounterState = after_rate_fall c n in
    let late : CounterState = after_rate_fall (after_load c High) ((n - left) % size c) in
    elim (cases_lt n left) [
      | inl before ↦ period.0 n before ∙ sym (if_yes (nat_lt n left) early late (below n left before))
      | inr after ↦
          let parts : n ≡ left + (n - left) = omega arith in
          ap (λ k. after_ticks c k) parts ∙ iterate_add after_tick left (n - left) c
          ∙ ap (λ s. after_ticks s (n - left)) period.1 ∙ counts_periods c mode gate sound.newest (n - left)
          ∙ sym (if_no (nat_lt n left) early late (not_below n left after))
    ]

pub runs_rate : (c : CounterState) → Sound c → c.load_due ≡ false → c.mode ≡ RateGenerator → (n : ℕ) (b : Bool) → is_counting c RateGenerator ≡ b
    → after_ticks c n ≡ (if b then after_rate c n else c)
runs_rate c sound due mode n true counts =
    let tests = enabled c.progress c.gate counts in
    rate_ahead c sound (runs_of c sound due tests.loaded) mode tests.gate n
runs_rate c sound due mode n false rests =
    iterate_fixed after_tick n c
    (tick_counts c c due refl ∙ ap (λ m. after_count c m) mode ∙ if_no (is_counting c RateGenerator) (after_rate_count c) c rests)

-- mode 3

-- up to the load, and at it
pub record HalfEnds (c : CounterState) : Type 0 where
  pub within : (n : ℕ) → n < half_ticks c → after_ticks c n ≡ after_half_fall c n
  pub end : after_ticks c (half_ticks c) ≡ after_turn c
  pub some : 0 < half_ticks c

pub half_ends : (c : CounterState) → Runs c → c.mode ≡ SquareWave → c.gate ≡ High → HalfEnds c
unfolding after_turn
half_ends c runs mode gate = elim (one_or_other c.count) [
  | inl one ↦
      let single : half_ticks c ≡ 1 = if_yes (c.count == 1) 1 (half_left c) (same c.count 1 one) in
      record {
        within = λ n soon.
            let none : n ≡ 0 = omega arith in
            ap (λ k. after_ticks c k) none ∙ iterate_zero after_tick c ∙ ap (λ k. after_half_fall c k) (sym none);
        end = ap (λ k. after_ticks c k) single ∙ iterate_more after_tick 0 c ∙ ap after_tick (iterate_zero after_tick c)
            ∙ reloads_at_one c runs mode gate one
            ∙ ap (λ b. after_square_load c (if b || (c.newest == 1) then High else opposite c.out)) (sym (same c.count 1 one));
        some = omega arith;
      }
  | inr other ↦
      let half : half_ticks c ≡ half_left c = if_no (c.count == 1) 1 (half_left c) (differs c.count 1 other) in
      let falls = counts_half c runs mode gate other in
      record {
        within = λ n soon. falls.0 n (subst (λ k. n < k) half soon);
        end = ap (λ k. after_ticks c k) half ∙ falls.1
            ∙ ap (λ b. after_square_load c (if b || (c.newest == 1) then High else opposite c.out)) (sym (differs c.count 1 other));
        some = subst (λ k. 0 < k) (sym half) (half_some c runs other);
      }
]

-- the ticks of a half that is loaded
loaded_half : (c : CounterState) (out : Line) → SquareLoad c out → half_ticks (after_square_load c out) ≡ (if is_high out then (size c + 1) / 2 else size c / 2)
loaded_half c out load =
    if_no ((after_square_load c out).count == 1) 1 (half_left (after_square_load c out)) (differs (after_square_load c out).count 1 load.other) ∙ load.half

halves_of_one : (c : CounterState) → c.newest ≡ 1 → (n : ℕ) → after_halves (after_load c High) (n % size c) ≡ after_load c High
unfolding after_halves
halves_of_one c one n =
    let d : CounterState = after_load c High in
    let single : half_ticks d ≡ 1 = if_yes (d.count == 1) 1 (half_left d) (same d.count 1 one) in
    let size_one : size c ≡ 1 = if_no (c.newest == 0) (modulus c.radix) c.newest (differs c.newest 0 (omega arith)) ∙ one in
    let none : n % size c ≡ 0 = ap (λ k. n % k) size_one ∙ omega arith in
    ap (λ k. if nat_lt k (half_ticks d) then after_half_fall d k else after_half_fall (after_turn d) (k - half_ticks d)) none
    ∙ if_yes (nat_lt 0 (half_ticks d)) (after_half_fall d 0) (after_half_fall (after_turn d) (0 - half_ticks d)) (below 0 (half_ticks d) (omega arith))

-- the turn of a half whose newest count isn't 1
turn_of : (c : CounterState) (out : Line) → SquareLoad c out → c.newest ≢ 1 → after_turn (after_square_load c out) ≡ after_square_load c (opposite out)
unfolding after_turn
turn_of c out load other =
    ap (λ b. after_square_load c (if b || (c.newest == 1) then High else opposite out)) (differs (after_square_load c out).count 1 load.other)
    ∙ ap (λ b. after_square_load c (if b then High else opposite out)) (differs c.newest 1 other)

-- the two halves of a period
whole_period : (c : CounterState) → c.newest < modulus c.radix → c.newest ≢ 1 → (out : Line)
    → size c ≡ half_ticks (after_square_load c out) + half_ticks (after_square_load c (opposite out))
whole_period c within other High =
    let first = loaded_half c High (square_loads c High within other) in
    let second = loaded_half c Low (square_loads c Low within other) in
    rw (first, second) (omega arith)
whole_period c within other Low =
    let first = loaded_half c High (square_loads c High within other) in
    let second = loaded_half c Low (square_loads c Low within other) in
    rw (first, second) (omega arith)

opposite_twice : (out : Line) → opposite (opposite out) ≡ out
opposite_twice High = refl
opposite_twice Low = refl

in_period : (c : CounterState) → c.mode ≡ SquareWave → c.gate ≡ High → c.newest < modulus c.radix → (out : Line) → c.newest ≢ 1 → (r : ℕ) → r < size c
    → after_ticks (after_square_load c out) r ≡ after_halves (after_square_load c out) r
unfolding after_halves
in_period c mode gate within out other r small =
    let d : CounterState = after_square_load c out in
    let e : CounterState = after_square_load c (opposite out) in
    let half : ℕ = half_ticks d in
    let load : SquareLoad c out = square_loads c out within other in
    let load_next : SquareLoad c (opposite out) = square_loads c (opposite out) within other in
    let first : HalfEnds d = half_ends d load.runs mode gate in
    let second : HalfEnds e = half_ends e load_next.runs mode gate in
    let turns : after_turn d ≡ e = turn_of c out load other in
    let whole : size c ≡ half + half_ticks e = whole_period c within other out in
    elim (cases_lt r half) [
      | inl before ↦
          first.within r before
          ∙ sym (if_yes (nat_lt r half) (after_half_fall d r) (after_half_fall (after_turn d) (r - half)) (below r half before))
      | inr after ↦
          ap (λ k. after_ticks d k) (parted r half after) ∙ iterate_add after_tick half (r - half) d
          ∙ ap (λ s. after_ticks s (r - half)) (first.end ∙ turns)
          ∙ second.within (r - half) (rest_below r half (half_ticks e) (size c) after small whole)
          ∙ ap (λ s. after_half_fall s (r - half)) (sym turns)
          ∙ sym (if_no (nat_lt r half) (after_half_fall d r) (after_half_fall (after_turn d) (r - half)) (not_below r half after))
    ]
  where
    parted : (r half : ℕ) → half ≤ r → r ≡ half + (r - half)
    parted r half after = omega arith

    rest_below : (r half next all : ℕ) → half ≤ r → r < all → all ≡ half + next → r - half < next
    rest_below r half next all after small whole = omega arith

-- after a load, any number of ticks on
halves_ahead : (c : CounterState) → c.mode ≡ SquareWave → c.gate ≡ High → c.newest < modulus c.radix → (out : Line) → (c.newest ≡ 1 → out ≡ High) → (n : ℕ)
    → after_ticks (after_square_load c out) n ≡ after_halves (after_square_load c out) (n % size c)
halves_ahead c mode gate within out at_one n = elim (one_or_other c.newest) [
  | inl one ↦
      let load : after_square_load c out ≡ after_load c High = ap (λ o. after_square_load c o) (at_one one) ∙ square_load_of_one c High one in
      subst (λ d. after_ticks d n ≡ after_halves d (n % size c)) (sym load)
      (a_count_of_1 c (inr mode) one n ∙ sym (halves_of_one c one n))
  | inr other ↦ of_other c mode gate within out other n
]
  where
    round : (c : CounterState) → c.mode ≡ SquareWave → c.gate ≡ High → c.newest < modulus c.radix → (out : Line) → c.newest ≢ 1
        → after_ticks (after_square_load c out) (size c) ≡ after_square_load c out
    round c mode gate within out other =
        let d : CounterState = after_square_load c out in
        let e : CounterState = after_square_load c (opposite out) in
        let load : SquareLoad c out = square_loads c out within other in
        let load_next : SquareLoad c (opposite out) = square_loads c (opposite out) within other in
        let first : HalfEnds d = half_ends d load.runs mode gate in
        let second : HalfEnds e = half_ends e load_next.runs mode gate in
        ap (λ k. after_ticks d k) (whole_period c within other out) ∙ iterate_add after_tick (half_ticks d) (half_ticks e) d
        ∙ ap (λ s. after_ticks s (half_ticks e)) (first.end ∙ turn_of c out load other)
        ∙ second.end ∙ turn_of c (opposite out) load_next other ∙ ap (λ o. after_square_load c o) (opposite_twice out)

    of_other : (c : CounterState) → c.mode ≡ SquareWave → c.gate ≡ High → c.newest < modulus c.radix → (out : Line) → c.newest ≢ 1 → (n : ℕ)
        → after_ticks (after_square_load c out) n ≡ after_halves (after_square_load c out) (n % size c)
    of_other c mode gate within out other n =
        round_again after_tick (size c) (after_square_load c out) (round c mode gate within out other) n
        ∙ in_period c mode gate within out other (n % size c) (mod_below n (size c) (lengths c.radix c.newest within).some)

square_ahead : (c : CounterState) → Sound c → Runs c → c.mode ≡ SquareWave → c.gate ≡ High → (n : ℕ) → after_ticks c n ≡ after_square c n
unfolding after_square after_turn
square_ahead c sound runs mode gate n =
    let half : ℕ = half_ticks c in
    let ends : HalfEnds c = half_ends c runs mode gate in
    let out : Line = (if (c.count == 1) || (c.newest == 1) then High else opposite c.out) in
    let early : CounterState = after_half_fall c n in
    let late : CounterState = after_halves (after_square_load c out) ((n - half) % size c) in
    elim (cases_lt n half) [
      | inl before ↦ ends.within n before ∙ sym (if_yes (nat_lt n half) early late (below n half before))
      | inr after ↦
          ap (λ k. after_ticks c k) (parted n half after) ∙ iterate_add after_tick half (n - half) c
          ∙ ap (λ s. after_ticks s (n - half)) ends.end
          ∙ halves_ahead c mode gate sound.newest out (λ one. high_at_one (c.count == 1) (c.newest == 1) c.out (same c.newest 1 one)) (n - half)
          ∙ sym (if_no (nat_lt n half) early late (not_below n half after))
    ]
  where
    parted : (n half : ℕ) → half ≤ n → n ≡ half + (n - half)
    parted n half after = omega arith

    high_at_one : (a b : Bool) (out : Line) → b ≡ true → (if a || b then High else opposite out) ≡ High
    high_at_one true b out one = refl
    high_at_one false true out one = refl
    high_at_one false false out one = cc

pub runs_square : (c : CounterState) → Sound c → c.load_due ≡ false → c.mode ≡ SquareWave → (n : ℕ) (b : Bool) → is_counting c SquareWave ≡ b
    → after_ticks c n ≡ (if b then after_square c n else c)
runs_square c sound due mode n true counts =
    let tests = enabled c.progress c.gate counts in
    square_ahead c sound (runs_of c sound due tests.loaded) mode tests.gate n
runs_square c sound due mode n false rests =
    iterate_fixed after_tick n c
    (tick_counts c c due refl ∙ ap (λ m. after_count c m) mode ∙ if_no (is_counting c SquareWave) (after_square_count c) c rests)

-- modes 4 and 5: if the ticks don't count, the first ends a strobe

rests_high : (c : CounterState) → (after_tick c ≡ after_rest c) → (after_tick (after_rest c) ≡ after_rest c) → (n : ℕ)
    → after_ticks c n ≡ (if n == 0 then c else after_rest c)
rests_high c first stays zero = iterate_zero after_tick c
rests_high c first stays (suc n) =
    let more : suc n ≡ 1 + n = omega arith in
    ap (λ k. after_ticks c k) more ∙ iterate_add after_tick 1 n c
    ∙ ap (λ s. after_ticks s n) (iterate_more after_tick 0 c ∙ ap after_tick (iterate_zero after_tick c) ∙ first)
    ∙ iterate_fixed after_tick n (after_rest c) stays
    ∙ sym (if_no (suc n == 0) c (after_rest c) (differs (suc n) 0 (omega arith)))

pub runs_software : (c : CounterState) → Sound c → c.load_due ≡ false → c.mode ≡ SoftwareStrobe → (n : ℕ) (b : Bool) → is_counting c SoftwareStrobe ≡ b
    → after_ticks c n ≡ (if b then after_strobe_fall c n else after_rests c SoftwareStrobe n)
runs_software c sound due mode n true counts =
    let tests = enabled c.progress c.gate counts in
    counts_to_strobe c (runs_of c sound due tests.loaded) (inl (mode, tests.gate)) n
runs_software c sound due mode n false rests =
    let d : CounterState = after_rest c in
    rests_high c
    (tick_counts c c due refl ∙ ap (λ m. after_count c m) mode ∙ if_no (is_counting c SoftwareStrobe) (after_strobe_count c) d rests)
    (tick_counts c d due refl ∙ ap (λ m. after_count d m) mode ∙ if_no (is_counting c SoftwareStrobe) (after_strobe_count d) d rests)
    n

pub runs_hardware : (c : CounterState) → Sound c → c.load_due ≡ false → c.mode ≡ HardwareStrobe → (n : ℕ) (b : Bool) → is_counting c HardwareStrobe ≡ b
    → after_ticks c n ≡ (if b then after_strobe_fall c n else after_rests c HardwareStrobe n)
runs_hardware c sound due mode n true counts =
    counts_to_strobe c (runs_of c sound due (is_loaded_one c.progress counts)) (inr mode) n
runs_hardware c sound due mode n false rests =
    let d : CounterState = after_rest c in
    rests_high c
    (tick_counts c c due refl ∙ ap (λ m. after_count c m) mode ∙ if_no (is_counting c HardwareStrobe) (after_strobe_count c) d rests)
    (tick_counts c d due refl ∙ ap (λ m. after_count d m) mode ∙ if_no (is_counting c HardwareStrobe) (after_strobe_count d) d rests)
    n

-- all modes

pub by_mode : (c : CounterState) → Sound c → c.load_due ≡ false → (n : ℕ) (mode : Mode) → c.mode ≡ mode
    → after_ticks c n ≡ (if is_counting c mode then after_counting c mode n else after_rests c mode n)
by_mode c sound due n TerminalCount is = runs_terminal c sound due is n (is_counting c TerminalCount) refl
by_mode c sound due n OneShot is = runs_one_shot c sound due is n (is_counting c OneShot) refl
by_mode c sound due n RateGenerator is = runs_rate c sound due is n (is_counting c RateGenerator) refl
by_mode c sound due n SquareWave is = runs_square c sound due is n (is_counting c SquareWave) refl
by_mode c sound due n SoftwareStrobe is = runs_software c sound due is n (is_counting c SoftwareStrobe) refl
by_mode c sound due n HardwareStrobe is = runs_hardware c sound due is n (is_counting c HardwareStrobe) refl

pub runs_ahead : (c : CounterState) → Sound c → c.load_due ≡ false → (n : ℕ) → after_ticks c n ≡ after_run c n
unfolding after_run
runs_ahead c sound due n = by_mode c sound due n c.mode refl

-- a load that is due takes a tick
pub due_load : (c : CounterState) → c.load_due ≡ true → after_tick c ≡ after_due_load c c.mode
unfolding after_tick
due_load c due = if_yes c.load_due (after_due_load c c.mode) (after_count c c.mode) due

-- what a load that is due makes: counts within their radices, and none due
pub record DueLoad (c d : CounterState) : Type 0 where
  pub sound : Sound d
  pub none : d.load_due ≡ false

pub due_loaded : (c : CounterState) → Sound c → (mode : Mode) → DueLoad c (after_due_load c mode)
due_loaded c sound TerminalCount = record { sound = record { newest = sound.newest; count = sound.newest }; none = refl }
due_loaded c sound OneShot = record { sound = record { newest = sound.newest; count = sound.newest }; none = refl }
due_loaded c sound RateGenerator = record { sound = record { newest = sound.newest; count = sound.newest }; none = refl }
due_loaded c sound SquareWave =
    record { sound = record { newest = sound.newest; count = less (loads_less c) c.newest (modulus c.radix) sound.newest }; none = refl }
  where
    less : (b : Bool) (n m : ℕ) → n < m → (if b then n - 1 else n) < m
    less true n m within = omega arith
    less false n m within = within
due_loaded c sound SoftwareStrobe = record { sound = record { newest = sound.newest; count = sound.newest }; none = refl }
due_loaded c sound HardwareStrobe = record { sound = record { newest = sound.newest; count = sound.newest }; none = refl }

pub a_tick_first : (c : CounterState) (n : ℕ) → c.load_due ≡ true → after_ticks c (1 + n) ≡ after_ticks (after_due_load c c.mode) n
a_tick_first c n due =
    iterate_add after_tick 1 n c
    ∙ ap (λ s. after_ticks s n) (iterate_more after_tick 0 c ∙ ap after_tick (iterate_zero after_tick c) ∙ due_load c due)

pub goes_ahead : (c : CounterState) (n : ℕ) → Sound c → c.load_due ≡ true → 1 ≤ n → after_ticks c n ≡ after_run (after_due_load c c.mode) (n - 1)
goes_ahead c n sound due some =
    let more : n ≡ 1 + (n - 1) = omega arith in
    let load : DueLoad c (after_due_load c c.mode) = due_loaded c sound c.mode in
    ap (λ k. after_ticks c k) more ∙ a_tick_first c (n - 1) due ∙ runs_ahead (after_due_load c c.mode) load.sound load.none (n - 1)
