-- A run that looks for its stop at the end of each turn.
use Rattle.std.proofs.Common.{◌≡◌, ℕ, zero, suc, ◌+◌, ◌-◌, ◌<◌, ◌≤◌, inl, inr, Bool, true, false, List, length, None, Some, refl, sym, ap, ◌∙◌, subst, arith}
use Rattle.std.specs.Bool.{IsTrue}
use Rattle.std.specs.Prelude.{◌⊎◌, ◌&&◌, ◌==◌, slice_index_or}
use Rattle.std.proofs.lemmas.Bool.Decides.{leb_tells, nat_tests}
use Rattle.board_types.proofs.Iterate.{iterate_add}
use Rattle.board_plain.specs.declared.stop.Condition.{Condition}
use Rattle.board_plain.specs.declared.stop.Condition.TheVariants.{Free, At, Byte, Sound, Halted}
use Rattle.board.specs.AwaitFree.{awaits_free, AllAwaitFree, IsTurnBetween}
use Rattle.board_plain.specs.Board.{BoardState, Ran}
use Rattle.board.specs.HeldBack.{IsHeldBack}
use Rattle.board_plain.specs.Plain.{Plain, after_clock, after_clocks, clock_of, is_free}
use Rattle.board_plain.specs.Stops.{holding, holds, FitsRoom, NoStop, StopsAt}
use Rattle.board.specs.QuietSteps.{AreQuietSteps, MayGoOn, Traced}
use Rattle.board.specs.IpRange.{StopsNowhere}
use Rattle.board.specs.Turns.{AreStepsOn, IsLeapOn, IsTickOn, IsTurnOn}
use Rattle.board_plain.specs.Work.{work_next}
use Rattle.board_plain.proofs.Runs.{ran_none}
use Rattle.board_plain.proofs.Stopping.{no_stop_more, no_stop_none}
use Rattle.board.proofs.Stopped.{none_passed, none_there, not_held_before_stop, ran_to_stop, stops_here}
use Rattle.board.proofs.Turns.{Counts, HeldRun, SoFar, before_rest, following, counted, held_run, not_counted, so_far_first}
use Rattle.board.proofs.Turns.{so_far_leap, so_far_none, so_far_tick, steps_lead, act_alone, one_more, short_moves, turn_moves}

-- a run so far that passed no stop; at its clock it hasn't looked for one
pub record Searched (stops : List Condition) (end : ℕ) (s t : BoardState) : Type 0 where
  pub so_far : SoFar 2 end s t
  pub some : 1 ≤ so_far.passed
  pub none : NoStop stops (so_far.passed - 1) s.plain

pub searched_first : (stops : List Condition) (end : ℕ) (s u : BoardState)
    → length s.trail ≤ 32 → clock_of s.plain < end → IsTickOn s u → Searched stops end s u
unfolding so_far_first
searched_first stops end s u few before on = record {
  so_far = so_far_first end s u few before on;
  some = omega arith;
  none = subst (λ n. NoStop stops n s.plain) (omega arith) (no_stop_none stops s.plain);
}

-- nothing holds at the clock at which it looks
pub none_here : (stops : List Condition) (end : ℕ) (s t : BoardState)
    → (searched : Searched stops end s t) → holding stops t.plain ≡ None → NoStop stops searched.so_far.passed s.plain
none_here stops end s t searched here =
    let some = searched.some in
    let n : ℕ = searched.so_far.passed in
    let whole : n - 1 + 1 ≡ n = omega (arith, some) in
    subst (λ k. NoStop stops k s.plain) whole
    (no_stop_more stops (n - 1) s.plain searched.none
    (ap (λ k. holding stops (after_clocks s.plain k)) whole ∙ ap (holding stops) (sym searched.so_far.ran.plain) ∙ here))

-- nothing holds during a leap, before its end
none_in_leap : (stops : List Condition) (n end count : ℕ) (s t u : BoardState)
    → Ran n s t → NoStop stops n s.plain → holding stops t.plain ≡ None → (on : IsLeapOn end count t u) → NoStop stops (n + on.leap.clocks - 1) s.plain
none_in_leap stops n end count s t u ran none here on j first within =
    elim (leb_tells j n) [
      | inl before ↦ none j first before.1
      | inr after ↦
          let later = after.1 in
          let some = on.leap.some in
          let place : n + (j - n) ≡ j = omega (arith, later) in
          ap (λ k. holding stops (after_clocks s.plain k)) (sym place)
          ∙ ap (holding stops) (iterate_add after_clock n (j - n) s.plain ∙ ap (λ p. after_clocks p (j - n)) (sym ran.plain))
          ∙ on.leap.unseen.conditions stops (j - n) (omega (arith, later, within, some))
          ∙ here
    ]

searched_leap : (stops : List Condition) (end count : ℕ) (s t u : BoardState)
    → count ≤ 1 → Searched stops end s t → holding stops t.plain ≡ None → clock_of t.plain < end → IsLeapOn end count t u → Searched stops end s u
unfolding so_far_leap
searched_leap stops end count s t u one searched here before leap = record {
  so_far = so_far_leap 2 end count s t u one searched.so_far before leap;
  some = let some = searched.some in omega (arith, some);
  none = none_in_leap stops searched.so_far.passed end count s t u searched.so_far.ran (none_here stops end s t searched here) here leap;
}

searched_tick : (stops : List Condition) (end : ℕ) (s t u : BoardState)
    → Searched stops end s t → holding stops t.plain ≡ None → clock_of t.plain < end → IsTickOn t u → 1 ≤ work_next t.plain → Searched stops end s u
unfolding so_far_tick
searched_tick stops end s t u searched here before tick work = record {
  so_far = so_far_tick 2 end s t u searched.so_far before tick work;
  some = omega arith;
  none = subst (λ n. NoStop stops n s.plain) (omega arith) (none_here stops end s t searched here);
}

searched_short : (stops : List Condition) (end : ℕ) (s t u : BoardState) → Searched stops end s t
    → holding stops t.plain ≡ None → clock_of t.plain < end → IsTurnOn (clock_of t.plain + 1) end t u → Searched stops end s u
searched_short stops end s t u searched here before (inl leap) = searched_leap stops end 1 s t u (omega arith) searched here before leap
searched_short stops end s t u searched here before (inr act) =
    let tick = act_alone t u act in searched_tick stops end s t u searched here before tick.0 tick.1

-- a busy processor isn't free, so no stop that waits for that holds

not_free : (s : Plain) → 1 ≤ s.busy → is_free s ≡ false
not_free s some = grind (arith, nat_tests)

one_not_held : (condition : Condition) (s : Plain) → 1 ≤ s.busy → awaits_free condition ≡ true → holds condition s ≡ false
unfolding holds
one_not_held Free s some waits = not_free s some
one_not_held (At cs ip) s some waits = ap (λ free. free && (s.cpu.registers.cs == cs) && (s.cpu.registers.ip == ip)) (not_free s some)
one_not_held (Byte address value) s some waits = absurd (let no = waits in cc)
one_not_held Sound s some waits = absurd (let no = waits in cc)
one_not_held Halted s some waits = absurd (let no = waits in cc)

pub none_held : (stops : List Condition) (s : Plain) → 1 ≤ s.busy → AllAwaitFree stops → holding stops s ≡ None
unfolding holding
none_held stops s some waits =
    none_there (λ (condition : Condition). holds condition s) 1 stops Free (λ k below. one_not_held (slice_index_or stops k Free) s some (waits k below))

searched_rest : (stops : List Condition) (end : ℕ) (s b u : BoardState)
    → AllAwaitFree stops → Searched stops end s b → (u ≡ b) ⊎ ((1 ≤ b.plain.busy) × IsLeapOn end 0 b u) → Searched stops end s u
searched_rest stops end s b u waits searched (inl same) = subst (Searched stops end s) (sym same) searched
searched_rest stops end s b u waits searched (inr rest) =
    searched_leap stops end 0 s b u (omega arith) searched (none_held stops b.plain rest.0 waits) (before_rest end b u rest.1) rest.1

searched_over : (stops : List Condition) (end : ℕ) (s t u : BoardState) → AllAwaitFree stops → Searched stops end s t
    → holding stops t.plain ≡ None → clock_of t.plain < end → IsTurnOn end end t u → Searched stops end s u
searched_over stops end s t u waits searched here before (inl leap) = searched_leap stops end 1 s t u (omega arith) searched here before leap
searched_over stops end s t u waits searched here before (inr act) =
    searched_rest stops end s act.begun u waits (searched_tick stops end s t act.begun searched here before act.first act.work) act.rest

-- nothing holds between steps, at an IP that may be passed
pub none_between : (unwatched : ℕ → Type 0) (stops : List Condition) (n end : ℕ) (t w : Traced)
    → StopsNowhere unwatched stops → holding stops t.plain ≡ None → AreQuietSteps unwatched n end t w → MayGoOn unwatched n w → holding stops w.plain ≡ None
unfolding AreQuietSteps
none_between unwatched stops zero end t w none here same goes_on = ap (λ (x : Traced). holding stops x.plain) same ∙ here
none_between unwatched stops (suc n) end t w none here steps goes_on = none w.plain goes_on

searched_each : (unwatched : ℕ → Type 0) (n : ℕ) (stops : List Condition) (end : ℕ) (s t : BoardState) (v : Traced)
    → AllAwaitFree stops → StopsNowhere unwatched stops → Searched stops end s t → holding stops t.plain ≡ None
    → AreQuietSteps unwatched n end (record { plain = t.plain; trail = t.trail }) v → Searched stops end s (following t n v)
unfolding AreQuietSteps
searched_each unwatched zero stops end s t v waits none searched here same =
    let counted : t.turns ≡ t.turns + 0 = omega arith in
    subst (λ b. Searched stops end s b) (λ k. record t { plain = (sym same k).plain; trail = (sym same k).trail; turns = counted k }) searched
searched_each unwatched (suc n) stops end s t v waits none searched here steps =
    let w : Traced = steps.0 in
    searched_over stops end s (following t n w) (following t (suc n) v) waits
    (searched_each unwatched n stops end s t w waits none searched here steps.1)
    (none_between unwatched stops n end (record { plain = t.plain; trail = t.trail }) w none here steps.1 steps.3) steps.2.before
    (inr (one_more n end t w v steps.2))

searched_steps : (unwatched : ℕ → Type 0) (stops : List Condition) (end : ℕ) (s t u : BoardState) → AllAwaitFree stops
    → StopsNowhere unwatched stops → Searched stops end s t → holding stops t.plain ≡ None → AreStepsOn unwatched end t u → Searched stops end s u
searched_steps unwatched stops end s t u waits none searched here on =
    subst (λ b. Searched stops end s b) (steps_lead unwatched end t u on)
    (searched_each unwatched on.count stops end s t (record { plain = u.plain; trail = u.trail }) waits none searched here on.steps)

pub searched_between : (unwatched : ℕ → Type 0) (stops : List Condition) (end : ℕ) (whole : Bool) (s t u : BoardState)
    → (IsTrue whole → AllAwaitFree stops) → StopsNowhere unwatched stops → Searched stops end s t
    → holding stops t.plain ≡ None → clock_of t.plain < end → IsTurnBetween whole unwatched end t u → Searched stops end s u
searched_between unwatched stops end true s t u waits none searched here before (inl on) =
    searched_steps unwatched stops end s t u (waits refl) none searched here on.0
searched_between unwatched stops end true s t u waits none searched here before (inr on) = searched_over stops end s t u (waits refl) searched here before on
searched_between unwatched stops end false s t u waits none searched here before on = searched_short stops end s t u searched here before on

pub between_moves : (unwatched : ℕ → Type 0) (end : ℕ) (whole : Bool) (t u : BoardState)
    → clock_of t.plain < end → IsTurnBetween whole unwatched end t u → end - clock_of u.plain < end - clock_of t.plain
between_moves unwatched end true t u before (inl on) = let moved = on.1 in omega (arith, before, moved)
between_moves unwatched end true t u before (inr on) = turn_moves end t u before on
between_moves unwatched end false t u before on = short_moves end t u before on

-- a condition holds at the clock at which it looks
pub stop_found : (stops : List Condition) (end count : ℕ) (s t : BoardState) (number clock : ℕ) → Searched stops end s t → end ≡ clock_of s.plain + count
    → holding stops t.plain ≡ Some number → clock ≡ clock_of t.plain → StopsAt stops count s.plain (record { number = number; clock = clock })
stop_found stops end count s t number clock searched is here at =
    let n : ℕ = searched.so_far.passed in
    let some = searched.some in
    let gone = searched.so_far.ran.clock in
    let within = searched.so_far.within in
    stops_here stops count (n - 1) s t number clock (omega (arith, some, gone, within, is)) searched.none
    (subst (λ k. Ran k s t) (omega (arith, some)) searched.so_far.ran) here at

-- a search that is held back
pub record HeldSearch (stops : List Condition) (count : ℕ) (s u : BoardState) : Type 0 where
  pub run : HeldRun count s u
  pub none : NoStop stops (clock_of u.plain - clock_of s.plain) s.plain
  pub fits : FitsRoom stops count s → ⊥

pub held_search : (stops : List Condition) (end count : ℕ) (s t u : BoardState) → Searched stops end s t
    → holding stops t.plain ≡ None → end ≡ clock_of s.plain + count → clock_of t.plain < end → IsHeldBack t u → HeldSearch stops count s u
held_search stops end count s t u searched here is before held =
    let n : ℕ = searched.so_far.passed in
    let unheld = none_here stops end s t searched here in
    let clock = searched.so_far.ran.clock in record {
      run = held_run 2 end count s t u searched.so_far (omega arith) is before held;
      none = none_passed stops n s t u unheld searched.so_far.ran held;
      fits = λ enough. not_held_before_stop stops count n s t u (omega (arith, clock, is, before)) searched.so_far.ran unheld held enough;
    }

-- no stop comes before the first clock
pub held_at_once : (stops : List Condition) (end count : ℕ) (s u : BoardState)
    → length s.trail ≤ 32 → end ≡ clock_of s.plain + count → clock_of s.plain < end → IsHeldBack s u → HeldSearch stops count s u
held_at_once stops end count s u few is before held =
    let so_far = so_far_none end s few (omega (arith, before)) in
    let ran = ran_none s few in
    let none = no_stop_none stops s.plain in record {
      run = held_run 1 end count s s u so_far (omega arith) is before held;
      none = none_passed stops 0 s s u none ran held;
      fits = λ enough. not_held_before_stop stops count 0 s s u (omega (arith, is, before)) ran none held enough;
    }

-- a search that ends at a stop
pub record Found (stops : List Condition) (count number clock : ℕ) (s t : BoardState) : Type 0 where
  pub stop : StopsAt stops count s.plain (record { number = number; clock = clock })
  pub ran : Ran (clock - clock_of s.plain) s t
  pub counts : Counts s t

pub found : (stops : List Condition) (end count : ℕ) (s t : BoardState) (number clock : ℕ) → Searched stops end s t
    → end ≡ clock_of s.plain + count → holding stops t.plain ≡ Some number → clock ≡ clock_of t.plain → Found stops count number clock s t
found stops end count s t number clock searched is here at = record {
  stop = stop_found stops end count s t number clock searched is here at;
  ran = ran_to_stop searched.so_far.passed s t clock searched.so_far.ran at;
  counts = counted 2 end s t searched.so_far (omega arith);
}

-- a search that finds none
pub record NotFound (stops : List Condition) (count : ℕ) (s t : BoardState) : Type 0 where
  pub none : NoStop stops count s.plain
  pub ran : Ran count s t
  pub counts : Counts s t

-- no clocks
pub nothing_found : (stops : List Condition) (count : ℕ) (s t : BoardState) → length s.trail ≤ 32 → count ≡ 0 → t ≡ s → NotFound stops count s t
nothing_found stops count s t few none same =
    subst (λ b. NotFound stops count s b) (sym same)
    (subst (λ n. NotFound stops n s s) (sym none) (record {
      none = no_stop_none stops s.plain;
      ran = ran_none s few;
      counts = not_counted s s refl;
    }))
