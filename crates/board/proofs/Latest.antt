-- A run that keeps the last clock at which a condition held.
use Rattle.std.proofs.Common.{◌≡◌, ℕ, zero, suc, ◌+◌, ◌-◌, ◌<◌, ◌≤◌, inl, inr, Bool, true, false}
use Rattle.std.proofs.Common.{List, length, Option, None, Some, refl, sym, ap, ◌∙◌, subst, arith}
use Rattle.std.specs.Bool.{IsTrue}
use Rattle.std.specs.Prelude.{◌⊎◌}
use Rattle.std.proofs.lemmas.Bool.{cases_lt}
use Rattle.board_types.proofs.Iterate.{iterate_add, iterate_zero}
use Rattle.board_plain.specs.declared.stop.Condition.{Condition}
use Rattle.board.specs.AwaitFree.{AllAwaitFree, IsTurnBetween}
use Rattle.board_plain.specs.Board.{BoardState}
use Rattle.board.specs.Found.{found_at}
use Rattle.board_plain.specs.Lasts.{IsLastOf}
use Rattle.board_plain.specs.Plain.{Plain, after_clock, after_clocks, clock_of}
use Rattle.board_plain.specs.Stops.{holding}
use Rattle.board.specs.QuietSteps.{AreQuietSteps, Traced}
use Rattle.board.specs.Turns.{AreStepsOn, IsLeapOn, IsTickOn, IsTurnOn}
use Rattle.board_plain.specs.Work.{work_next}
use Rattle.board.specs.IpRange.{StopsNowhere}
use Rattle.board.proofs.Search.{none_between, none_held}
use Rattle.board.proofs.Turns.{SoFar, before_rest, following, so_far_leap, so_far_none, so_far_tick, act_alone, steps_lead, one_more}

-- what holds some clocks after a board that is itself some clocks later
later_on : (stops : List Condition) (n j : ℕ) (s p : Plain) (here : Option ℕ)
    → p ≡ after_clocks s n → n ≤ j → holding stops (after_clocks p (j - n)) ≡ here → holding stops (after_clocks s j) ≡ here
later_on stops n j s p here is past holds =
    let place : n + (j - n) ≡ j = omega (arith, past) in
    ap (λ k. holding stops (after_clocks s k)) (sym place)
    ∙ ap (holding stops) (iterate_add after_clock n (j - n) s ∙ ap (λ q. after_clocks q (j - n)) (sym is))
    ∙ holds

-- nothing holds in m clocks more
none_more : (stops : List Condition) (n m j : ℕ) (s p : Plain) → p ≡ after_clocks s n → (j < n → holding stops (after_clocks s j) ≡ None)
    → ((i : ℕ) → i < m → holding stops (after_clocks p i) ≡ None) → j < n + m → holding stops (after_clocks s j) ≡ None
none_more stops n m j s p is before after within =
    elim (cases_lt j n) [
      | inl early ↦ before early
      | inr late ↦ later_on stops n j s p None is late (after (j - n) (omega (arith, late, within)))
    ]

-- a stop holds at each of m clocks more
last_more : (stops : List Condition) (n m clock : ℕ) (s p : Plain) (last : Option (ℕ × ℕ)) (here : Option ℕ)
    → p ≡ after_clocks s n → IsLastOf stops n s last → 1 ≤ m → ((i : ℕ) → i < m → holding stops (after_clocks p i) ≡ here) → clock + 1 ≡ clock_of s + (n + m)
    → IsLastOf stops (n + m) s (found_at last here clock)
last_more stops n m clock s p None None is none some after at = λ j within. none_more stops n m j s p is (none j) after within
last_more stops n m clock s p (Some found) None is last some after at = record {
  passed = last.passed;
  within = let w = last.within in omega (arith, w);
  holds_there = last.holds_there;
  none_later = λ j past within. none_more stops n m j s p is (last.none_later j past) after within;
  clock_is = last.clock_is;
}
last_more stops n m clock s p last (Some number) is found some after at = record {
  passed = n + (m - 1);
  within = omega (arith, some);
  holds_there = later_on stops n (n + (m - 1)) s p (Some number) is (omega arith)
      (ap (λ k. holding stops (after_clocks p k)) (omega arith) ∙ after (m - 1) (omega (arith, some)));
  none_later = λ j past within. absurd (omega (arith, past, within, some));
  clock_is = omega (arith, at, some);
}

-- a run so far, with what it found before its present clock
pub record Looked (stops : List Condition) (end : ℕ) (s t : BoardState) (last : Option (ℕ × ℕ)) : Type 0 where
  pub so_far : SoFar 1 end s t
  pub last_is : IsLastOf stops so_far.passed s.plain last

pub looked_none : (stops : List Condition) (end : ℕ) (s : BoardState) → length s.trail ≤ 32 → clock_of s.plain ≤ end → Looked stops end s s None
looked_none stops end s few within =
    let so_far = so_far_none end s few within in
    let gone = so_far.ran.clock in record {
      so_far = so_far;
      last_is = λ j before. absurd (omega (arith, before, gone));
    }

looked_leap : (stops : List Condition) (end count : ℕ) (s t u : BoardState) (last : Option (ℕ × ℕ)) (here : Option ℕ)
    → count ≤ 1 → Looked stops end s t last → holding stops t.plain ≡ here → clock_of t.plain < end → IsLeapOn end count t u
    → Looked stops end s u (found_at last here (clock_of u.plain - 1))
unfolding so_far_leap
looked_leap stops end count s t u last here one looked is before on =
    let next = so_far_leap 1 end count s t u one looked.so_far before on in
    let gone = next.ran.clock in
    let some = on.leap.some in record {
      so_far = next;
      last_is = last_more stops looked.so_far.passed on.leap.clocks (clock_of u.plain - 1) s.plain t.plain last here looked.so_far.ran.plain looked.last_is some
          (λ i within. on.leap.unseen.conditions stops i within ∙ is) (omega (arith, gone, some));
    }

looked_tick : (stops : List Condition) (end : ℕ) (s t u : BoardState) (last : Option (ℕ × ℕ)) (here : Option ℕ)
    → Looked stops end s t last → holding stops t.plain ≡ here → clock_of t.plain < end → IsTickOn t u → 1 ≤ work_next t.plain
    → Looked stops end s u (found_at last here (clock_of u.plain - 1))
unfolding so_far_tick
looked_tick stops end s t u last here looked is before tick work =
    let next = so_far_tick 1 end s t u looked.so_far before tick work in
    let gone = next.ran.clock in record {
      so_far = next;
      last_is = last_more stops looked.so_far.passed 1 (clock_of u.plain - 1) s.plain t.plain last here looked.so_far.ran.plain looked.last_is (omega arith)
          (λ i within. ap (λ k. holding stops (after_clocks t.plain k)) (omega (arith, within)) ∙ ap (holding stops) (iterate_zero after_clock t.plain) ∙ is)
          (omega (arith, gone));
    }

looked_short : (stops : List Condition) (end : ℕ) (s t u : BoardState) (last : Option (ℕ × ℕ)) (here : Option ℕ)
    → Looked stops end s t last → holding stops t.plain ≡ here → clock_of t.plain < end → IsTurnOn (clock_of t.plain + 1) end t u
    → Looked stops end s u (found_at last here (clock_of u.plain - 1))
looked_short stops end s t u last here looked is before (inl leap) = looked_leap stops end 1 s t u last here (omega arith) looked is before leap
looked_short stops end s t u last here looked is before (inr act) =
    let tick = act_alone t u act in looked_tick stops end s t u last here looked is before tick.0 tick.1

-- the other clocks of a step, if nothing holds at its start and all stops wait for a free processor
looked_rest : (stops : List Condition) (end : ℕ) (s b u : BoardState) (last : Option (ℕ × ℕ))
    → AllAwaitFree stops → Looked stops end s b last → (u ≡ b) ⊎ ((1 ≤ b.plain.busy) × IsLeapOn end 0 b u) → Looked stops end s u last
looked_rest stops end s b u last waits looked (inl same) = subst (λ x. Looked stops end s x last) (sym same) looked
looked_rest stops end s b u last waits looked (inr rest) =
    looked_leap stops end 0 s b u last None (omega arith) looked (none_held stops b.plain rest.0 waits) (before_rest end b u rest.1) rest.1

looked_over : (stops : List Condition) (end : ℕ) (s t u : BoardState) (last : Option (ℕ × ℕ))
    → AllAwaitFree stops → Looked stops end s t last → holding stops t.plain ≡ None → clock_of t.plain < end → IsTurnOn end end t u → Looked stops end s u last
looked_over stops end s t u last waits looked is before (inl leap) = looked_leap stops end 1 s t u last None (omega arith) looked is before leap
looked_over stops end s t u last waits looked is before (inr act) =
    looked_rest stops end s act.begun u last waits (looked_tick stops end s t act.begun last None looked is before act.first act.work) act.rest

-- steps at once, between which none holds
looked_each : (unwatched : ℕ → Type 0) (n : ℕ) (stops : List Condition) (end : ℕ) (s t : BoardState) (v : Traced) (last : Option (ℕ × ℕ))
    → AllAwaitFree stops → StopsNowhere unwatched stops → Looked stops end s t last → holding stops t.plain ≡ None
    → AreQuietSteps unwatched n end (record { plain = t.plain; trail = t.trail }) v → Looked stops end s (following t n v) last
unfolding AreQuietSteps
looked_each unwatched zero stops end s t v last waits none looked here same =
    let counted : t.turns ≡ t.turns + 0 = omega arith in
    subst (λ b. Looked stops end s b last) (λ k. record t { plain = (sym same k).plain; trail = (sym same k).trail; turns = counted k }) looked
looked_each unwatched (suc n) stops end s t v last waits none looked here steps =
    let w : Traced = steps.0 in
    looked_over stops end s (following t n w) (following t (suc n) v) last waits
    (looked_each unwatched n stops end s t w last waits none looked here steps.1)
    (none_between unwatched stops n end (record { plain = t.plain; trail = t.trail }) w none here steps.1 steps.3) steps.2.before
    (inr (one_more n end t w v steps.2))

looked_steps : (unwatched : ℕ → Type 0) (stops : List Condition) (end : ℕ) (s t u : BoardState) (last : Option (ℕ × ℕ)) → AllAwaitFree stops
    → StopsNowhere unwatched stops → Looked stops end s t last → holding stops t.plain ≡ None → AreStepsOn unwatched end t u → Looked stops end s u last
looked_steps unwatched stops end s t u last waits none looked here on =
    subst (λ b. Looked stops end s b last) (steps_lead unwatched end t u on)
    (looked_each unwatched on.count stops end s t (record { plain = u.plain; trail = u.trail }) last waits none looked here on.steps)

looked_whole : (unwatched : ℕ → Type 0) (stops : List Condition) (end : ℕ) (s t u : BoardState) (last : Option (ℕ × ℕ))
    → AllAwaitFree stops → StopsNowhere unwatched stops → Looked stops end s t last → holding stops t.plain ≡ None
    → clock_of t.plain < end → IsTurnBetween true unwatched end t u → Looked stops end s u last
looked_whole unwatched stops end s t u last waits none looked is before (inl on) = looked_steps unwatched stops end s t u last waits none looked is on.0
looked_whole unwatched stops end s t u last waits none looked is before (inr on) = looked_over stops end s t u last waits looked is before on

pub looked_between : (unwatched : ℕ → Type 0) (stops : List Condition) (end : ℕ)
    (whole : Bool) (s t u : BoardState) (last : Option (ℕ × ℕ)) (here : Option ℕ)
    → (IsTrue whole → AllAwaitFree stops × (here ≡ None)) → StopsNowhere unwatched stops → Looked stops end s t last → holding stops t.plain ≡ here
    → clock_of t.plain < end → IsTurnBetween whole unwatched end t u → Looked stops end s u (found_at last here (clock_of u.plain - 1))
looked_between unwatched stops end true s t u last here waits passing looked is before on =
    let none : here ≡ None = (waits refl).1 in
    subst (λ h. Looked stops end s u (found_at last h (clock_of u.plain - 1))) (sym none)
    (looked_whole unwatched stops end s t u last (waits refl).0 passing looked (is ∙ none) before on)
looked_between unwatched stops end false s t u last here waits passing looked is before on = looked_short stops end s t u last here looked is before on
