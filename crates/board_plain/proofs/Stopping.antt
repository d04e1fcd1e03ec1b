-- How a run ends: at the first clock at which something holds, or without a stop, and in no other way.
use Rattle.std.proofs.Common.{◌≡◌, ℕ, zero, suc, ◌+◌, ◌-◌, ◌<◌, ◌≤◌, List, Option, Some, None, refl, sym, ap, subst, ◌∙◌, arith, below_more}
use Rattle.board_plain.specs.declared.stop.Condition.{Condition}
use Rattle.board_plain.specs.declared.stop.Stop.{Stop}
use Rattle.board_plain.specs.Plain.{Plain, after_clocks, clock_of}
use Rattle.board_plain.specs.Stops.{holding, IsStopOf, NoStop, StopsAt}
use Rattle.board_plain.specs.BoardLaws.{RunsHaveOneEnd}

-- nothing holds after no clocks
pub no_stop_none : (stops : List Condition) (s : Plain) → NoStop stops 0 s
no_stop_none stops s j first within = absurd (omega (arith, first, within))

-- nothing holds at one clock more
pub no_stop_more : (stops : List Condition) (n : ℕ) (s : Plain) → NoStop stops n s → holding stops (after_clocks s (n + 1)) ≡ None → NoStop stops (n + 1) s
no_stop_more stops n s none here j first within =
    below_more (λ k. 1 ≤ k → holding stops (after_clocks s k) ≡ None) (n + 1)
    (λ k below from. none k from (omega (arith, below))) (λ _. here) j (omega (arith, within)) first

-- a stop lies after the clocks at which nothing holds
pub stop_is_later : (stops : List Condition) (n passed : ℕ) (s : Plain) (stop : Stop)
    → NoStop stops passed s → (is : StopsAt stops n s stop) → passed < is.passed
stop_is_later stops n passed s stop none is =
    let not_before : is.passed ≤ passed → ⊥ = λ before. let never : Some stop.number ≡ None = sym is.holds_there ∙ none is.passed is.after_start before in cc in
    omega (arith, not_before)

none_stops : (stops : List Condition) (n : ℕ) (s : Plain) (stop : Stop) → NoStop stops n s → StopsAt stops n s stop → ⊥
none_stops stops n s stop none is = let later = stop_is_later stops n n s stop none is in let within = is.within in absurd (omega (arith, later, within))

-- every run has one end
ends : (stops : List Condition) (n : ℕ) (s : Plain) (stopped : Option ℕ) → holding stops (after_clocks s (n + 1)) ≡ stopped
    → (end : Option Stop) → IsStopOf stops n s end → (other : Option Stop) × IsStopOf stops (n + 1) s other
ends stops n s stopped here (Some stop) is = (
  Some stop,
  record {
    passed = is.passed;
    after_start = is.after_start;
    within = let w = is.within in omega (arith, w);
    none_before = is.none_before;
    holds_there = is.holds_there;
    clock = is.clock;
  },
)
ends stops n s None here None none = (None, no_stop_more stops n s none here)
ends stops n s (Some number) here None none = (
  Some (record { number = number; clock = clock_of s + (n + 1) }),
  record {
    passed = n + 1;
    after_start = omega arith;
    within = omega arith;
    none_before = subst (λ k. NoStop stops k s) (omega arith) none;
    holds_there = here;
    clock = refl;
  },
)

an_end : (stops : List Condition) (n : ℕ) (s : Plain) → (end : Option Stop) × IsStopOf stops n s end
an_end stops zero s = (None, no_stop_none stops s)
an_end stops (suc n) s =
    let so_far = an_end stops n s in
    let next : (other : Option Stop) × IsStopOf stops (n + 1) s other = ends stops n s (holding stops (after_clocks s (n + 1))) refl so_far.0 so_far.1 in
    subst (λ k. (other : Option Stop) × IsStopOf stops k s other) (omega arith) next

same_parts : (a b : Stop) → a.number ≡ b.number → a.clock ≡ b.clock → a ≡ b
same_parts a b number clock = ap (λ n. record { number = n; clock = a.clock }) number ∙ ap (λ c. record { number = b.number; clock = c }) clock

same_stop : (stops : List Condition) (n : ℕ) (s : Plain) (a b : Stop) → StopsAt stops n s a → StopsAt stops n s b → a ≡ b
same_stop stops n s a b first second =
    let not_later = stop_is_later stops n (first.passed - 1) s b first.none_before second in
    let not_sooner = stop_is_later stops n (second.passed - 1) s a second.none_before first in
    let passed : first.passed ≡ second.passed = omega (arith, first.after_start, second.after_start, not_later, not_sooner) in
    let number : Some a.number ≡ Some b.number = sym first.holds_there ∙ ap (λ k. holding stops (after_clocks s k)) passed ∙ second.holds_there in
    let there : a.number ≡ b.number = cc in
    let then : a.clock ≡ b.clock = first.clock ∙ ap (λ k. clock_of s + k) passed ∙ sym second.clock in
    same_parts a b there then

no_other_end : (stops : List Condition) (n : ℕ) (s : Plain) (a b : Option Stop) → IsStopOf stops n s a → IsStopOf stops n s b → a ≡ b
no_other_end stops n s None None none is = refl
no_other_end stops n s None (Some b) none is = absurd (none_stops stops n s b none is)
no_other_end stops n s (Some a) None is none = absurd (none_stops stops n s a none is)
no_other_end stops n s (Some a) (Some b) first second = ap Some (same_stop stops n s a b first second)

pub runs_have_one_end : RunsHaveOneEnd
runs_have_one_end stops n s =
    let one = an_end stops n s in record { end = one.0; is_end = one.1; alone = λ other is. no_other_end stops n s other one.0 is one.1 }
