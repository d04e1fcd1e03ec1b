-- A run that looks for its stop: it comes to the stop, or is held back before it.
use Rattle.std.proofs.Common.{◌≡◌, ℕ, zero, suc, ◌+◌, ◌-◌, ◌<◌, ◌≤◌, Bool, true, false, List, [], ◌∷◌}
use Rattle.std.proofs.Common.{length, get_or, Option, Some, None, refl, sym, ap, subst, ◌∙◌, arith}
use Rattle.std.specs.List.{position_from}
use Rattle.board_plain.specs.declared.stop.Condition.{Condition}
use Rattle.board_plain.specs.declared.stop.Stop.{Stop}
use Rattle.board_plain.specs.Board.{BoardState, Ran}
use Rattle.board.specs.HeldBack.{IsHeldBack}
use Rattle.board_plain.specs.Plain.{changes_in, clock_of}
use Rattle.board_plain.specs.Stops.{holding, run_length, FitsRoom, IsStopOf, NoStop, StopsAt}
use Rattle.board_plain.proofs.Stopping.{stop_is_later}
use Rattle.board.proofs.Ticking.{not_held}

-- the first place at which a test passes
pub first_there : {K : Type 0} (t : K → Bool) (i n : ℕ) (xs : List K) (d : K)
    → n < length xs → ((k : ℕ) → k < n → t (get_or xs k d) ≡ false) → t (get_or xs n d) ≡ true → position_from t i xs ≡ Some (i + n)
first_there t i n [] d within none here = absurd (omega (arith, within))
first_there t i zero (x ∷ xs) d within none here = rw here (ap Some (omega arith))
first_there t i (suc n) (x ∷ xs) d within none here =
    let not_first : t x ≡ false = none 0 (omega arith) in
    rw not_first
    (first_there t (i + 1) n xs d (omega (arith, within)) (λ k h. none (suc k) (omega (arith, h))) here ∙ ap Some (omega arith))

pub none_there : {K : Type 0} (t : K → Bool) (i : ℕ) (xs : List K) (d : K) → ((k : ℕ) → k < length xs → t (get_or xs k d) ≡ false) → position_from t i xs ≡ None
none_there t i [] d none = refl
none_there t i (x ∷ xs) d none =
    let not_first : t x ≡ false = none 0 (omega arith) in
    rw not_first (none_there t (i + 1) xs d (λ k h. none (suc k) (omega (arith, h))))

-- a condition holds at the clock after n at which none did: it is the stop, and its clock gives the run's length
pub stops_here : (stops : List Condition) (count n : ℕ) (s t : BoardState) (number clock : ℕ) → n < count → NoStop stops n s.plain → Ran (n + 1) s t
    → holding stops t.plain ≡ Some number → clock ≡ clock_of t.plain → StopsAt stops count s.plain (record { number = number; clock = clock })
stops_here stops count n s t number clock within none ran here is = record {
  passed = n + 1;
  after_start = omega arith;
  within = omega (arith, within);
  none_before = subst (λ k. NoStop stops k s.plain) (omega arith) none;
  holds_there = ap (holding stops) (sym ran.plain) ∙ here;
  clock = is ∙ ran.clock;
}

pub ran_to_stop : (n : ℕ) (s t : BoardState) (clock : ℕ) → Ran n s t → clock ≡ clock_of t.plain → Ran (clock - clock_of s.plain) s t
ran_to_stop n s t clock ran is =
    let gone = ran.clock in subst (λ k. Ran k s t) (omega (arith, gone, is)) ran

-- a run that is held back has passed no stop
pub none_passed : (stops : List Condition) (n : ℕ) (s t u : BoardState) → NoStop stops n s.plain → Ran n s t → IsHeldBack t u
    → NoStop stops (clock_of u.plain - clock_of s.plain) s.plain
none_passed stops n s t u none ran held =
    let gone = ran.clock in
    let same : clock_of u.plain ≡ clock_of t.plain = ap (λ (b : BoardState). clock_of b.plain) held.kept in
    subst (λ k. NoStop stops k s.plain) (omega (arith, gone, same)) none

-- a run that is held back lacks room that it needs before its stop
not_held_to : (stops : List Condition) (n passed : ℕ) (s t u : BoardState) (stopped : Option Stop) → passed < n → Ran passed s t
    → NoStop stops passed s.plain → IsHeldBack t u → IsStopOf stops n s.plain stopped → length (changes_in s.plain (run_length n s.plain stopped)) ≤ s.room → ⊥
not_held_to stops n passed s t u None within ran none held is fits = not_held n passed s t u within ran held fits
not_held_to stops n passed s t u (Some stop) within ran none held is fits =
    let later : passed < is.passed = stop_is_later stops n passed s.plain stop none is in
    let clock = is.clock in
    let size : run_length n s.plain (Some stop) ≡ is.passed = omega (arith, clock) in
    not_held is.passed passed s t u later ran held (subst (λ k. length (changes_in s.plain k) ≤ s.room) size fits)

pub not_held_before_stop : (stops : List Condition) (n passed : ℕ) (s t u : BoardState)
    → passed < n → Ran passed s t → NoStop stops passed s.plain → IsHeldBack t u → FitsRoom stops n s → ⊥
not_held_before_stop stops n passed s t u within ran none held enough =
    not_held_to stops n passed s t u enough.stopped within ran none held enough.is_stop enough.fits
