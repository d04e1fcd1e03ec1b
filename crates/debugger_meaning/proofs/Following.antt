-- A search that goes back, stretch by stretch.
use Rattle.std.proofs.Common.{◌≡◌, ℕ, ◌+◌, ◌-◌, ◌<◌, ◌≤◌, inl, inr, List, Option, None, Some, sym, ap, ◌∙◌, arith}
use Rattle.std.proofs.lemmas.Bool.{cases_lt}
use Rattle.board_types.proofs.Iterate.{iterate_add}
use Rattle.board_plain.specs.declared.stop.Condition.{Condition}
use Rattle.board_plain.specs.Lasts.{HeldLast, NoneHeld}
use Rattle.board_plain.specs.Plain.{Plain, after_clock, after_clocks, clock_of}
use Rattle.board_plain.specs.Stops.{holding}

-- none holds from the clock a after the first one on, short of the clock n
abbrev pub NoneFrom : List Condition → ℕ → ℕ → Plain → Type 0
NoneFrom stops a n s = (j : ℕ) → a ≤ j → j < n → holding stops (after_clocks s j) ≡ None

-- a search so far: it has come from the clock of the session's board down to this one
pub record Searched (stops : List Condition) (bound n : ℕ) (s : Plain) : Type 0 where
  pub least : clock_of s ≤ bound
  pub most : bound ≤ clock_of s + n
  pub none : NoneFrom stops (bound - clock_of s) n s

-- what holds some clocks after a board holds fewer clocks after a later board of the run
held_on : (stops : List Condition) (m j : ℕ) (s p : Plain) (here : Option ℕ)
    → p ≡ after_clocks s m → m ≤ j → holding stops (after_clocks p (j - m)) ≡ here → holding stops (after_clocks s j) ≡ here
held_on stops m j s p here is past holds =
    let place : m + (j - m) ≡ j = omega (arith, past) in
    ap (λ k. holding stops (after_clocks s k)) (sym place)
    ∙ ap (holding stops) (iterate_add after_clock m (j - m) s ∙ ap (λ q. after_clocks q (j - m)) (sym is))
    ∙ holds

-- nothing is found in the k clocks from the board p on
pub searched_more : (stops : List Condition) (m k bound n : ℕ) (s p : Plain) → p ≡ after_clocks s m → clock_of p ≡ clock_of s + m
    → bound ≡ clock_of p + k → Searched stops bound n s → NoneHeld stops k p → Searched stops (clock_of p) n s
searched_more stops m k bound n s p is clock top so_far nothing = record {
  least = omega (arith, clock);
  most = let most = so_far.most in omega (arith, most, top);
  none = λ j past within.
      elim (cases_lt j (bound - clock_of s)) [
        | inl early ↦ held_on stops m j s p None is (omega (arith, past, clock)) (nothing (j - m) (omega (arith, early, top, clock, past)))
        | inr late ↦ so_far.none j late within
      ];
}

-- what is found in the last of the stretches
pub found_after : (stops : List Condition) (m k bound n clock number : ℕ) (s p : Plain) → p ≡ after_clocks s m → clock_of p ≡ clock_of s + m
    → bound ≡ clock_of p + k → Searched stops bound n s → HeldLast stops k p clock number → HeldLast stops n s clock number
found_after stops m k bound n clock number s p is at top so_far found =
    let within = found.within in
    let most = so_far.most in
    let clock_is = found.clock_is in record {
      passed = m + found.passed;
      within = omega (arith, within, most, at, top);
      holds_there =
          held_on stops m (m + found.passed) s p (Some number) is (omega arith) (ap (λ j. holding stops (after_clocks p j)) (omega arith) ∙ found.holds_there);
      none_later = λ j past below.
          elim (cases_lt j (bound - clock_of s)) [
            | inl early ↦
                held_on stops m j s p None is (omega (arith, past)) (found.none_later (j - m) (omega (arith, past)) (omega (arith, early, top, at, past)))
            | inr late ↦ so_far.none j late below
          ];
      clock_is = omega (arith, clock_is, at);
    }
