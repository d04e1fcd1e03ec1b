-- A search in two pieces is one search.
use Rattle.std.proofs.Common.{◌≡◌, ℕ, ◌+◌, ◌-◌, inl, inr, List, Option, None, Some, sym, ap, ◌∙◌, subst, arith}
use Rattle.std.proofs.lemmas.Bool.{cases_lt}
use Rattle.board_types.proofs.Iterate.{iterate_add}
use Rattle.board_plain.specs.declared.stop.Condition.{Condition}
use Rattle.board_plain.specs.declared.stop.Stop.{Stop}
use Rattle.board_plain.specs.Board.{BoardState, Ran, StoppedEarly}
use Rattle.board_plain.specs.BoardLaws.{SearchesJoin}
use Rattle.board_plain.specs.Plain.{Plain, after_clock, after_clocks, clock_of}
use Rattle.board_plain.specs.Stops.{holding, run_length, IsStopOf, NoStop, StopsAt}
use Rattle.board_plain.proofs.Runs.{runs_join}

-- what holds some clocks after a piece
held_later : (stops : List Condition) (a j : ℕ) (s p : Plain) (here : Option ℕ)
    → p ≡ after_clocks s a → holding stops (after_clocks p j) ≡ here → holding stops (after_clocks s (a + j)) ≡ here
held_later stops a j s p here is holds = ap (holding stops) (iterate_add after_clock a j s ∙ ap (λ q. after_clocks q j) (sym is)) ∙ holds

pub no_stop_add : (stops : List Condition) (a b : ℕ) (s p : Plain) → p ≡ after_clocks s a → NoStop stops a s → NoStop stops b p → NoStop stops (a + b) s
no_stop_add stops a b s p is first second j some within =
    elim (cases_lt a j) [
      | inl later ↦
          let place : a + (j - a) ≡ j = omega (arith, later) in
          ap (λ k. holding stops (after_clocks s k)) (sym place)
          ∙ held_later stops a (j - a) s p None is (second (j - a) (omega (arith, later)) (omega (arith, later, within)))
      | inr sooner ↦ first j some sooner
    ]

stop_later : (stops : List Condition) (a b : ℕ) (s t : BoardState) (stop : Stop)
    → Ran a s t → NoStop stops a s.plain → StopsAt stops b t.plain stop → StopsAt stops (a + b) s.plain stop
stop_later stops a b s t stop ran none at =
    let some = at.after_start in
    let within = at.within in
    let clock = at.clock in
    let gone = ran.clock in record {
      passed = a + at.passed;
      after_start = omega (arith, some);
      within = omega (arith, within);
      none_before =
          subst (λ n. NoStop stops n s.plain) (omega (arith, some)) (no_stop_add stops a (at.passed - 1) s.plain t.plain ran.plain none at.none_before);
      holds_there = held_later stops a at.passed s.plain t.plain (Some stop.number) ran.plain at.holds_there;
      clock = omega (arith, clock, gone);
    }

pub searches_join : SearchesJoin
searches_join stops a b s t None ran none is = no_stop_add stops a b s.plain t.plain ran.plain none is
searches_join stops a b s t (Some stop) ran none is = stop_later stops a b s t stop ran none is

-- a search in two pieces has the clocks of both
pub lengths_join : (stops : List Condition) (a b : ℕ) (s t u : BoardState) (stopped : Option Stop)
    → Ran a s t → IsStopOf stops b t.plain stopped → Ran (run_length b t.plain stopped) t u → Ran (run_length (a + b) s.plain stopped) s u
lengths_join stops a b s t u None first is second = runs_join a b s t u first second
lengths_join stops a b s t u (Some stop) first is second =
    let clock = is.clock in
    let gone = first.clock in
    subst (λ n. Ran n s u) (omega (arith, clock, gone)) (runs_join a (stop.clock - clock_of t.plain) s t u first second)

-- a run of two pieces stops early if the second piece finds no memory
pub early_join : (a b : ℕ) (s t u : BoardState) → Ran a s t → StoppedEarly b t u → StoppedEarly (a + b) s u
early_join a b s t u first early =
    let before = early.before_end in record {
      passed = a + early.passed;
      before_end = omega (arith, before);
      ran = runs_join a early.passed s t u first early.ran;
      changes_next = early.changes_next;
      full = early.full;
    }
