-- When an output of the timer changes next, as long as nothing is written and no gate changes.
-- To be believed by callers of this crate: the headline does not rest on it.
use Rattle.std.specs.Prelude.{◌≡◌, ℕ, ◌-◌, ◌/◌, ◌%◌, ◌^◌, ◌<◌, Option, MatchOption}
use Rattle.board_types.specs.Timed.{IsSteady, TurnsFirst}
use Rattle.pit8253.specs.Counter.{CounterState, after_ticks, out_of}

-- how often the counters tick from one clock to a later one: in each clock whose number is divisible by 4
abbrev pub ticks_between : ℕ → ℕ → ℕ
ticks_between first last = last / 4 - first / 4

-- OUT of a counter that stands at the clock `clock` next turns in the later clock `at`
pub record TurnsIn (c : CounterState) (clock at : ℕ) : Type 0 where
  pub later : clock < at
  pub ticks : at % 4 ≡ 0
  pub turns : TurnsFirst after_ticks out_of c (ticks_between clock at)

-- the clock in which OUT of a counter next turns, or none if it doesn't turn up to the last clock, 2^40
abbrev pub IsEdgeOf : CounterState → ℕ → Option ℕ → Type 0
IsEdgeOf c clock edge =
    MatchOption edge (IsSteady after_ticks out_of c (ticks_between clock (2 ^ 40))) (TurnsIn c clock)
