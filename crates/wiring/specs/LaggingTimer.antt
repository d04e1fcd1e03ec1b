-- A timer that lags by some ticks.
-- For proofs alone: no public contract rests on it.
use Rattle.std.specs.Prelude.{ℕ, ◌-◌, ◌≤◌, nat_lt, Bool, true, Option, None, Some, IfSome, IsTrue}
use Rattle.board_types.specs.Timed.{IsUntilTurn}
use Rattle.pit8253.specs.Counter.{CounterState, after_ticks, out_of}

abbrev pub is_before : ℕ → Option ℕ → Bool
is_before ticks None = true
is_before ticks (Some turn) = nat_lt ticks turn

-- how many ticks are left to a turn, after `lag` of them
abbrev pub later_turn : Option ℕ → ℕ → Option ℕ
later_turn None lag = None
later_turn (Some turn) lag = Some (turn - lag)

-- a turn that is still to come comes within 65,537 ticks
abbrev pub IsSoon : Option ℕ → Type 0
IsSoon turn = IfSome turn (λ n. n ≤ 65537)

-- OUT of a counter first turns after `turn` ticks, or never if that is none, and not yet after the `lag` ticks by
-- which the counter lags
pub record IsLagging (c : CounterState) (turn : Option ℕ) (lag : ℕ) : Type 0 where
  pub first : IsUntilTurn after_ticks out_of c turn
  pub before : IsTrue (is_before lag turn)
  pub soon : IsSoon turn
