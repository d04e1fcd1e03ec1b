-- The clock of a tick, worked out from the ticks to it.
use Rattle.std.proofs.Common.{◌≡◌, ℕ, ◌+◌, ◌*◌, ◌/◌, ◌<◌, ◌≤◌, subst, arith}
use Rattle.board_types.specs.Timed.{NeverTurns, TurnsFirst, IsSteady}
use Rattle.pit8253.specs.Counter.{CounterState, after_ticks, out_of}
use Rattle.wiring.specs.Edges.{ticks_between, TurnsIn}

pub turns_in : (c : CounterState) (clock turn : ℕ) → TurnsFirst after_ticks out_of c turn → TurnsIn c clock (4 * (clock / 4 + turn))
turns_in c clock turn first =
    let some : 1 ≤ turn = first.some in
    let ticks : turn ≡ ticks_between clock (4 * (clock / 4 + turn)) = omega arith in
    record { later = omega arith; ticks = omega arith; turns = subst (λ k. TurnsFirst after_ticks out_of c k) ticks first }

pub steady_before : (c : CounterState) (turn ticks : ℕ) → TurnsFirst after_ticks out_of c turn → ticks < turn → IsSteady after_ticks out_of c ticks
steady_before c turn ticks first less k within = first.before k (omega arith)

pub steady_for_good : (c : CounterState) (ticks : ℕ) → NeverTurns after_ticks out_of c → IsSteady after_ticks out_of c ticks
steady_for_good c ticks never k within = never k
