-- The three counters tick side by side.
use Rattle.std.proofs.Common.{◌≡◌, ℕ, zero, suc, refl, ap}
use Rattle.board_types.specs.Iterate.{iterate}
use Rattle.pit8253.specs.Counter.{after_ticks}
use Rattle.pit8253.specs.Pit as pit
use Rattle.pit8253.specs.Pit.{PitState, after_tick}

pub each_counter : (n : ℕ) (p : PitState)
    → pit.after_ticks p n ≡ record { counter_0 = after_ticks p.counter_0 n; counter_1 = after_ticks p.counter_1 n; counter_2 = after_ticks p.counter_2 n }
unfolding after_tick iterate
each_counter zero p = refl
each_counter (suc n) p = ap after_tick (each_counter n p)
