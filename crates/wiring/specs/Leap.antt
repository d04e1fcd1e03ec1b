-- Clocks in which nothing happens but that the beam moves and the counters tick.
-- For proofs alone: no public contract rests on it.
use Rattle.std.specs.Prelude.{◌≡◌, ℕ, ◌+◌, Bool, true}
use Rattle.board_types.specs.Timed.{IsSteady}
use Rattle.mda_text.specs.Mda as mda
use Rattle.pit8253.specs.Counter as counter
use Rattle.pit8253.specs.Counter.{out_of}
use Rattle.pit8253.specs.Pit as pit
use Rattle.wiring.specs.Chips.{ChipsState}
use Rattle.wiring.specs.Edges.{ticks_between}
use Rattle.wiring.specs.Wires.{after_settling}

-- OUT0 stays for n clocks
abbrev pub IsStill : ChipsState → ℕ → Type 0
IsStill s n = IsSteady counter.after_ticks out_of s.pit.counter_0 (ticks_between s.clock (s.clock + n))

-- the chips after n clocks at once in which nothing happens but that the beam moves and the counters tick
abbrev pub after_leap : ChipsState → ℕ → ChipsState
after_leap s n = record s {
  clock = s.clock + n;
  pit = pit.after_ticks s.pit (ticks_between s.clock (s.clock + n));
  mda = mda.after_clocks s.mda n;
}

-- if it is known that the wires have settled, they have
abbrev pub IsTold : Bool → ChipsState → Type 0
IsTold known s = known ≡ true → after_settling s ≡ s
