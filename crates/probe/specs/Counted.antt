-- How far a run that counts clocks has come.
-- For proofs alone: no public contract rests on it.
use Rattle.std.specs.Prelude.{ℕ, ◌+◌, ◌≤◌}
use Rattle.board.specs.OneTurn.{begun_in}
use Rattle.board_plain.specs.Plain.{Plain, clock_of}
use Rattle.probe.specs.declared.counts.Counts.{Counts}
use Rattle.probe.specs.Tallied.{HasCounted, IsBefore}

-- what began in n clocks is noted
pub record HasCountedAll (s : Plain) (n : ℕ) (c : Counts) : Type 0 where
  pub noted : HasCounted (begun_in s n) c
  pub before : IsBefore (clock_of s + n) c
  pub started : clock_of s ≤ c.first
