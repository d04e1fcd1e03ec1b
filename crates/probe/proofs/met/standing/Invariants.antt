-- None of the stops so far holds as a condition.
use Rattle.std.proofs.Common.{◌≡◌, ℕ, ◌<◌, false}
use Rattle.std.specs.Prelude.{slice_index_or}
use Rattle.probe.specs.declared.watched.Watched.{Watched}
use Rattle.probe.specs.ProbeStops.{stands}
use Rattle.probe.proofs.met.standing.Given as goal

abbrev pub invariant-loop-index : goal.invariant-loop-index
invariant-loop-index l =
    (k : ℕ) (d : Watched) → k < l.index → stands (slice_index_or l.watches k d).stop l.board.plain ≡ false
