-- None of the stops so far is met.
use Rattle.std.proofs.Common.{◌≡◌, ℕ, ◌<◌, false}
use Rattle.std.specs.Prelude.{slice_index_or}
use Rattle.probe.specs.declared.watched.Watched.{Watched}
use Rattle.probe.specs.Met.{is_there}
use Rattle.probe.proofs.met.met_here.Given as goal

abbrev pub invariant-loop-index : goal.invariant-loop-index
invariant-loop-index l =
    (k : ℕ) (d : Watched) → k < l.index
    → is_there (slice_index_or l.watches k d).stop (slice_index_or l.watches k d).copied l.accesses l.board.plain ≡ false
