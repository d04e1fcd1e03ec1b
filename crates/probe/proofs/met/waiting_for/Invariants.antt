-- None of the stops so far waits for the event.
use Rattle.std.proofs.Common.{◌≡◌, ℕ, ◌<◌, false}
use Rattle.std.specs.Prelude.{slice_index_or}
use Rattle.probe.specs.declared.watched.Watched.{Watched}
use Rattle.probe.specs.Met.{waits_for}
use Rattle.probe.proofs.met.waiting_for.Given as goal

abbrev pub invariant-loop-index : goal.invariant-loop-index
invariant-loop-index l = (k : ℕ) (d : Watched) → k < l.index → waits_for l.event (slice_index_or l.watches k d).stop ≡ false
