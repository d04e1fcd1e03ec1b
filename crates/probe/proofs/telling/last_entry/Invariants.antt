-- No entry stands further on.
use Rattle.std.proofs.Common.{◌≤◌, length}
use Rattle.probe.proofs.telling.last_entry.Given as goal

abbrev pub invariant-loop-count : goal.invariant-loop-count
invariant-loop-count l = length l.board.trail ≤ l.count

abbrev pub decreases-loop-count : goal.decreases-loop-count
decreases-loop-count l = l.count
