-- At least `count` codes wait.
use Rattle.std.proofs.Common.{◌≤◌, ◌-◌, length}
use Rattle.probe.proofs.seen.waiting_of.Given as goal

abbrev pub invariant-loop-count : goal.invariant-loop-count
invariant-loop-count l = l.count ≤ length l.keyboard.waiting

abbrev pub decreases-loop-count : goal.decreases-loop-count
decreases-loop-count l = length l.keyboard.waiting - l.count
