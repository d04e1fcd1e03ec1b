-- The keys from there on come at the clock or later.
use Rattle.std.proofs.Common.{ℕ, ◌<◌, ◌≤◌, length, get_or}
use Rattle.board_types.specs.declared.keys.StampedKey.{StampedKey}
use Rattle.board.proofs.arrivals.count_before.Given as goal

abbrev pub invariant-loop-before : goal.invariant-loop-before
invariant-loop-before l = (l.before ≤ l.count) × ((j : ℕ) (d : StampedKey) → l.before ≤ j → j < length l.keys → l.clock ≤ (get_or l.keys j d).stamp)

abbrev pub decreases-loop-before : goal.decreases-loop-before
decreases-loop-before l = l.before
