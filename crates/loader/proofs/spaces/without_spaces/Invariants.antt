use Rattle.std.proofs.Common.{◌≡◌, length}
use Rattle.loader.specs.Lines.{without_spaces}
use Rattle.loader.proofs.spaces.without_spaces.Given as goal

abbrev pub invariant-loop-last : goal.invariant-loop-last
invariant-loop-last l = without_spaces l.rest ≡ without_spaces l.line

abbrev pub decreases-loop-last : goal.decreases-loop-last
decreases-loop-last l = length l.rest
