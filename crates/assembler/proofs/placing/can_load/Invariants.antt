use Rattle.std.proofs.Common.{◌≡◌, ◌<◌, ℕ, true}
use Rattle.assembler.specs.Placement.{address_after, is_loadable}
use Rattle.assembler.proofs.placing.can_load.Given as goal

abbrev pub invariant-loop-n : goal.invariant-loop-n
invariant-loop-n l = (j : ℕ) → j < l.n → is_loadable (address_after l.location j) ≡ true
