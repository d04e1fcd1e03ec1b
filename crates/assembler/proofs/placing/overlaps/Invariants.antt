use Rattle.std.proofs.Common.{◌≡◌, ◌<◌, ℕ, false}
use Rattle.assembler.specs.Placement.{address_after}
use Rattle.assembler.specs.SecondPass.{has_byte}
use Rattle.assembler.proofs.placing.overlaps.Given as goal

abbrev pub invariant-loop-n : goal.invariant-loop-n
invariant-loop-n l = (j : ℕ) → j < l.n → has_byte l.image (address_after l.location j) ≡ false
