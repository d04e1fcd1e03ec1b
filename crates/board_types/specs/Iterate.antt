-- A state that steps: what n steps make of it, what is seen on the way, and what they cost together.
-- To be believed: the headline rests on it.
use Rattle.std.specs.Prelude.{ℕ, ◌+◌, List, [], ◌++◌}
use Rattle.std.proofs.Common.{zero, suc}

-- the state after n steps
unfoldable pub iterate : {S : Type 0} → (S → S) → ℕ → S → S
iterate step zero s = s
iterate step (suc n) s = step (iterate step n s)

-- what is seen at the start of each of n steps, in order
unfoldable pub gathered : {S A : Type 0} → (S → S) → (S → List A) → ℕ → S → List A
gathered step seen zero s = []
gathered step seen (suc n) s = gathered step seen n s ++ seen (iterate step n s)

-- the sum of the costs of n steps, each taken from the state in which the step begins
unfoldable pub total : {S : Type 0} → (S → S) → (S → ℕ) → ℕ → S → ℕ
total step cost zero s = 0
total step cost (suc n) s = total step cost n s + cost (iterate step n s)
