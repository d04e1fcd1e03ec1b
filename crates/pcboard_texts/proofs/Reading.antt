-- What is read, and what is said of it.
use Rattle.std.proofs.Common.{◌≡◌, ℕ, ◌-◌, ◌^◌, ◌<◌, ◌≤◌, List, length, subst, arith, inl, inr}
use Rattle.std.specs.Prelude.{◌⊎◌}
use Rattle.streams.specs.ByteInput.{IsAllWanted}

-- what is read up to a limit that no list in memory reaches is all
pub read_all_of : (Ended : Type 0) (bytes : List ℕ) (size room : ℕ) → IsAllWanted (2 ^ 64 - 1) Ended bytes → size ≡ length bytes
    → size ≤ room → room < 2 ^ 63 → Ended
read_all_of Ended bytes size room (inl ends) counts within small = ends
read_all_of Ended bytes size room (inr long) counts within small = let never : ⊥ = omega (arith, long, counts, within, small) in absurd never
