-- Keys in the order of their clocks, and how many of them have arrived.
-- For proofs alone: no public contract rests on it.
use Rattle.std.specs.Prelude.{ℕ, ◌+◌, ◌<◌, ◌≤◌, ◌⊎◌, List, All, length, take, drop, Option, None, Some}
use Rattle.board_types.specs.declared.keys.StampedKey.{StampedKey}
use Rattle.board.specs.declared.arrivals.Arrived.{Arrived}
use Rattle.board_plain.specs.Plain.{codes_at}

-- the first `next` keys are stamped before a clock, and the others at it or later
pub record Awaits (next clock : ℕ) (keys : List StampedKey) : Type 0 where
  pub within : next ≤ length keys
  pub past : All (λ k. k.stamp < clock) (take next keys)
  pub to_come : All (λ k. clock ≤ k.stamp) (drop next keys)

-- the stamp of the first keys that come after a clock, if any come
abbrev pub IsNextStamp : ℕ → List StampedKey → Option ℕ → Type 0
IsNextStamp clock keys None = All (λ k. k.stamp ≤ clock) keys
IsNextStamp clock keys (Some at) =
    (clock < at) × All (λ k. (k.stamp ≤ clock) ⊎ (at ≤ k.stamp)) keys × (1 ≤ length (codes_at keys at))

-- how many keys have arrived before a clock, and the stamp of the next one
pub record HaveArrived (arrived : Arrived) (clock : ℕ) (keys : List StampedKey) : Type 0 where
  pub awaits : Awaits arrived.count clock keys
  pub next : (before : ℕ) → Awaits arrived.count (before + 1) keys → IsNextStamp before keys arrived.next
