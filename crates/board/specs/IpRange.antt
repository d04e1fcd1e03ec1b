-- Where IP has to be for a stop to hold.
-- For proofs alone: no public contract rests on it.
use Rattle.std.specs.Prelude.{ℕ, ◌≡◌, ◌+◌, ◌<◌, ◌≤◌, ◌^◌, ◌⊎◌, List, None, length, slice_index_or}
use Rattle.board_plain.specs.declared.stop.Condition.{Condition}
use Rattle.board_plain.specs.declared.stop.Condition.TheVariants.{Free, At}
use Rattle.board_plain.specs.Plain.{Plain}
use Rattle.board_plain.specs.Stops.{holding}
use Rattle.board.specs.declared.stop.IpRange.{IpRange}

-- a condition that waits for an address within a reach
abbrev pub IsWithin : IpRange → Condition → Type 0
IsWithin ip_range (At cs ip) = (ip_range.lowest ≤ ip) × (ip ≤ ip_range.highest)
IsWithin ip_range _ = ⊥

-- the reach has every IP, or each stop is an address within it
abbrev pub AllWithin : IpRange → List Condition → Type 0
AllWithin ip_range stops =
    ((ip_range.lowest ≡ 0) × (2 ^ 16 ≤ ip_range.highest + 1))
    ⊎ ((k : ℕ) → k < length stops → IsWithin ip_range (slice_index_or stops k Free))

-- an IP at which no stop within the reach is
abbrev pub is_unwatched : IpRange → ℕ → Type 0
is_unwatched ip_range ip = (ip < 2 ^ 16) × (ip_range.lowest ≤ ip → ip_range.highest < ip)

-- no stop holds at an IP that may be passed
abbrev pub StopsNowhere : (ℕ → Type 0) → List Condition → Type 0
StopsNowhere unwatched stops = (p : Plain) → unwatched p.cpu.registers.ip → holding stops p ≡ None

-- a run without stops may pass all
abbrev pub all_unwatched : ℕ → Type 0
all_unwatched ip = Unit {0}
