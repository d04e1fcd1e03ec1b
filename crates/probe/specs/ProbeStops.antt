-- Stops on conditions at a clock, and on what happens in the clock that leads to it.
-- To be believed by callers of this crate: the headline does not rest on it.
use Rattle.std.specs.Prelude.{ℕ, ◌≡◌, ◌+◌, ◌-◌, ◌<◌, ◌≤◌, ◌==◌, Bool, false, not, List, Option, None, Some}
use Rattle.std.proofs.Common.{zero, suc}
use Rattle.std.specs.List.{list_any, position_from, range_with_len}
use Rattle.board_plain.specs.declared.stop.Stop.{Stop as End}
use Rattle.board_plain.specs.Plain.{Plain, after_clocks, byte_of, clock_of}
use Rattle.board_plain.specs.Stops.{holds}
use Rattle.events.specs.Events.{events_next}
use Rattle.probe_texts.specs.declared.kinds.Kind.{Kind}
use Rattle.probe_texts.specs.declared.stops.Stop.{Stop}
use Rattle.probe_texts.specs.declared.stops.Stop.TheVariants.{Standing, When, Changes}
use Rattle.probe_texts.specs.Listed.{is_listed}

-- an event of these kinds happens in the next clock
abbrev pub happens : List Kind → Plain → Bool
happens kinds s = list_any (is_listed kinds) (events_next s)

-- one of `count` bytes from an address on differs
abbrev pub any_differs : ℕ → ℕ → Plain → Plain → Bool
any_differs address count before now =
    list_any (λ k. not (byte_of before (address + k) == byte_of now (address + k))) (range_with_len 0 count)

-- whether a stop is met at a clock, by the clock before and this one
unfoldable pub meets : Stop → Plain → Plain → Bool
meets (Standing condition) before now = holds condition now
meets (When kinds) before now = happens kinds.items before
meets (Changes address count) before now = any_differs address count before now

-- the least number, from 1, of a stop that is met
unfoldable pub meeting : List Stop → Plain → Plain → Option ℕ
meeting stops before now = position_from (λ stop. meets stop before now) 1 stops

-- the least number of a stop that is met at the n-th clock after the start; n is at least 1
abbrev pub meeting_at : List Stop → Plain → ℕ → Option ℕ
meeting_at stops s n = meeting stops (after_clocks s (n - 1)) (after_clocks s n)

-- no stop is met at any of the n clocks after the start
abbrev pub NoneMet : List Stop → ℕ → Plain → Type 0
NoneMet stops n s = (j : ℕ) → 1 ≤ j → j ≤ n → meeting_at stops s j ≡ None

-- the end of a run of n clocks: the first clock after the start at which a stop is met
pub record EndsAt (stops : List Stop) (n : ℕ) (s : Plain) (end : End) : Type 0 where
  pub passed : ℕ
  pub after_start : 1 ≤ passed
  pub within : passed ≤ n
  pub none_before : NoneMet stops (passed - 1) s
  pub met_there : meeting_at stops s passed ≡ Some end.number
  pub clock : end.clock ≡ clock_of s + passed

abbrev pub IsEndOf : List Stop → ℕ → Plain → Option End → Type 0
IsEndOf stops n s None = NoneMet stops n s
IsEndOf stops n s (Some end) = EndsAt stops n s end

-- whether a stop holds as a condition
unfoldable pub stands : Stop → Plain → Bool
stands (Standing condition) s = holds condition s
stands (When kinds) s = false
stands (Changes address count) s = false

-- the least number, from 1, of a stop that holds as a condition
unfoldable pub standing : List Stop → Plain → Option ℕ
standing stops s = position_from (λ stop. stands stop s) 1 stops

-- the stop that is met n clocks after a session's first clock; at that one, which no clock precedes, a condition can
-- hold
abbrev pub met_from : List Stop → Plain → ℕ → Option ℕ
met_from stops first zero = standing stops first
met_from stops first (suc n) = meeting_at stops first (suc n)

-- no stop is met at any of the first n clocks, including the session's first
abbrev pub NoneMetFrom : List Stop → ℕ → Plain → Type 0
NoneMetFrom stops n first = (j : ℕ) → j < n → met_from stops first j ≡ None

-- the last of the first n clocks at which a stop is met
pub record MetLast (stops : List Stop) (n : ℕ) (first : Plain) (clock number : ℕ) : Type 0 where
  pub passed : ℕ
  pub within : passed < n
  pub met_there : met_from stops first passed ≡ Some number
  pub none_later : (j : ℕ) → passed < j → j < n → met_from stops first j ≡ None
  pub clock_is : clock ≡ clock_of first + passed
