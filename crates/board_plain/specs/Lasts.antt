-- The last clock at which a condition held: where a search that goes back ends.
-- To be believed: the headline rests on it.
use Rattle.std.specs.Prelude.{ℕ, ◌≡◌, ◌+◌, ◌<◌, List, Option, None, Some}
use Rattle.board_plain.specs.declared.stop.Condition.{Condition}
use Rattle.board_plain.specs.Plain.{Plain, after_clocks, clock_of}
use Rattle.board_plain.specs.Stops.{holding}

-- no condition holds at any of the first n clocks, of which the start is the first
abbrev pub NoneHeld : List Condition → ℕ → Plain → Type 0
NoneHeld stops n s = (j : ℕ) → j < n → holding stops (after_clocks s j) ≡ None

-- the last of the first n clocks at which a condition holds, with the least number of one that does
pub record HeldLast (stops : List Condition) (n : ℕ) (s : Plain) (clock number : ℕ) : Type 0 where
  pub passed : ℕ
  pub within : passed < n
  pub holds_there : holding stops (after_clocks s passed) ≡ Some number
  pub none_later : (j : ℕ) → passed < j → j < n → holding stops (after_clocks s j) ≡ None
  pub clock_is : clock ≡ clock_of s + passed

-- what a search through the first n clocks finds
abbrev pub IsLastOf : List Condition → ℕ → Plain → Option (ℕ × ℕ) → Type 0
IsLastOf stops n s None = NoneHeld stops n s
IsLastOf stops n s (Some found) = HeldLast stops n s found.0 found.1
