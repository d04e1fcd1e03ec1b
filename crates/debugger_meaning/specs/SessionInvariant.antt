-- What a session keeps besides what it shows.
-- For proofs alone: no public contract rests on it.
use Rattle.std.specs.Prelude.{ℕ, ◌≡◌, ◌+◌, ◌⊎◌, List, All, Contains, None, Some}
use Rattle.board_plain.specs.declared.stop.Condition.{Condition}
use Rattle.board_plain.specs.Board.{BoardState}
use Rattle.board_plain.specs.Lasts.{NoneHeld}
use Rattle.board_plain.specs.Stops.{HasAddress}
use Rattle.board_plain.specs.Plain.{clock_of}
use Rattle.debugger_meaning.specs.declared.fault.DebugFault.{DebugFault}
use Rattle.debugger_meaning.specs.declared.fault.DebugFault.TheVariants.{BadScan, StampsFall, ClockLimit, BadCommand}
use Rattle.debugger_meaning.specs.declared.fault.DebugFault.TheVariants.{TooManyStops, Memory, BeforeStart, NoCell}
use Rattle.debugger_meaning.specs.Stands.{SessionState, shown_of, StandsAfter, StandsAt, gone}

-- each board that is kept afterwards was kept before, or is a copy of this one
abbrev pub AreKept : List BoardState → BoardState → List BoardState → Type 0
AreKept old board new = All (λ kept. Contains old kept ⊎ (shown_of kept ≡ shown_of board)) new

-- what holds of the parts of each session
pub record IsSession (first board : BoardState) (kept : List BoardState) (stops : List Condition) : Type 0 where
  pub addresses : All HasAddress stops
  pub stands : StandsAfter (shown_of first) board
  pub copies : All (StandsAfter (shown_of first)) kept

-- a session at another clock of the same first board
pub record StandsNow (clock : ℕ) (old new : SessionState) : Type 0 where
  pub passed : ℕ
  pub clock_is : clock ≡ clock_of old.first.plain + passed
  pub stands : StandsAt passed old.first new.board
  pub first : new.first ≡ old.first
  pub stops : new.stops ≡ old.stops

-- there is no memory for a copy of a board, or for what it lists
abbrev pub LacksMemory : DebugFault → Type 0
LacksMemory fault = fault ≡ Memory None

-- no clock is found, or there is no memory to look for it
abbrev pub FindsNone : List Condition → SessionState → DebugFault → Type 0
FindsNone stops s ClockLimit = ⊥
FindsNone stops s BadScan = ⊥
FindsNone stops s StampsFall = ⊥
FindsNone stops s BadCommand = ⊥
FindsNone stops s TooManyStops = ⊥
FindsNone stops s (Memory None) = Unit {0}
FindsNone stops s (Memory (Some clock)) = ⊥
FindsNone stops s BeforeStart = NoneHeld stops (gone s) s.first.plain
FindsNone stops s NoCell = ⊥
