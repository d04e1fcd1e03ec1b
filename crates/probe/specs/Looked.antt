-- How far a search for a clock at which a stop is met has come.
-- For proofs alone: no public contract rests on it.
use Rattle.std.proofs.Common.{zero, suc}
use Rattle.std.specs.Prelude.{ℕ, ◌≡◌, ◌≢◌, ◌+◌, ◌-◌, ◌<◌, ◌≤◌, Bool, if◌then◌else◌}
use Rattle.std.specs.Prelude.{List, Option, None, Some}
use Rattle.board_plain.specs.Board.{BoardState, Ran}
use Rattle.board_plain.specs.Plain.{Plain, after_clock, clock_of, speaker_level}
use Rattle.debugger_meaning.specs.declared.answer.Answer.{Answer}
use Rattle.debugger_meaning.specs.declared.answer.Answer.TheVariants as answers
use Rattle.debugger_meaning.specs.declared.fault.DebugFault.{DebugFault}
use Rattle.debugger_meaning.specs.declared.fault.DebugFault.TheVariants.{BadScan, StampsFall, ClockLimit, BadCommand}
use Rattle.debugger_meaning.specs.declared.fault.DebugFault.TheVariants.{TooManyStops, Memory, BeforeStart, NoCell}
use Rattle.events.specs.declared.access.Access.{Access}
use Rattle.events.specs.Accesses.{accesses_next}
use Rattle.probe.specs.declared.seen.Turn.{Turn}
use Rattle.probe_texts.specs.declared.stops.Stop.{Stop}
use Rattle.probe.specs.declared.watched.Watched.{Watched}
use Rattle.probe.specs.Making.{FewTurns}
use Rattle.probe.specs.Met.{met}
use Rattle.probe.specs.ProbeStops.{meeting_at, NoneMet, NoneMetFrom, standing}
use Rattle.probe.specs.Seen.{IsMade, asked_in}
use Rattle.probe.specs.Watched.{StaysCopied}

-- the end of a turn of one clock is looked at
pub record LooksOn (turn : Turn) (accesses : List Access) (board : BoardState) (old new : List Watched)
    (number : Option ℕ) : Type 0 where
  pub number_is : (before : BoardState) → (made : IsMade turn before board) → accesses ≡ accesses_next before.plain
      → number ≡ met old (asked_in turn.asked before.plain made.one.passed) accesses board.plain
  pub copied : StaysCopied accesses board.plain old new

-- how a run has ended after `passed` clocks: at the clock `end`, or at a stop
abbrev pub HasEnded : List Stop → ℕ → ℕ → Plain → Option ℕ → Type 0
HasEnded stops end passed s None = (end ≡ clock_of s + passed) × NoneMet stops passed s
HasEnded stops end passed s (Some number) =
    (1 ≤ passed) × NoneMet stops (passed - 1) s × (meeting_at stops s passed ≡ Some number)

-- a run to the clock `end`, or to a stop
pub record RanToStop (stops : List Stop) (end : ℕ) (old new : BoardState) (number : Option ℕ) : Type 0 where
  pub passed : ℕ
  pub ran : Ran passed old new
  pub turns : FewTurns passed old new
  pub within : clock_of new.plain ≤ end
  pub ended : HasEnded stops end passed old.plain number

-- a run that finds no memory for the speaker's next change
pub record RanShort (stops : List Stop) (end : ℕ) (old new : BoardState) : Type 0 where
  pub passed : ℕ
  pub ran : Ran passed old new
  pub turns : FewTurns passed old new
  pub before_end : clock_of new.plain < end
  pub changes_next : speaker_level (after_clock new.plain) ≢ speaker_level new.plain
  pub full : new.room ≡ 0
  pub none : NoneMet stops passed old.plain

-- the stop that is met n clocks after a board; at its own clock only if it is a session's first
abbrev pub met_after : Bool → List Stop → Plain → ℕ → Option ℕ
met_after is_first stops s zero = if is_first then standing stops s else None
met_after is_first stops s (suc n) = meeting_at stops s (suc n)

abbrev pub NoneAfter : Bool → List Stop → Plain → ℕ → ℕ → Type 0
NoneAfter is_first stops s from to = (j : ℕ) → from ≤ j → j ≤ to → met_after is_first stops s j ≡ None

-- the last of the n clocks after a board at which a stop is met
pub record FoundLast (stops : List Stop) (is_first : Bool) (n : ℕ) (s : Plain) (clock number : ℕ) : Type 0 where
  pub passed : ℕ
  pub within : passed ≤ n
  pub there : met_after is_first stops s passed ≡ Some number
  pub none_later : NoneAfter is_first stops s (passed + 1) n
  pub clock_is : clock ≡ clock_of s + passed

abbrev pub IsFoundIn : List Stop → Bool → ℕ → Plain → Option (ℕ × ℕ) → Type 0
IsFoundIn stops is_first n s None = NoneAfter is_first stops s 0 n
IsFoundIn stops is_first n s (Some found) = FoundLast stops is_first n s found.0 found.1

-- no clock is found, or there is no memory to look for it
abbrev pub FindsNoStop : List Stop → ℕ → Plain → DebugFault → Type 0
FindsNoStop stops n first ClockLimit = ⊥
FindsNoStop stops n first BadScan = ⊥
FindsNoStop stops n first StampsFall = ⊥
FindsNoStop stops n first BadCommand = ⊥
FindsNoStop stops n first TooManyStops = ⊥
FindsNoStop stops n first (Memory None) = Unit {0}
FindsNoStop stops n first (Memory (Some clock)) = ⊥
FindsNoStop stops n first BeforeStart = NoneMetFrom stops n first
FindsNoStop stops n first NoCell = ⊥

-- the first clock for which a stretch from a board can tell what was met
abbrev pub from_of : Bool → ℕ → ℕ
from_of is_first clock = if is_first then clock else clock + 1

-- the answer at the end of a run
abbrev pub answer_at : Option ℕ → ℕ → Answer
answer_at None clock = answers.Clock clock
answer_at (Some number) clock = answers.StopAt number clock
