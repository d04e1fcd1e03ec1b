-- What a probe is, and how it answers a line.
-- To be believed by callers of this crate: the headline does not rest on it.
use Rattle.std.specs.Prelude.{ℕ, ◌≡◌, ◌+◌, ◌-◌, ◌<◌, ◌≤◌, ◌^◌, false, IsTrue, List, [], ◌∷◌}
use Rattle.std.specs.Prelude.{◌++◌, length, Option, None, Some, Result, Err, MatchResult}
use Rattle.std.specs.List.{list_all}
use Rattle.board_plain.specs.declared.stop.Condition.{Condition}
use Rattle.board_plain.specs.declared.stop.Stop.{Stop as End}
use Rattle.board_plain.specs.Board.{BoardState, Ran, StoppedEarly}
use Rattle.board_plain.specs.Plain.{clock_of}
use Rattle.board_plain.specs.Stops.{run_length}
use Rattle.debugger_meaning.specs.declared.answer.Answer.{Answer}
use Rattle.debugger_meaning.specs.declared.answer.Answer.TheVariants as answers
use Rattle.debugger_meaning.specs.declared.fault.DebugFault.{DebugFault}
use Rattle.debugger_meaning.specs.declared.fault.DebugFault.TheVariants.{BadScan, StampsFall, ClockLimit, BadCommand}
use Rattle.debugger_meaning.specs.declared.fault.DebugFault.TheVariants.{TooManyStops, Memory, BeforeStart, NoCell}
use Rattle.debugger_meaning.specs.Session.{Answers, told_of}
use Rattle.debugger_meaning.specs.Stands.{SessionState, Shown, shown_of, StandsAt}
use Rattle.probe_texts.specs.declared.stops.Request.{Request}
use Rattle.probe_texts.specs.declared.stops.Request.TheVariants.{Add, Go, BackStop, Try, Inquire, Do}
use Rattle.probe_texts.specs.declared.stops.Stop.{Stop}
use Rattle.probe_texts.specs.declared.stops.Stop.TheVariants.{Standing, When, Changes}
use Rattle.probe.specs.Moments.{AnswersTrial}
use Rattle.probe_texts.specs.Requests.{asks_changes, is_standing, request_of}
use Rattle.probe.specs.InquirySession.{AnswersInquiry}
use Rattle.probe.specs.Making.{FewTurns}
use Rattle.probe.specs.ProbeStops.{IsEndOf, MetLast, NoneMet, NoneMetFrom}

-- a probe: what its first board showed, the board as it stands now, and the stops
pub record ProbeState : Type 0 where
  pub first : Shown
  pub board : BoardState
  pub stops : List Stop

-- a probe that begins
abbrev pub probe_about : BoardState → ProbeState
probe_about board = record { first = shown_of board; board = board; stops = [] }

-- the conditions of those stops that are one
abbrev pub conditions_of : List Stop → List Condition
conditions_of [] = []
conditions_of (Standing condition ∷ stops) = condition ∷ conditions_of stops
conditions_of (When kinds ∷ stops) = conditions_of stops
conditions_of (Changes address count ∷ stops) = conditions_of stops

-- the debugger's session, with only those stops that are conditions
abbrev pub session_of : ProbeState → SessionState
session_of s = record { first = s.first; board = s.board; stops = conditions_of s.stops }

-- the clocks since a probe began
abbrev pub gone_by : ProbeState → ℕ
gone_by s = clock_of s.board.plain - clock_of s.first.plain

-- a stop is added, and its number answered; the board stays
pub record AddsStop (stop : Stop) (old new : ProbeState) (answer : Answer) : Type 0 where
  pub room : length old.stops < 16
  pub stops : new.stops ≡ old.stops ++ stop ∷ []
  pub board : new.board ≡ old.board
  pub first : new.first ≡ old.first
  pub answer_is : answer ≡ answers.Stop (length old.stops + 1)

-- a stop is refused: there are sixteen, or there is no memory for a copy of its bytes; nothing changes
abbrev pub RefusesStop : Stop → ProbeState → ProbeState → DebugFault → Type 0
RefusesStop stop old new ClockLimit = ⊥
RefusesStop stop old new BadScan = ⊥
RefusesStop stop old new StampsFall = ⊥
RefusesStop stop old new BadCommand = ⊥
RefusesStop stop old new TooManyStops = (length old.stops ≡ 16) × (new ≡ old)
RefusesStop stop old new (Memory None) = (length old.stops < 16) × IsTrue (asks_changes stop) × (new ≡ old)
RefusesStop stop old new (Memory (Some clock)) = ⊥
RefusesStop stop old new BeforeStart = ⊥
RefusesStop stop old new NoCell = ⊥

-- a run that waits for more than conditions makes few turns; the session's own search finds conditions
abbrev pub HasFewTurns : ℕ → ProbeState → ProbeState → Type 0
HasFewTurns n old new = list_all is_standing old.stops ≡ false → FewTurns n old.board new.board

-- a run of at most n clocks, up to the first one after the start at which a stop is met
pub record GoesOn (n : ℕ) (old new : ProbeState) (answer : Answer) : Type 0 where
  pub stopped : Option End
  pub within : clock_of old.board.plain + n ≤ 2 ^ 40
  pub ends : IsEndOf old.stops n old.board.plain stopped
  pub ran : Ran (run_length n old.board.plain stopped) old.board new.board
  pub turns : HasFewTurns (run_length n old.board.plain stopped) old new
  pub stops : new.stops ≡ old.stops
  pub first : new.first ≡ old.first
  pub answer_is : answer ≡ told_of stopped (clock_of new.board.plain)

-- A run that found no memory for the speaker's next change stands at the clock before it, which the refusal names; no
-- stop was met at any clock after the start up to that one.
pub record StopsShort (n : ℕ) (old new : ProbeState) (clock : ℕ) : Type 0 where
  pub within : clock_of old.board.plain + n ≤ 2 ^ 40
  pub early : StoppedEarly n old.board new.board
  pub none_passed : NoneMet old.stops (clock_of new.board.plain - clock_of old.board.plain) old.board.plain
  pub turns : HasFewTurns (clock_of new.board.plain - clock_of old.board.plain) old new
  pub stops : new.stops ≡ old.stops
  pub first : new.first ≡ old.first
  pub clock_is : clock ≡ clock_of new.board.plain

-- a run is refused if it would go past clock 2^40, and for want of memory
abbrev pub RefusesGoing : ℕ → ProbeState → ProbeState → DebugFault → Type 0
RefusesGoing n old new ClockLimit = (2 ^ 40 < clock_of old.board.plain + n) × (new ≡ old)
RefusesGoing n old new BadScan = ⊥
RefusesGoing n old new StampsFall = ⊥
RefusesGoing n old new BadCommand = ⊥
RefusesGoing n old new TooManyStops = ⊥
RefusesGoing n old new (Memory None) = ⊥
RefusesGoing n old new (Memory (Some clock)) = StopsShort n old new clock
RefusesGoing n old new BeforeStart = ⊥
RefusesGoing n old new NoCell = ⊥

-- back to the last earlier clock at which a stop was met
pub record GoesBackToStop (old new : ProbeState) (answer : Answer) : Type 0 where
  pub number : ℕ
  pub last : MetLast old.stops (gone_by old) old.first.plain (clock_of new.board.plain) number
  pub stands : StandsAt last.passed old.first new.board
  pub first : new.first ≡ old.first
  pub stops : new.stops ≡ old.stops
  pub answer_is : answer ≡ answers.StopAt number (clock_of new.board.plain)

-- a way back is refused if no stop was met at an earlier clock, and for want of memory; nothing changes
abbrev pub RefusesBackToStop : ProbeState → ProbeState → DebugFault → Type 0
RefusesBackToStop old new ClockLimit = ⊥
RefusesBackToStop old new BadScan = ⊥
RefusesBackToStop old new StampsFall = ⊥
RefusesBackToStop old new BadCommand = ⊥
RefusesBackToStop old new TooManyStops = ⊥
RefusesBackToStop old new (Memory None) = (1 ≤ length old.stops) × (new ≡ old)
RefusesBackToStop old new (Memory (Some clock)) = ⊥
RefusesBackToStop old new BeforeStart = NoneMetFrom old.stops (gone_by old) old.first.plain × (new ≡ old)
RefusesBackToStop old new NoCell = ⊥

-- what asks about the board, and what another command says, is answered as by a session, and leaves the stops
abbrev pub AnswersRequest : Request → ProbeState → Result Answer DebugFault → ProbeState → Type 0
AnswersRequest (Add stop) old result new = MatchResult result (AddsStop stop old new) (RefusesStop stop old new)
AnswersRequest (Go n) old result new = MatchResult result (GoesOn n old new) (RefusesGoing n old new)
AnswersRequest BackStop old result new = MatchResult result (GoesBackToStop old new) (RefusesBackToStop old new)
AnswersRequest (Try trial) old result new = AnswersTrial old.stops old.board.plain trial result × (new ≡ old)
AnswersRequest (Inquire inquiry) old result new =
    AnswersInquiry inquiry (session_of old) result (session_of new) × (new.stops ≡ old.stops)
AnswersRequest (Do command) old result new =
    Answers command (session_of old) result (session_of new) × (new.stops ≡ old.stops)

abbrev pub AnswersRequested : Option Request → ProbeState → Result Answer DebugFault → ProbeState → Type 0
AnswersRequested (Some request) old result new = AnswersRequest request old result new
AnswersRequested None old result new = (result ≡ Err BadCommand) × (new ≡ old)

abbrev pub AnswersStopping : List ℕ → ProbeState → Result Answer DebugFault → ProbeState → Type 0
AnswersStopping line old result new = AnswersRequested (request_of line) old result new
