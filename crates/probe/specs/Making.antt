-- Runs of some clocks, whatever the stops are, of which a text is shown.
-- To be believed by callers of this crate: the headline does not rest on it.
use Rattle.std.specs.Prelude.{ℕ, ◌≡◌, ◌+◌, ◌*◌, ◌<◌, ◌≤◌, ◌^◌, List, None, Some, Result, MatchResult}
use Rattle.board_plain.specs.Board.{BoardState, Ran}
use Rattle.board_plain.specs.Plain.{clock_of}
use Rattle.board_plain.specs.Work.{work_in}
use Rattle.debugger_meaning.specs.declared.answer.Answer.{Answer}
use Rattle.debugger_meaning.specs.declared.fault.DebugFault.{DebugFault}
use Rattle.debugger_meaning.specs.declared.fault.DebugFault.TheVariants.{BadScan, StampsFall, ClockLimit, BadCommand}
use Rattle.debugger_meaning.specs.declared.fault.DebugFault.TheVariants.{TooManyStops, Memory, BeforeStart, NoCell}
use Rattle.debugger_meaning.specs.Session.{IsText}
use Rattle.debugger_meaning.specs.Stands.{SessionState, shown_of, StandsAt}

-- in n clocks a board makes no more turns than its work asks for: three times that, and three more
abbrev pub FewTurns : ℕ → BoardState → BoardState → Type 0
FewTurns n old new = new.turns ≤ old.turns + 3 * work_in old.plain n + 3

-- n clocks pass, and the text is shown; the stops stay
pub record Makes (n : ℕ) (text : List ℕ) (old new : SessionState) (answer : Answer) : Type 0 where
  pub within : clock_of old.board.plain + n ≤ 2 ^ 40
  pub ran : Ran n old.board new.board
  pub turns : FewTurns n old.board new.board
  pub stops : new.stops ≡ old.stops
  pub first : new.first ≡ old.first
  pub shows : IsText text answer

-- There is no memory, and the run would end by the last clock: the board stands at some clock of the run, which the
-- refusal names.
pub record StandsShort (n : ℕ) (old new : SessionState) (clock : ℕ) : Type 0 where
  pub within_all : clock_of old.board.plain + n ≤ 2 ^ 40
  pub passed : ℕ
  pub within : passed ≤ n
  pub stands : StandsAt passed (shown_of old.board) new.board
  pub turns : FewTurns passed old.board new.board
  pub stops : new.stops ≡ old.stops
  pub first : new.first ≡ old.first
  pub clock_is : clock ≡ clock_of new.board.plain

-- refused past the last clock, and for want of memory
abbrev pub RefusesMaking : ℕ → SessionState → SessionState → DebugFault → Type 0
RefusesMaking n old new ClockLimit = (2 ^ 40 < clock_of old.board.plain + n) × (new ≡ old)
RefusesMaking n old new BadScan = ⊥
RefusesMaking n old new StampsFall = ⊥
RefusesMaking n old new BadCommand = ⊥
RefusesMaking n old new TooManyStops = ⊥
RefusesMaking n old new (Memory None) = ⊥
RefusesMaking n old new (Memory (Some clock)) = StandsShort n old new clock
RefusesMaking n old new BeforeStart = ⊥
RefusesMaking n old new NoCell = ⊥

abbrev pub AnswersMaking : ℕ → List ℕ → SessionState → Result Answer DebugFault → SessionState → Type 0
AnswersMaking n text old result new = MatchResult result (Makes n text old new) (RefusesMaking n old new)

-- n clocks have passed, up to the clock `end`
pub record HasMade (n : ℕ) (old new : SessionState) (end : ℕ) : Type 0 where
  pub within : clock_of old.board.plain + n ≤ 2 ^ 40
  pub ran : Ran n old.board new.board
  pub turns : FewTurns n old.board new.board
  pub stops : new.stops ≡ old.stops
  pub first : new.first ≡ old.first
  pub end_is : end ≡ clock_of old.board.plain + n
