-- Going back: how a session answers, and where it then stands.
-- To be believed: the headline rests on it.
use Rattle.std.specs.Prelude.{ℕ, ◌≡◌, ◌+◌, ◌-◌, ◌<◌, ◌≤◌, List, length, None}
use Rattle.board_plain.specs.declared.stop.Condition.{Condition}
use Rattle.board_plain.specs.Lasts.{HeldLast, NoneHeld}
use Rattle.board_plain.specs.Plain.{clock_of}
use Rattle.debugger_meaning.specs.declared.answer.Answer.{Answer}
use Rattle.debugger_meaning.specs.declared.answer.Answer.TheVariants.{Clock}
use Rattle.debugger_meaning.specs.declared.fault.DebugFault.{DebugFault}
use Rattle.debugger_meaning.specs.declared.fault.DebugFault.TheVariants.{Memory, BeforeStart, NoCell}
use Rattle.debugger_meaning.specs.Stands.{SessionState, StandsAt, gone}

-- back by n clocks, one at least; the stops stay
pub record GoesBack (n : ℕ) (old new : SessionState) (answer : Answer) : Type 0 where
  pub some : 1 ≤ n
  pub within : clock_of old.first.plain + n ≤ clock_of old.board.plain
  pub stands : StandsAt (gone old - n) old.first new.board
  pub first : new.first ≡ old.first
  pub stops : new.stops ≡ old.stops
  pub answer_is : answer ≡ Clock (clock_of old.board.plain - n)

-- back to the last earlier clock at which one of these conditions holds; the answer is made of its number and that
-- clock
pub record GoesBackTo (sought : List Condition) (tell : ℕ → ℕ → Answer)
    (old new : SessionState) (answer : Answer) : Type 0 where
  pub number : ℕ
  pub last : HeldLast sought (gone old) old.first.plain (clock_of new.board.plain) number
  pub stands : StandsAt last.passed old.first new.board
  pub first : new.first ≡ old.first
  pub stops : new.stops ≡ old.stops
  pub answer_is : answer ≡ tell number (clock_of new.board.plain)

-- the answer to a way back to a boundary: its clock alone
abbrev pub tell_clock : ℕ → ℕ → Answer
tell_clock number clock = Clock clock

-- A way back by n clocks is refused if it leads to before the first clock, and for want of memory; then nothing
-- changes.
abbrev pub RefusesBack : ℕ → SessionState → SessionState → DebugFault → Type 0
RefusesBack n old new (Memory None) = (clock_of old.first.plain + n ≤ clock_of old.board.plain) × (new ≡ old)
RefusesBack n old new BeforeStart = (clock_of old.board.plain < clock_of old.first.plain + n) × (new ≡ old)
RefusesBack n old new NoCell = ⊥
RefusesBack n old new _ = ⊥

-- a way back to a condition is refused if none holds at any clock from the first one up to the one before this, and for
-- want of memory; then nothing changes
abbrev pub RefusesBackTo : List Condition → SessionState → SessionState → DebugFault → Type 0
RefusesBackTo stops old new (Memory None) = (1 ≤ length stops) × (new ≡ old)
RefusesBackTo stops old new BeforeStart = NoneHeld stops (gone old) old.first.plain × (new ≡ old)
RefusesBackTo stops old new NoCell = ⊥
RefusesBackTo stops old new _ = ⊥
