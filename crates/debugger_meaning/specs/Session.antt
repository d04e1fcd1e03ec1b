-- What a session is, and how it answers commands.
-- To be believed: the headline rests on it.
use Rattle.std.specs.Prelude.{ℕ, ◌≡◌, ◌+◌, ◌-◌, ◌<◌, ◌≤◌, ◌^◌, List, [], ◌∷◌, ◌++◌}
use Rattle.std.specs.Prelude.{length, Option, None, Some, Result, Err, MatchResult}
use Rattle.std.specs.List.{flat_map}
use Rattle.std.specs.String.{string_bytes}
use Rattle.board_plain.specs.Board.{BoardState, Ran, StoppedEarly}
use Rattle.board_plain.specs.Plain.{clock_of, registers_of, screen_of}
use Rattle.board_plain.specs.Stops.{IsStopOf, NoStop, run_length}
use Rattle.board_plain.specs.declared.stop.Condition.{Condition}
use Rattle.board_plain.specs.declared.stop.Condition.TheVariants as conditions
use Rattle.board_plain.specs.declared.stop.Stop.{Stop as StopType}
use Rattle.board_lines.specs.Text.{register_lines}
use Rattle.debugger_meaning.specs.declared.answer.Answer.{Answer}
use Rattle.debugger_meaning.specs.declared.answer.Answer.TheVariants.{Stop, Clock, StopAt, Text}
use Rattle.debugger_meaning.specs.declared.command.Command.{Command}
use Rattle.debugger_meaning.specs.declared.command.Command.TheVariants as commands
use Rattle.debugger_meaning.specs.declared.fault.DebugFault.{DebugFault}
use Rattle.debugger_meaning.specs.declared.fault.DebugFault.TheVariants.{ClockLimit, BadCommand, TooManyStops, Memory}
use Rattle.debugger_meaning.specs.Back.{GoesBack, GoesBackTo, RefusesBack, RefusesBackTo, tell_clock}
use Rattle.debugger_meaning.specs.Dump.{dump_text}
use Rattle.debugger_meaning.specs.Stands.{SessionState}
use Rattle.debugger_meaning.specs.TrailText.{entry_line}

-- A stop is added, and the answer is its number; stops are numbered from 1. The board stays as it is.
pub record Adds (condition : Condition) (old new : SessionState) (answer : Answer) : Type 0 where
  pub room : length old.stops < 16
  pub stops : new.stops ≡ old.stops ++ condition ∷ []
  pub board : new.board ≡ old.board
  pub first : new.first ≡ old.first
  pub answer_is : answer ≡ Stop (length old.stops + 1)

-- a seventeenth stop is refused
pub record IsFull (old new : SessionState) (fault : DebugFault) : Type 0 where
  pub full : length old.stops ≡ 16
  pub kept : new ≡ old
  pub fault_is : fault ≡ TooManyStops

-- a run of at most n clocks, up to the first one after the start at which a condition holds
pub record Runs (stops : List Condition) (n : ℕ) (old new : BoardState) (stopped : Option StopType) : Type 0 where
  pub within : clock_of old.plain + n ≤ 2 ^ 40
  pub stop : IsStopOf stops n old.plain stopped
  pub ran : Ran (run_length n old.plain stopped) old new

-- A run that found no memory for the speaker's next change stands at the clock before it, which the refusal names; no
-- condition held at any clock after the start up to that one.
pub record FindsNoMemory (stops : List Condition) (n : ℕ) (old new : BoardState) (clock : ℕ) : Type 0 where
  pub within : clock_of old.plain + n ≤ 2 ^ 40
  pub early : StoppedEarly n old new
  pub none_passed : NoStop stops (clock_of new.plain - clock_of old.plain) old.plain
  pub clock_is : clock ≡ clock_of new.plain

-- a run is refused if it would go past clock 2^40, and for want of memory
abbrev pub RefusesRun : List Condition → ℕ → BoardState → BoardState → DebugFault → Type 0
RefusesRun stops n old new ClockLimit = (2 ^ 40 < clock_of old.plain + n) × (new ≡ old)
RefusesRun stops n old new (Memory (Some clock)) = FindsNoMemory stops n old new clock
RefusesRun stops n old new _ = ⊥

-- the answer to a run: its stop's number and clock, or the clock that was reached
abbrev pub told_of : Option StopType → ℕ → Answer
told_of None clock = Clock clock
told_of (Some stop) clock = StopAt stop.number stop.clock

-- a run of at most n clocks, to the next stop
pub record Goes (n : ℕ) (old new : SessionState) (answer : Answer) : Type 0 where
  pub stopped : Option StopType
  pub runs : Runs old.stops n old.board new.board stopped
  pub stops : new.stops ≡ old.stops
  pub first : new.first ≡ old.first
  pub answer_is : answer ≡ told_of stopped (clock_of new.board.plain)

abbrev pub RefusesGo : ℕ → SessionState → SessionState → DebugFault → Type 0
RefusesGo n old new fault =
    RefusesRun old.stops n old.board new.board fault × (new.stops ≡ old.stops) × (new.first ≡ old.first)

-- how many clocks are left up to the last one, 2^40
abbrev pub clocks_left : BoardState → ℕ
clocks_left board = 2 ^ 40 - clock_of board.plain

-- a run to the next clock at which the processor is free, or to the last clock
pub record Steps (old new : SessionState) (answer : Answer) : Type 0 where
  pub stopped : Option StopType
  pub before_last : clock_of old.board.plain < 2 ^ 40
  pub runs : Runs (conditions.Free ∷ []) (clocks_left old.board) old.board new.board stopped
  pub stops : new.stops ≡ old.stops
  pub first : new.first ≡ old.first
  pub answer_is : answer ≡ Clock (clock_of new.board.plain)

-- a step is refused at the last clock, and for want of memory
abbrev pub RefusesStep : SessionState → SessionState → DebugFault → Type 0
RefusesStep old new ClockLimit = (clock_of old.board.plain ≡ 2 ^ 40) × (new ≡ old)
RefusesStep old new (Memory (Some clock)) =
    FindsNoMemory (conditions.Free ∷ []) (clocks_left old.board) old.board new.board clock
    × (new.stops ≡ old.stops) × (new.first ≡ old.first)
RefusesStep old new _ = ⊥

abbrev pub IsText : List ℕ → Answer → Type 0
IsText bytes (Text text) = string_bytes text ≡ bytes
IsText bytes _ = ⊥

-- a text is shown, or refused for want of memory
abbrev pub Shows : List ℕ → Result Answer DebugFault → Type 0
Shows bytes result = MatchResult result (IsText bytes) (λ fault. fault ≡ Memory None)

abbrev pub AnswersStop : Condition → SessionState → Result Answer DebugFault → SessionState → Type 0
AnswersStop condition old result new = MatchResult result (Adds condition old new) (IsFull old new)

-- the answer to a command, or its refusal, and what the session is then
abbrev pub Answers : Command → SessionState → Result Answer DebugFault → SessionState → Type 0
Answers (commands.Break cs ip) old result new = AnswersStop (conditions.At cs ip) old result new
Answers (commands.Byte address byte) old result new = AnswersStop (conditions.Byte address byte) old result new
Answers commands.Sound old result new = AnswersStop conditions.Sound old result new
Answers commands.Halted old result new = AnswersStop conditions.Halted old result new
Answers (commands.Go n) old result new = MatchResult result (Goes n old new) (RefusesGo n old new)
Answers commands.Step old result new = MatchResult result (Steps old new) (RefusesStep old new)
Answers commands.Regs old result new = Shows (register_lines (registers_of old.board.plain)) result × (new ≡ old)
Answers commands.Screen old result new = Shows (screen_of old.board.plain) result × (new ≡ old)
Answers (commands.Dump first count) old result new = Shows (dump_text old.board.plain first count) result × (new ≡ old)
Answers commands.Trail old result new = Shows (flat_map entry_line old.board.trail) result × (new ≡ old)
Answers (commands.Back n) old result new = MatchResult result (GoesBack n old new) (RefusesBack n old new)
Answers commands.BackStep old result new =
    MatchResult result (GoesBackTo (conditions.Free ∷ []) tell_clock old new)
    (RefusesBackTo (conditions.Free ∷ []) old new)
Answers commands.BackStop old result new =
    MatchResult result (GoesBackTo old.stops StopAt old new) (RefusesBackTo old.stops old new)

-- the answer to a line, or its refusal, and what the session is then; a line that is no command is refused
abbrev pub AnswersLine : Option Command → SessionState → Result Answer DebugFault → SessionState → Type 0
AnswersLine None old result new = (result ≡ Err BadCommand) × (new ≡ old)
AnswersLine (Some command) old result new = Answers command old result new
