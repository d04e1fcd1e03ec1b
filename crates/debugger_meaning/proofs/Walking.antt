-- A session stands some clocks after the board with which it began, whatever commands it gets.
use Rattle.std.proofs.Common.{◌≡◌, ℕ, List, [], ◌∷◌, Option, None, Some, Ok, Err, refl, sym, subst, ◌∙◌}
use Rattle.std.specs.Prelude.{Result}
use Rattle.board_plain.specs.declared.stop.Condition.{Condition}
use Rattle.board_plain.specs.declared.stop.Condition.TheVariants as conditions
use Rattle.board_plain.specs.declared.stop.Stop.{Stop as StopType}
use Rattle.board_plain.specs.Stops.{run_length}
use Rattle.debugger_meaning.specs.Back.{GoesBackTo, RefusesBack, RefusesBackTo, tell_clock}
use Rattle.debugger_meaning.specs.declared.answer.Answer.{Answer}
use Rattle.debugger_meaning.specs.declared.answer.Answer.TheVariants.{StopAt}
use Rattle.debugger_meaning.specs.declared.command.Command.{Command}
use Rattle.debugger_meaning.specs.declared.command.Command.TheVariants as commands
use Rattle.debugger_meaning.specs.declared.fault.DebugFault.{DebugFault}
use Rattle.debugger_meaning.specs.declared.fault.DebugFault.TheVariants.{BadScan, StampsFall, ClockLimit, BadCommand, TooManyStops, Memory, BeforeStart, NoCell}
use Rattle.debugger_meaning.specs.DebuggerLaws.{SessionsStand, Walk}
use Rattle.debugger_meaning.specs.Session.{Answers, AnswersStop, RefusesStep, Runs}
use Rattle.debugger_meaning.specs.Stands.{SessionState, Shown, StandsAfter, session_about, shown_of}
use Rattle.debugger_meaning.proofs.Standing.{stands_early, stands_later, stands_none, stands_refused}

abbrev pub StandsFrom : Shown → SessionState → Type 0
StandsFrom first s = (s.first ≡ first) × StandsAfter first s.board

-- a session stands some clocks after its own first board
own : (first : Shown) (s : SessionState) → StandsFrom first s → StandsAfter s.first s.board
own first s at = subst (λ (f : Shown). StandsAfter f s.board) (sym at.0) at.1

pub same_state : (first : Shown) (old new : SessionState) → StandsFrom first old → new ≡ old → StandsFrom first new
same_state first old new at is = subst (StandsFrom first) (sym is) at

pub same_first : (first : Shown) (old new : SessionState) → StandsFrom first old
    → new.first ≡ old.first → StandsAfter old.first new.board → StandsFrom first new
same_first first old new at is stands = (is ∙ at.0, subst (λ (f : Shown). StandsAfter f new.board) at.0 stands)

of_stop : (first : Shown) (condition : Condition) (old new : SessionState) (result : Result Answer DebugFault)
    → StandsFrom first old → AnswersStop condition old result new → StandsFrom first new
of_stop first condition old new (Ok answer) at is = same_first first old new at is.first (subst (StandsAfter old.first) (sym is.board) (own first old at))
of_stop first condition old new (Err fault) at is = same_state first old new at is.kept

of_run : (first : Shown) (sought : List Condition) (n : ℕ) (old new : SessionState) (stopped : Option StopType)
    → StandsFrom first old → Runs sought n old.board new.board stopped → new.first ≡ old.first → StandsFrom first new
of_run first sought n old new stopped at runs is =
    same_first first old new at is (stands_later old.first (run_length n old.board.plain stopped) old.board new.board (own first old at) runs.ran)

of_go : (first : Shown) (n : ℕ) (old new : SessionState) (result : Result Answer DebugFault)
    → StandsFrom first old → Answers (commands.Go n) old result new → StandsFrom first new
of_go first n old new (Ok answer) at is = of_run first old.stops n old new is.stopped at is.runs is.first
of_go first n old new (Err fault) at is =
    same_first first old new at is.2 (stands_refused old.first old.stops n old.board new.board fault (own first old at) is.0)

of_no_step : (first : Shown) (old new : SessionState) (fault : DebugFault) → StandsFrom first old → RefusesStep old new fault → StandsFrom first new
of_no_step first old new ClockLimit at is = same_state first old new at is.1
of_no_step first old new BadScan at is = absurd is
of_no_step first old new StampsFall at is = absurd is
of_no_step first old new BadCommand at is = absurd is
of_no_step first old new TooManyStops at is = absurd is
of_no_step first old new (Memory None) at is = absurd is
of_no_step first old new (Memory (Some clock)) at is =
    same_first first old new at is.2 (stands_early old.first _ old.board new.board (own first old at) is.0.early)
of_no_step first old new BeforeStart at is = absurd is
of_no_step first old new NoCell at is = absurd is

of_step : (first : Shown) (old new : SessionState) (result : Result Answer DebugFault)
    → StandsFrom first old → Answers commands.Step old result new → StandsFrom first new
of_step first old new (Ok answer) at is = of_run first (conditions.Free ∷ []) _ old new is.stopped at is.runs is.first
of_step first old new (Err fault) at is = of_no_step first old new fault at is

of_no_back : (first : Shown) (n : ℕ) (old new : SessionState) (fault : DebugFault) → StandsFrom first old → RefusesBack n old new fault → StandsFrom first new
of_no_back first n old new ClockLimit at is = absurd is
of_no_back first n old new BadScan at is = absurd is
of_no_back first n old new StampsFall at is = absurd is
of_no_back first n old new BadCommand at is = absurd is
of_no_back first n old new TooManyStops at is = absurd is
of_no_back first n old new (Memory None) at is = same_state first old new at is.1
of_no_back first n old new (Memory (Some clock)) at is = absurd is
of_no_back first n old new BeforeStart at is = same_state first old new at is.1
of_no_back first n old new NoCell at is = absurd is

of_back : (first : Shown) (n : ℕ) (old new : SessionState) (result : Result Answer DebugFault)
    → StandsFrom first old → Answers (commands.Back n) old result new → StandsFrom first new
of_back first n old new (Ok answer) at is = same_first first old new at is.first (_, is.stands)
of_back first n old new (Err fault) at is = of_no_back first n old new fault at is

of_no_back_to : (first : Shown) (sought : List Condition) (old new : SessionState) (fault : DebugFault)
    → StandsFrom first old → RefusesBackTo sought old new fault → StandsFrom first new
of_no_back_to first sought old new ClockLimit at is = absurd is
of_no_back_to first sought old new BadScan at is = absurd is
of_no_back_to first sought old new StampsFall at is = absurd is
of_no_back_to first sought old new BadCommand at is = absurd is
of_no_back_to first sought old new TooManyStops at is = absurd is
of_no_back_to first sought old new (Memory None) at is = same_state first old new at is.1
of_no_back_to first sought old new (Memory (Some clock)) at is = absurd is
of_no_back_to first sought old new BeforeStart at is = same_state first old new at is.1
of_no_back_to first sought old new NoCell at is = absurd is

of_back_to : (first : Shown) (sought : List Condition) (tell : ℕ → ℕ → Answer) (old new : SessionState) (answer : Answer)
    → StandsFrom first old → GoesBackTo sought tell old new answer → StandsFrom first new
of_back_to first sought tell old new answer at is = same_first first old new at is.first (is.last.passed, is.stands)

of_back_step : (first : Shown) (old new : SessionState) (result : Result Answer DebugFault)
    → StandsFrom first old → Answers commands.BackStep old result new → StandsFrom first new
of_back_step first old new (Ok answer) at is = of_back_to first (conditions.Free ∷ []) tell_clock old new answer at is
of_back_step first old new (Err fault) at is = of_no_back_to first (conditions.Free ∷ []) old new fault at is

of_back_stop : (first : Shown) (old new : SessionState) (result : Result Answer DebugFault)
    → StandsFrom first old → Answers commands.BackStop old result new → StandsFrom first new
of_back_stop first old new (Ok answer) at is = of_back_to first old.stops StopAt old new answer at is
of_back_stop first old new (Err fault) at is = of_no_back_to first old.stops old new fault at is

pub still_stands : (first : Shown) (command : Command) (old new : SessionState) (result : Result Answer DebugFault)
    → StandsFrom first old → Answers command old result new → StandsFrom first new
still_stands first (commands.Break cs ip) old new result at is = of_stop first (conditions.At cs ip) old new result at is
still_stands first (commands.Byte address byte) old new result at is = of_stop first (conditions.Byte address byte) old new result at is
still_stands first commands.Sound old new result at is = of_stop first conditions.Sound old new result at is
still_stands first commands.Halted old new result at is = of_stop first conditions.Halted old new result at is
still_stands first (commands.Go n) old new result at is = of_go first n old new result at is
still_stands first commands.Step old new result at is = of_step first old new result at is
still_stands first commands.Regs old new result at is = same_state first old new at is.1
still_stands first commands.Screen old new result at is = same_state first old new at is.1
still_stands first (commands.Dump place count) old new result at is = same_state first old new at is.1
still_stands first commands.Trail old new result at is = same_state first old new at is.1
still_stands first (commands.Back n) old new result at is = of_back first n old new result at is
still_stands first commands.BackStep old new result at is = of_back_step first old new result at is
still_stands first commands.BackStop old new result at is = of_back_stop first old new result at is

stands_through : (first : Shown) (commands : List Command) (old new : SessionState) → StandsFrom first old → Walk commands old new → StandsFrom first new
stands_through first [] old new at walk = same_state first old new at walk
stands_through first (command ∷ rest) old new at walk =
    stands_through first rest walk.next new (still_stands first command old walk.next walk.result at walk.answers) walk.following

pub sessions_stand : SessionsStand
sessions_stand commands board new few walk =
    (stands_through (shown_of board) commands (session_about board) new (refl, stands_none (shown_of board) board refl few) walk).1
