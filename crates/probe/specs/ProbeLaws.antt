-- What holds of counts, of stops that are conditions, and of probes.
-- Laws: claims above the definitions, each proved as the contract of a function.
use Rattle.std.specs.Prelude.{ℕ, ◌≡◌, ◌+◌, ◌-◌, ◌≤◌, ◌↔◌, List, [], ◌∷◌, ◌++◌, fold}
use Rattle.std.specs.Prelude.{length, map, Option, None, Some, Result, Ok, sum_by}
use Rattle.board.specs.declared.one_turn.Begun.{Begun}
use Rattle.board.specs.OneTurn.{begun_in}
use Rattle.board_plain.specs.declared.stop.Condition.{Condition}
use Rattle.board_plain.specs.declared.stop.Stop.{Stop as End}
use Rattle.board_plain.specs.Plain.{Plain, after_clocks, clock_of}
use Rattle.board_plain.specs.Stops.{holding, IsStopOf}
use Rattle.board_types.specs.declared.keys.StampedKey.{StampedKey}
use Rattle.board_plain.specs.Board.{BoardState}
use Rattle.debugger_meaning.specs.declared.answer.Answer.{Answer}
use Rattle.debugger_meaning.specs.declared.fault.DebugFault.{DebugFault}
use Rattle.debugger_meaning.specs.Commands.{command_of}
use Rattle.debugger_meaning.specs.Session.{AnswersLine}
use Rattle.debugger_meaning.specs.Stands.{Shown, shown_of, StandsAfter}
use Rattle.events.specs.WithKey.{with_key}
use Rattle.probe_texts.specs.declared.inquiry.Inquiry.TheVariants.{Key}
use Rattle.probe_texts.specs.declared.stops.Request.{Request}
use Rattle.probe_texts.specs.declared.stops.Request.TheVariants.{Inquire}
use Rattle.probe_texts.specs.declared.stops.Stop.TheVariants.{Standing}
use Rattle.probe.specs.Counts.{clocks_from, is_number, next_clock, numbers_of}
use Rattle.probe_texts.specs.Inquiry.{inquiry_of}
use Rattle.probe.specs.Probe.{AnswersStopping, conditions_of, probe_about, ProbeState, session_of}
use Rattle.probe_texts.specs.Requests.{request_of, stop_of, trial_of}
use Rattle.probe.specs.ProbeStops.{IsEndOf, met_from}
use Rattle.probe.specs.Typed.{typed_key}

-- the clocks of all lines
abbrev pub clocks_of_lines : List Begun → ℕ → ℕ
clocks_of_lines begun end = sum_by (λ k. clocks_from (is_number k) begun end) (numbers_of begun)

-- the clocks before the first beginning, those of each CS:IP and those of each type add up to all clocks of the run
abbrev pub CountsAddUp : Type 0
CountsAddUp =
    (s : Plain) (n : ℕ)
    → (next_clock (begun_in s n) (clock_of s + n) - clock_of s)
    + clocks_of_lines (begun_in s n) (clock_of s + n)
    ≡ n

-- stops that are conditions are the board's: a run ends as its search says, and so does a way back
abbrev pub StandingEndsAlike : Type 0
StandingEndsAlike =
    (conditions : List Condition) (n : ℕ) (s : Plain) (end : Option End)
    → IsEndOf (map Standing conditions) n s end ↔ IsStopOf conditions n s end

abbrev pub StandingMetAlike : Type 0
StandingMetAlike =
    (conditions : List Condition) (n : ℕ) (s : Plain)
    → met_from (map Standing conditions) s n ≡ holding conditions (after_clocks s n)

-- a probe's stops are all conditions
abbrev pub OnlyStand : ProbeState → Type 0
OnlyStand s = s.stops ≡ map Standing (conditions_of s.stops)

-- a probe whose stops are all conditions answers lines without new commands as the debugger does, and its stops stay
-- conditions
abbrev pub AnswersAsDebugger : Type 0
AnswersAsDebugger =
    (line : List ℕ) (old new : ProbeState) (result : Result Answer DebugFault)
    → OnlyStand old → trial_of line ≡ None → stop_of line ≡ None → inquiry_of line ≡ None
    → AnswersStopping line old result new
    → AnswersLine (command_of line) (session_of old) result (session_of new) × OnlyStand new

-- the key that a line types, if it is taken
abbrev pub key_typed : Option Request → ℕ → Result Answer DebugFault → List StampedKey
key_typed (Some (Inquire (Key code at))) clock (Ok answer) = typed_key clock code at ∷ []
key_typed request clock result = []

-- a probe answers a line, and goes on
pub record AnsweredThen (line : List ℕ) (After : List StampedKey → ProbeState → Type 0)
    (keys : List StampedKey) (old : ProbeState) :
    Type 0 where
  pub result : Result Answer DebugFault
  pub next : ProbeState
  pub answers : AnswersStopping line old result next
  pub later : List StampedKey
  pub are : keys ≡ key_typed (request_of line) (clock_of old.board.plain) result ++ later
  pub after : After later next

-- a probe before a list of lines and after them, with the keys that they have typed
abbrev pub Walk : List (List ℕ) → List StampedKey → ProbeState → ProbeState → Type 0
Walk [] keys old new = (new ≡ old) × (keys ≡ [])
Walk (line ∷ lines) keys old new = AnsweredThen line (λ later next. Walk lines later next new) keys old

-- what a board shows after these keys are typed, one after another
abbrev pub shown_with : Shown → List StampedKey → Shown
shown_with first keys = record first { plain = fold with_key first.plain keys }

-- After any lines, answered or refused, a probe's board is the one with which it began some clocks later, as if that
-- had had the keys that were typed.
abbrev pub ProbesStand : Type 0
ProbesStand =
    (lines : List (List ℕ)) (keys : List StampedKey) (board : BoardState) (new : ProbeState) → length board.trail ≤ 32
    → Walk lines keys (probe_about board) new
    → (new.first ≡ shown_with (shown_of board) keys) × StandsAfter new.first new.board
