-- What holds of lines, commands and sessions.
-- Laws: claims above the definitions, each proved as the contract of a function.
use Rattle.std.specs.Prelude.{ℕ, ◌≡◌, ◌+◌, ◌<◌, ◌≤◌, ◌^◌, List, [], ◌∷◌, ◌++◌, codes, length, Result, Some}
use Rattle.std.specs.Fmt.{decimal}
use Rattle.board_plain.specs.Board.{BoardState}
use Rattle.board_types.specs.Digits.{hex_byte_text, hex_word}
use Rattle.debugger_meaning.specs.declared.answer.Answer.{Answer}
use Rattle.debugger_meaning.specs.declared.fault.DebugFault.{DebugFault}
use Rattle.debugger_meaning.specs.declared.command.Command.{Command}
use Rattle.debugger_meaning.specs.declared.command.Command.TheVariants.{Break, Byte, Sound, Halted, Go, Step, Regs}
use Rattle.debugger_meaning.specs.declared.command.Command.TheVariants.{Screen, Dump, Trail, Back, BackStep, BackStop}
use Rattle.debugger_meaning.specs.Commands.{command_of}
use Rattle.debugger_meaning.specs.Dump.{address_text}
use Rattle.debugger_meaning.specs.Session.{Answers}
use Rattle.debugger_meaning.specs.Spellings.{HasWords, Says}
use Rattle.debugger_meaning.specs.Stands.{SessionState, StandsAfter, session_about, shown_of}
use Rattle.debugger_meaning.specs.CommandWords.{words_of}

-- a line that says a command: `break F000:0013`, `byte B0000 41`, `go 100`, `dump B0000 4`, and so on
abbrev pub line_of : Command → List ℕ
line_of (Break segment offset) = codes "break " ++ (hex_word segment ++ (codes ":" ++ hex_word offset))
line_of (Byte address byte) = codes "byte " ++ (address_text address ++ (codes " " ++ hex_byte_text byte))
line_of Sound = codes "sound"
line_of Halted = codes "halted"
line_of (Go count) = codes "go " ++ decimal count
line_of Step = codes "step"
line_of Regs = codes "regs"
line_of Screen = codes "screen"
line_of (Dump first count) = codes "dump " ++ (address_text first ++ (codes " " ++ decimal count))
line_of Trail = codes "trail"
line_of (Back count) = codes "back " ++ decimal count
line_of BackStep = codes "back step"
line_of BackStop = codes "back stop"

-- a command's numbers are in range: segments and offsets have 16 bits, bytes eight, counts 64, and addresses are below
-- 100000h
abbrev pub IsMeant : Command → Type 0
IsMeant (Break segment offset) = (segment < 2 ^ 16) × (offset < 2 ^ 16)
IsMeant (Byte address byte) = (address < 2 ^ 20) × (byte < 2 ^ 8)
IsMeant (Go count) = count < 2 ^ 64
IsMeant (Dump first count) = (first < 2 ^ 20) × ((1 ≤ count) × ((count ≤ 4096) × (first + count ≤ 2 ^ 20)))
IsMeant (Back count) = (1 ≤ count) × (count < 2 ^ 64)
IsMeant _ = Unit {0}

-- each command is read back from its line
abbrev pub CommandsReadBack : Type 0
CommandsReadBack = (command : Command) → IsMeant command → command_of (line_of command) ≡ Some command

-- the words that are read from a line are those that it has
abbrev pub WordsAreRead : Type 0
WordsAreRead =
    (line : List ℕ) (words : List (List ℕ))
    → (words_of line ≡ words → HasWords words line) × (HasWords words line → words_of line ≡ words)

-- a line is read as a command if and only if it says that command
abbrev pub CommandsAreSaid : Type 0
CommandsAreSaid =
    (line : List ℕ) (command : Command)
    → (command_of line ≡ Some command → Says line command) × (Says line command → command_of line ≡ Some command)

-- a session answers a command, and this holds of the session after it
pub record AnsweredThen (command : Command) (Following : SessionState → Type 0) (old : SessionState) : Type 0 where
  pub result : Result Answer DebugFault
  pub next : SessionState
  pub answers : Answers command old result next
  pub following : Following next

-- a list of commands leads from one session to another
abbrev pub Walk : List Command → SessionState → SessionState → Type 0
Walk [] old new = new ≡ old
Walk (command ∷ commands) old new = AnsweredThen command (λ next. Walk commands next new) old

-- after any commands, ahead and back, answered or refused, a session stands some clocks after the board with which it
-- began
abbrev pub SessionsStand : Type 0
SessionsStand =
    (commands : List Command) (board : BoardState) (new : SessionState) → length board.trail ≤ 32
    → Walk commands (session_about board) new → StandsAfter (shown_of board) new.board
