-- The program's command line, as a command of `clap`.
-- To be believed: the headline rests on it.
use Rattle.std.specs.Prelude.{◌≡◌, ◌≢◌, ◌⊎◌, List, [], codes, Bool, true, false}
use Rattle.std.specs.Prelude.{is_some, Option, None, Some, Result, Ok, Err}
use Rattle.std.specs.Option.{option_map_or}
use Rattle.std.specs.Str.{bytes_eq}
use Rattle.clap.specs.Words.{App, Rule, Row, Text, fault_of, first_of, new_app}
use Rattle.clap.specs.Words.{new_rule, subcommand_of, takes, with_rule, with_subcommand}
use Rattle.clap.specs.declared.builder.ArgAction.TheVariants.{Set, SetTrue}
use Rattle.clap.specs.declared.builder.command.Command.{Command}
use Rattle.clap.specs.declared.builder.command.Command.TheViews.{out-Command}
use Rattle.pcboard_words.specs.declared.task.Task.{Task}
use Rattle.pcboard_words.specs.declared.task.Task.TheVariants.{Stored, Asm, Run, Debug}
use Rattle.pcboard_words.specs.declared.task.LineFault.{LineFault}
use Rattle.pcboard_words.specs.declared.task.LineFault.TheVariants.{Usage, Memory}

-- whether an argument is known to the subcommands too
abbrev pub has_globals : Command → Bool
has_globals command = (out-Command command).has_globals

-- a word that must be there
abbrev pub required_word : Text → Rule
required_word name = record (new_rule name) { action = Some Set; required = true }

-- `--NAME`, without a value
abbrev pub flag : Text → Rule
flag name = record (new_rule name) { long = Some name; action = Some SetTrue }

-- `asm FILE [--list]`
abbrev pub asm_command : App
asm_command = with_rule (with_rule (new_app (codes "asm")) (required_word (codes "FILE"))) (flag (codes "list"))

-- `NAME FILE RUN [--hex]`: a subcommand that puts a program on a board
abbrev pub board_command : Text → App
board_command name =
    with_rule (with_rule (with_rule (new_app name) (required_word (codes "FILE"))) (required_word (codes "RUN")))
    (flag (codes "hex"))

-- the words don't begin with the program's own name, and `help` is no subcommand
abbrev pub with_words_alone : App → App
with_words_alone a = record a { top = record a.top { no_binary_name = true; disable_help_subcommand = true } }

-- the command line of `pcboard`: no word at all, or one of the subcommands
abbrev pub app : App
app = with_subcommand
    (with_subcommand (with_subcommand (with_words_alone (new_app (codes "pcboard"))) asm_command.top)
    (board_command (codes "run")).top)
    (board_command (codes "debug")).top

abbrev pub NamesTask : Text → Type 0
NamesTask name = (name ≡ codes "asm") ⊎ ((name ≡ codes "run") ⊎ (name ≡ codes "debug"))

-- the matches of a subcommand hold this text for an argument
abbrev pub HasText : Text → List Row → Text → Type 0
HasText name rows text = first_of name rows ≡ Some text

-- whether a flag is among the words: `clap` then holds the value `true` for it, and otherwise `false`
abbrev pub is_given : Text → List Row → Bool
is_given name rows = option_map_or (λ text. bytes_eq text (codes "true")) (first_of name rows) false

-- whether the matches hold some text for an argument
abbrev pub is_there : Text → List Row → Bool
is_there name rows = is_some (first_of name rows)

-- the matches of a subcommand are a task's: FILE is there, and so is RUN, if the subcommand has one
abbrev pub HoldsTask : Text × List Row → Type 0
HoldsTask found =
    NamesTask found.0 × (is_there (codes "FILE") found.1 ≡ true)
    × ((found.0 ≡ codes "asm") ⊎ (is_there (codes "RUN") found.1 ≡ true))

-- the matches are those of the subcommand `name`, with these two files, and with `--hex` or without
abbrev pub HoldsBoardWords : Option (Text × List Row) → Text → Text → Text → Bool → Type 0
HoldsBoardWords found name file run hex =
    (rows : List Row) × (found ≡ Some (name, rows)) × HasText (codes "FILE") rows file
    × HasText (codes "RUN") rows run × (hex ≡ is_given (codes "hex") rows)

-- the task is the one that the matches hold, by the subcommand's name and its arguments
abbrev pub IsTaskOf : Option (Text × List Row) → Task → Type 0
IsTaskOf found Stored = found ≡ None
IsTaskOf found (Asm file list) =
    (rows : List Row) × (found ≡ Some (codes "asm", rows)) × HasText (codes "FILE") rows file.now
    × (list ≡ is_given (codes "list") rows)
IsTaskOf found (Run file run hex) = HoldsBoardWords found (codes "run") file.now run.now hex
IsTaskOf found (Debug file run hex) = HoldsBoardWords found (codes "debug") file.now run.now hex

-- A task is answered only if `clap` finds no fault in the words, and is the one that its matches hold. The words are
-- refused as usage only if it finds one.
unfoldable pub Answers : List Text → Result Task LineFault → Type 0
Answers words (Ok task) = (fault_of app words ≡ []) × IsTaskOf (subcommand_of app words) task
Answers words (Err (Usage text)) = (fault_of app words ≢ []) × (takes app words ≡ false)
Answers words (Err Memory) = Unit {0}

abbrev pub OnUsage : LineFault → Type 0 → Type 0
OnUsage (Usage text) P = P
OnUsage Memory P = Unit {0}
