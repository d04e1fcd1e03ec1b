-- The command line of `pcprobe`, as a command of `clap`.
-- To be believed by callers of this crate: the headline does not rest on it.
use Rattle.std.specs.Prelude.{◌≡◌, ◌≢◌, List, [], codes, Bool, true, false, Result, Ok, Err}
use Rattle.clap.specs.Words.{App, Row, Text, fault_of, matches_of, takes}
use Rattle.pcboard_words.specs.declared.task.Task.{Task}
use Rattle.pcboard_words.specs.declared.task.Task.TheVariants.{Stored, Asm, Run, Debug}
use Rattle.pcboard_words.specs.declared.task.LineFault.{LineFault}
use Rattle.pcboard_words.specs.declared.task.LineFault.TheVariants.{Usage, Memory}
use Rattle.pcboard_words.specs.CommandLine.{HasText, board_command, is_given, is_there}

-- the words don't begin with the program's own name
abbrev pub without_own_name : App → App
without_own_name a = record a { top = record a.top { no_binary_name = true } }

-- the command line of `pcprobe`: `FILE RUN [--hex]`
abbrev pub probe_app : App
probe_app = without_own_name (board_command (codes "pcprobe"))

-- the matches hold both files
abbrev pub HoldsFiles : List Row → Type 0
HoldsFiles rows = (is_there (codes "FILE") rows ≡ true) × (is_there (codes "RUN") rows ≡ true)

-- the task is a session with these files, and with `--hex` or without
abbrev pub IsSessionOf : List Row → Task → Type 0
IsSessionOf rows Stored = ⊥
IsSessionOf rows (Asm file list) = ⊥
IsSessionOf rows (Run file run hex) = ⊥
IsSessionOf rows (Debug file run hex) =
    HasText (codes "FILE") rows file.now × HasText (codes "RUN") rows run.now × (hex ≡ is_given (codes "hex") rows)

-- A task is answered only if `clap` finds no fault in the words, and is the one that its matches hold. The words are
-- refused as usage only if it finds one.
unfoldable pub AnswersProbe : List Text → Result Task LineFault → Type 0
AnswersProbe words (Ok task) = (fault_of probe_app words ≡ []) × IsSessionOf (matches_of probe_app words) task
AnswersProbe words (Err (Usage text)) = (fault_of probe_app words ≢ []) × (takes probe_app words ≡ false)
AnswersProbe words (Err Memory) = Unit {0}
