-- The words name one task: its files and its flag are those that their matches hold.
use Rattle.std.proofs.Common.{◌≡◌, ◌∙◌, ℕ, ◌==◌, Bool, true, false, if◌then◌else◌, List, [], ◌∷◌, get_or}
use Rattle.std.proofs.Common.{codes, refl, sym, ap, subst, Option, None, Some, Ok, Err, Result, unwrap_or}
use Rattle.std.specs.Prelude.{◌⊎◌}
use Rattle.clap.specs.Words.{Row, Text, first_of, matches_of}
use Rattle.pcboard_words.specs.CommandLine.{Answers, HasText, HoldsBoardWords, IsTaskOf, is_given}
use Rattle.pcboard_words.specs.Files.{IsReadAs, LacksFile, files_of, hex_of}
use Rattle.pcboard_words.specs.ProbeLine.{AnswersProbe, IsSessionOf, probe_app}
use Rattle.pcboard_words.specs.declared.task.LineFault.{LineFault}
use Rattle.pcboard_words.specs.declared.task.LineFault.TheVariants.{Memory, Usage}
use Rattle.pcboard_words.specs.declared.task.Task.{Task}
use Rattle.pcboard_words.specs.declared.task.Task.TheVariants.{Stored, Asm, Run, Debug}

-- the text of an argument, or the empty one
abbrev text_or : Text → List Row → Text
text_or name rows = unwrap_or (first_of name rows) []

abbrev both_files : List Row → List Text
both_files rows = text_or (codes "FILE") rows ∷ text_or (codes "RUN") rows ∷ []

-- whether the first letter of a subcommand is that of `asm`, which alone has one file, and another flag
abbrev is_asm : Text → Bool
is_asm name = get_or name 0 0 == 97

-- the files and the flag of a subcommand that is found
abbrev files_in : Option (Text × List Row) → List Text
files_in None = []
files_in (Some found) = if is_asm found.0 then text_or (codes "FILE") found.1 ∷ [] else both_files found.1

abbrev hex_in : Option (Text × List Row) → Bool
hex_in None = false
hex_in (Some found) = if is_asm found.0 then false else is_given (codes "hex") found.1

held : (name : Text) (rows : List Row) (text : Text) → HasText name rows text → text_or name rows ≡ text
held name rows text has = ap (λ (found : Option Text). unwrap_or found []) has

both_held : (rows : List Row) (file run : Text) → HasText (codes "FILE") rows file → HasText (codes "RUN") rows run → file ∷ run ∷ [] ≡ both_files rows
both_held rows file run has_file has_run =
    sym (ap (λ (f : Text). f ∷ text_or (codes "RUN") rows ∷ []) (held (codes "FILE") rows file has_file)
    ∙ ap (λ (r : Text). file ∷ r ∷ []) (held (codes "RUN") rows run has_run))

board_held : (found : Option (Text × List Row)) (name file run : Text) (hex : Bool) → is_asm name ≡ false → HoldsBoardWords found name file run hex
    → (file ∷ run ∷ [] ≡ files_in found) × (hex ≡ hex_in found)
board_held found name file run hex other holds = (
  both_held holds.0 file run holds.2 holds.3 ∙ (sym (rw other refl) ∙ sym (ap files_in holds.1)),
  holds.4 ∙ (sym (rw other refl) ∙ sym (ap hex_in holds.1)),
)

task_held : (found : Option (Text × List Row)) (t : Task) → IsTaskOf found t → (files_of t ≡ files_in found) × (hex_of t ≡ hex_in found)
task_held found Stored is = (sym (ap files_in is), sym (ap hex_in is))
task_held found (Asm file list) is = (
  sym (ap files_in is.1 ∙ ap (λ (f : Text). f ∷ []) (held (codes "FILE") is.0 file.now is.2)),
  sym (ap hex_in is.1),
)
task_held found (Run file run hex) is = board_held found (codes "run") file.now run.now hex refl is
task_held found (Debug file run hex) is = board_held found (codes "debug") file.now run.now hex refl is

pub one_task : (words : List (List ℕ)) (t : Task) (read : Result Task LineFault) → Answers words (Ok t) → Answers words read → IsReadAs t read
unfolding Answers
one_task words t (Ok u) p q =
    let first = task_held _ t p.1 in
    let second = task_held _ u q.1 in
    (first.0 ∙ sym second.0, first.1 ∙ sym second.1)
one_task words t (Err (Usage text)) p q = absurd (q.0 p.0)
one_task words t (Err Memory) p q = refl

session_held : (rows : List Row) (t : Task) → IsSessionOf rows t → (files_of t ≡ both_files rows) × (hex_of t ≡ is_given (codes "hex") rows)
session_held rows Stored is = absurd is
session_held rows (Asm file list) is = absurd is
session_held rows (Run file run hex) is = absurd is
session_held rows (Debug file run hex) is = (both_held rows file.now run.now is.0 is.1, is.2)

pub one_session : (words : List (List ℕ)) (t : Task) (read : Result Task LineFault) → AnswersProbe words (Ok t) → AnswersProbe words read → IsReadAs t read
unfolding AnswersProbe
one_session words t (Ok u) p q =
    let first = session_held (matches_of probe_app words) t p.1 in
    let second = session_held (matches_of probe_app words) u q.1 in
    (first.0 ∙ sym second.0, first.1 ∙ sym second.1)
one_session words t (Err (Usage text)) p q = absurd (q.0 p.0)
one_session words t (Err Memory) p q = refl

-- a task lacks a file if another with the same files does
abbrev LacksOne : (List ℕ → Type 0) → List (List ℕ) → Type 0
LacksOne Lacks [] = ⊥
LacksOne Lacks (file ∷ []) = Lacks file
LacksOne Lacks (file ∷ run ∷ rest) = Lacks file ⊎ Lacks run

of_task : (Lacks : List ℕ → Type 0) (t : Task) → LacksFile t Lacks → LacksOne Lacks (files_of t)
of_task Lacks Stored lacks = lacks
of_task Lacks (Asm file list) lacks = lacks
of_task Lacks (Run file run hex) lacks = lacks
of_task Lacks (Debug file run hex) lacks = lacks

in_task : (Lacks : List ℕ → Type 0) (t : Task) → LacksOne Lacks (files_of t) → LacksFile t Lacks
in_task Lacks Stored lacks = lacks
in_task Lacks (Asm file list) lacks = lacks
in_task Lacks (Run file run hex) lacks = lacks
in_task Lacks (Debug file run hex) lacks = lacks

pub lacks_alike : (Lacks : List ℕ → Type 0) (t u : Task) → files_of t ≡ files_of u → LacksFile t Lacks → LacksFile u Lacks
lacks_alike Lacks t u same lacks = in_task Lacks u (subst (LacksOne Lacks) same (of_task Lacks t lacks))
