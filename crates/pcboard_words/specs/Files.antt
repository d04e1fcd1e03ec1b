-- The files that a task reads.
-- To be believed: the headline rests on it.
use Rattle.std.specs.Prelude.{ℕ, ◌≡◌, ◌⊎◌, Bool, false, List, [], ◌∷◌, Result, Ok, Err}
use Rattle.pcboard_words.specs.declared.task.LineFault.{LineFault}
use Rattle.pcboard_words.specs.declared.task.LineFault.TheVariants.{Memory}
use Rattle.pcboard_words.specs.declared.task.Task.{Task}
use Rattle.pcboard_words.specs.declared.task.Task.TheVariants.{Stored, Asm, Run, Debug}

-- the names of the files that a task reads
abbrev pub files_of : Task → List (List ℕ)
files_of Stored = []
files_of (Asm file list) = file.now ∷ []
files_of (Run file run hex) = file.now ∷ run.now ∷ []
files_of (Debug file run hex) = file.now ∷ run.now ∷ []

-- whether a task's program is a HEX text
abbrev pub hex_of : Task → Bool
hex_of (Run file run hex) = hex
hex_of (Debug file run hex) = hex
hex_of _ = false

-- one of the files that a task reads can't be opened
abbrev pub LacksFile : Task → (List ℕ → Type 0) → Type 0
LacksFile Stored Lacks = ⊥
LacksFile (Asm file list) Lacks = Lacks file.now
LacksFile (Run file run hex) Lacks = Lacks file.now ⊎ Lacks run.now
LacksFile (Debug file run hex) Lacks = Lacks file.now ⊎ Lacks run.now

-- what words that name this task are read as: a task with the same files, as HEX texts or as sources alike, or want of
-- memory
abbrev pub IsReadAs : Task → Result Task LineFault → Type 0
IsReadAs task (Ok read) = (files_of task ≡ files_of read) × (hex_of task ≡ hex_of read)
IsReadAs task (Err fault) = fault ≡ Memory
