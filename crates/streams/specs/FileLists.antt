-- The lists of files that were read.
-- To be believed: the headline rests on it.
use Rattle.std.specs.Prelude.{ℕ, ◌≡◌, ◌⊎◌, Bool, true, List, [], ◌∷◌, ◌++◌, length}

-- files that were read: the name of each, whether its end was met, and the bytes that its reads gave
abbrev pub FileList : Type 0
FileList = List (List ℕ × (Bool × List ℕ))

-- one file more was read: this one, up to its end or to the limit, and its reads gave these bytes
abbrev pub NotesFile : FileList → FileList → List ℕ → ℕ → List ℕ → Type 0
NotesFile old new name limit bytes =
    (ended : Bool) × (new ≡ old ++ (name, (ended, bytes)) ∷ []) × ((ended ≡ true) ⊎ (length bytes ≡ limit))
