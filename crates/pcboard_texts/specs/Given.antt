-- What the reads of a run gave, as far as the streams tell that are read.
-- To be believed: the headline rests on it.
use Rattle.std.specs.Prelude.{ℕ, ◌≡◌, ◌-◌, ◌^◌, Bool, true, false, List, ◌++◌}
use Rattle.streams.specs.FileLists.{FileList, NotesFile}

-- something was given, of which this holds
abbrev pub Of : (List ℕ → Type 0) → (List ℕ → Type 0) → Type 0
Of Gave Is = (bytes : List ℕ) × Gave bytes × Is bytes

-- how much of a program's file is read at most: of a HEX text, if `hex`, all that there can be, and of a source one
-- byte more than it may have
abbrev pub limit_of : Bool → ℕ
limit_of true = 2 ^ 64 - 1
limit_of false = 1048577

-- from one state of the files to another one file was read: its name, the most bytes that are wanted, those it gave
abbrev pub GivesFile : Type 0 → Type 1
GivesFile F = F → F → List ℕ → ℕ → List ℕ → Type 0

-- two files were read, one after the other
abbrev pub GaveTwo : {F : Type 0} → GivesFile F → F → F → List ℕ → ℕ → List ℕ → List ℕ → ℕ → List ℕ → Type 0
GaveTwo {F} Gave old new first most front second least back =
    (mid : F) × Gave old mid first most front × Gave mid new second least back

-- A task's two files were read, the program's and then the run file, each as far as it is wanted, and this holds of
-- what they gave.
abbrev pub OfTwo : (List ℕ → ℕ → List ℕ → List ℕ → ℕ → List ℕ → Type 0) → List ℕ → Bool → List ℕ
    → (List ℕ → List ℕ → Type 0) → Type 0
OfTwo Two file hex run Is = (bytes : List ℕ) × Of (Two file (limit_of hex) bytes run (limit_of true)) (Is bytes)

-- What the reads of a run gave: of one file, of two, and of the input; and whether the input's end was met.
pub record Given : Type 1 where
  pub one : List ℕ → ℕ → List ℕ → Type 0
  pub two : List ℕ → ℕ → List ℕ → List ℕ → ℕ → List ℕ → Type 0
  pub typed : List ℕ → Type 0
  pub ended : Type 0

-- what they gave from one state of the files and of the input to another
abbrev pub given_by : {F I : Type 0} → GivesFile F → F → F → (I → I → List ℕ → Type 0) → (I → Type 0) → I → I → Given
given_by Files old new Gave Ended before after = record {
  one = Files old new;
  two = GaveTwo Files old new;
  typed = Gave before after;
  ended = Ended after;
}

-- What they gave by the lists that note it: the files that were read, the bytes of the input, and whether its end was
-- met.
abbrev pub noted : FileList → FileList → List ℕ → List ℕ → Bool → Given
noted old new before after ended =
    given_by NotesFile old new (λ s t more. t ≡ s ++ more) (λ _. ended ≡ true) before after
