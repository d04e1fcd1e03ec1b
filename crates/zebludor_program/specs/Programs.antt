-- How a program ends over texts in memory.
-- To be believed by callers of this crate: the headline does not rest on it.
use Rattle.std.specs.Prelude.{ℕ, ◌≡◌, ◌≤◌, ◌⊎◌, List, [], ◌∷◌, ◌++◌, codes, length, take, if◌then◌else◌}
use Rattle.std.specs.Prelude.{Option, None, Some, Ok}
use Rattle.std.specs.Str.{IsUtf8, bytes_eq}
use Rattle.board_types.specs.TextLines.{text_lines}
use Rattle.pcboard_words.specs.Files.{LacksFile}
use Rattle.pcboard_words.specs.declared.task.Task.{Task}
use Rattle.pcboard_texts.specs.Answer.{PrintsFor, Reading}
use Rattle.pcboard_texts.specs.Given.{Given}
use Rattle.pcboard_texts.specs.Refusal.{EndsUnjudged, IsTrueOfWordsFor, PrintsNoAnswerFor, RefusesWordsFor, TellsA}
use Rattle.pcboard_texts.specs.Refusal.{unreadable_text}
use Rattle.pcboard_texts.specs.Transcript.{Answering}
use Rattle.zebludor_program.specs.Buffers.{buffer_after}
use Rattle.zebludor_program.specs.declared.programs.Ended.{Ended}

-- the files of a caller: one is named FILE, one RUN, and there are no others
abbrev pub file_named : List ℕ → List ℕ → List ℕ → Option (List ℕ)
file_named file run name =
    if bytes_eq name (codes "FILE") then Some file else (
    if bytes_eq name (codes "RUN") then Some run else None)

-- the file of this name is there, and the bytes are its first ones, as many as are wanted, or all if there are no more
abbrev pub IsFront : List ℕ → List ℕ → List ℕ → ℕ → List ℕ → Type 0
IsFront file run name limit bytes =
    (text : List ℕ) × (file_named file run name ≡ Some text) × (bytes ≡ take limit text)

-- What is read of these texts: of each file its front, and of the input all but the rest. The input's end is met if no
-- rest is left.
abbrev pub read_of : List ℕ → List ℕ → List ℕ → List ℕ → Given
read_of file run input rest = record {
  one = IsFront file run;
  two = λ first most front second least back. IsFront file run first most front × IsFront file run second least back;
  typed = λ typed. input ≡ typed ++ rest;
  ended = rest ≡ [];
}

-- one of the words isn't UTF-8
pub record HasUnreadable (words : List (List ℕ)) : Type 0 where
  pub before : List (List ℕ)
  pub word : List ℕ
  pub after : List (List ℕ)
  pub are_words : words ≡ before ++ (word ∷ after)
  pub is_unreadable : ¬ (IsUtf8 word)

-- A program ends with this exit status, and what it prints and tells stands after what was there: as the contract of
-- `program` says of what its reads gave. Words that aren't UTF-8 are refused as the system's are.
pub record IsEnd {S : Type 0} (Reads : Reading) (By : Answering S) (words : List (List ℕ)) (given : Given)
    (Lacks : List ℕ → Type 0) (printed_old printed_new told_old told_new : List ℕ) (status : ℕ) : Type 0 where
  pub bound : status ≤ 3
  pub printed : status ≡ 0 → PrintsFor Reads By words given (Some printed_old) (Some printed_new)
  pub untold : status ≡ 0 → told_new ≡ told_old
  pub told : status ≡ 1 → TellsA (IsTrueOfWordsFor Reads words given) (Some told_old) (Some told_new)
  pub withheld : status ≡ 1 → PrintsNoAnswerFor Reads By words given (Some printed_old) (Some printed_new)
  pub usage : status ≡ 2 → RefusesWordsFor Reads words (Some told_old) (Some told_new)
      ⊎ (HasUnreadable words × (told_new ≡ told_old ++ unreadable_text))
  pub unprinted : status ≡ 2 → printed_new ≡ printed_old
  pub lacking : (task : Task) → Reads words (Ok task) → LacksFile task Lacks
      → EndsUnjudged task status (Some told_old) (Some told_new) ⊎ HasUnreadable words

-- A program has ended on the lines of a text as its words, and both of its texts are handed over.
pub record Ends {S : Type 0} (Reads : Reading) (By : Answering S)
    (words file run input out_old out_new err_old err_new : List ℕ) (ended : Ended) : Type 0 where
  pub rest : List ℕ
  pub printed : List ℕ
  pub told : List ℕ
  pub ends : IsEnd Reads By (text_lines words) (read_of file run input rest) (λ name. file_named file run name ≡ None)
      [] printed [] told ended.status
  pub out_length : ended.out ≡ length printed
  pub err_length : ended.err ≡ length told
  pub out_is : out_new ≡ buffer_after printed out_old
  pub err_is : err_new ≡ buffer_after told err_old
