-- How a run's end is handed to a caller in C.
-- To be believed by callers of this crate: the headline does not rest on it.
use Rattle.std.specs.Prelude.{◌≡◌, ◌⊎◌, ℕ, Bool, List, length, unwrap_or, Ok}
use Rattle.loader.specs.declared.run_file.RunFile.{RunFile}
use Rattle.loader.specs.RunFile.{Answers, run_of_text}
use Rattle.pcboard_texts.specs.declared.fault.Fault.{Fault}
use Rattle.pcboard_texts.specs.Answer.{GivesImage}
use Rattle.pcboard_texts.specs.RunFaults.{line_of, number_of}
use Rattle.pcboard_texts.specs.ImageReport.{FitsBoard}
use Rattle.zebludor_program.specs.Buffers.{buffer_after, status_for}
use Rattle.zebludor_program.specs.declared.run.Outcome.{Outcome}

-- the outcome of a text for a buffer of `room` bytes: its length, and status 0, or 2 if it is longer than the buffer
abbrev pub text_outcome : List ℕ → ℕ → Outcome
text_outcome text room = record { length = length text; line = 0; status = status_for text room; fault = 0 }

-- the outcome of a refusal: status 1, the fault's number and its line, or 0 if it has none
abbrev pub fault_outcome : Fault → Outcome
fault_outcome fault = record { length = 0; line = unwrap_or (line_of fault) 0; status = 1; fault = number_of fault }

-- a text for which `Is` holds is handed over, and written into the buffer
pub record TellsText (Is : List ℕ → Type 0) (old new : List ℕ) (outcome : Outcome) : Type 0 where
  pub text : List ℕ
  pub is_so : Is text
  pub outcome_is : outcome ≡ text_outcome text (length old)
  pub buffer_is : new ≡ buffer_after text old

-- a refusal for which `For` holds is handed over, and the buffer is as it was
pub record TellsFault (For : Fault → Type 0) (old new : List ℕ) (outcome : Outcome) : Type 0 where
  pub fault : Fault
  pub is_so : For fault
  pub outcome_is : outcome ≡ fault_outcome fault
  pub kept : new ≡ old

-- a text for which `Is` holds, or a refusal for which `For` does
abbrev pub Tells : (List ℕ → Type 0) → (Fault → Type 0) → List ℕ → List ℕ → Outcome → Type 0
Tells Is For old new outcome = TellsText Is old new outcome ⊎ TellsFault For old new outcome

-- the bytes give an image, the run file's text is a run file, and the board can have both
pub record Accepts (hex : Bool) (bytes run : List ℕ) : Type 0 where
  pub image : List (ℕ × ℕ)
  pub gives : GivesImage hex bytes image
  pub run_file : RunFile
  pub says : Answers (Ok run_file) (run_of_text run)
  pub fits : FitsBoard image run_file
