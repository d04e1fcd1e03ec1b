-- What a session has printed, as the functions that hold it pass it on.
-- For proofs alone: no public contract rests on it.
use Rattle.std.specs.Prelude.{ℕ, ◌⊎◌, List, Option}
use Rattle.pcboard_texts.specs.Given.{Of}
use Rattle.pcboard_texts.specs.Answer.{AppendsA, EndsInQuit}
use Rattle.pcboard_texts.specs.Transcript.{Answering, Transcript, input_lines}

-- what a session has printed if it ends, whether with the input or at `quit`
abbrev pub PrintsSession : {S : Type 0} → Answering S → S → (List ℕ → Type 0) → Type 0 → Option (List ℕ)
    → Option (List ℕ) → Type 0
PrintsSession By first Gave Ended old new =
    Of Gave (λ typed. (Ended ⊎ EndsInQuit typed) × AppendsA (Transcript By first (input_lines typed)) old new)
