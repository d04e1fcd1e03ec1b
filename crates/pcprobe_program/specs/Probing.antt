-- What the program prints: its words, and its answers to typed lines.
-- To be believed by callers of this crate: the headline does not rest on it.
use Rattle.std.specs.Prelude.{ℕ, List, Option}
use Rattle.pcboard_words.specs.ProbeLine.{AnswersProbe as AnswersWords}
use Rattle.pcboard_texts.specs.declared.fault.Fault.{Fault}
use Rattle.pcboard_texts.specs.Answer.{PrintsFor}
use Rattle.pcboard_texts.specs.Given.{Given}
use Rattle.pcboard_texts.specs.Refusal.{IsTrueOfWordsFor, PrintsNoAnswerFor, RefusesWordsFor}
use Rattle.pcboard_texts.specs.Transcript.{Answering}
use Rattle.probe.specs.Lab.{AnswersLab, LabState, lab_about}

-- how the probe's sessions begin, and how they answer a line
abbrev pub AnswersProbing : Answering LabState
AnswersProbing = record { begins = lab_about; answers = AnswersLab }

-- the words name a session, and the replies to its lines are added
abbrev pub PrintsProbing : List (List ℕ) → Given → Option (List ℕ) → Option (List ℕ) → Type 0
PrintsProbing = PrintsFor AnswersWords AnswersProbing

-- the refusal is true of the words, as `pcprobe` reads them
abbrev pub IsTrueOfProbeWords : List (List ℕ) → Given → Fault → Type 0
IsTrueOfProbeWords = IsTrueOfWordsFor AnswersWords

-- nothing is printed beside a refusal but the replies to the first lines
abbrev pub PrintsNoProbing : List (List ℕ) → Given → Option (List ℕ) → Option (List ℕ) → Type 0
PrintsNoProbing = PrintsNoAnswerFor AnswersWords AnswersProbing

-- the words name no session, and the known bytes grow by the text that says so
abbrev pub RefusesProbeWords : List (List ℕ) → Option (List ℕ) → Option (List ℕ) → Type 0
RefusesProbeWords = RefusesWordsFor AnswersWords
