-- What the program prints if it gives no answer.
-- To be believed: the headline rests on it.
use Rattle.std.specs.Prelude.{ℕ, ◌≡◌, ◌⊎◌, Bool, true, false, ◌++◌, List, codes}
use Rattle.std.specs.Prelude.{Option, None, Ok, Err, string_bytes}
use Rattle.std.specs.Io.KnownBytes.{Appends}
use Rattle.assembler.specs.FirstFault.{IsFirst}
use Rattle.assembler.specs.declared.fault.AsmFault.TheVariants as asm
use Rattle.loader.specs.declared.hex_fault.HexFault.TheVariants as hexes
use Rattle.loader.specs.declared.run_fault.RunFault.TheVariants as runs
use Rattle.board_plain.specs.Board.{BoardState}
use Rattle.board_plain.specs.declared.fault.BoardFault.TheVariants as boards
use Rattle.debugger_meaning.specs.declared.fault.DebugFault.TheVariants as sessions
use Rattle.pcboard_words.specs.CommandLine.{Answers as AnswersWords}
use Rattle.pcboard_words.specs.Files.{hex_of}
use Rattle.pcboard_words.specs.declared.task.LineFault.{LineFault}
use Rattle.pcboard_words.specs.declared.task.LineFault.TheVariants.{Usage, Memory}
use Rattle.pcboard_words.specs.declared.task.Task.{Task}
use Rattle.pcboard_words.specs.declared.task.Task.TheVariants as tasks
use Rattle.pcboard_texts.specs.declared.fault.Fault.{Fault}
use Rattle.pcboard_texts.specs.declared.fault.Fault.TheVariants.{Source, Hex, Run, Board, Session}
use Rattle.pcboard_texts.specs.Given.{Given, Of, OfTwo, limit_of}
use Rattle.pcboard_texts.specs.RunFaults.{fault_text}
use Rattle.pcboard_texts.specs.Answer.{AppendsA, IsBoardOf, IsTrueRefusal, Reading, run_text_of, source_of}
use Rattle.pcboard_texts.specs.Transcript.{Answering, AnswersCommand, Transcript, input_lines}

-- the fault for want of memory for a program's bytes: 27 for a HEX text, if `hex`, else 13 for a source
abbrev pub want_of_file : Bool → Fault
want_of_file true = Hex hexes.Memory
want_of_file false = Source asm.Memory

-- the fault for want of memory for the words, a board, its report or a session's line: 41
abbrev pub want_of_board : Fault
want_of_board = Board boards.Memory

-- the fault for want of memory for a run file: 37
abbrev pub want_of_run_file : Fault
want_of_run_file = Run runs.Memory

-- the fault for want of memory for a session that is to begin: 53
abbrev pub want_of_session : Fault
want_of_session = Session (sessions.Memory None)

-- the faults for want of memory in a run
abbrev pub IsWantOfRun : Bool → Fault → Type 0
IsWantOfRun hex fault = (fault ≡ want_of_file hex) ⊎ ((fault ≡ want_of_run_file) ⊎ (fault ≡ want_of_board))

-- the faults for want of memory in a task
abbrev pub IsWantOfTask : Task → Fault → Type 0
IsWantOfTask tasks.Stored fault = IsWantOfRun false fault
IsWantOfTask (tasks.Asm file list) fault = fault ≡ want_of_file false
IsWantOfTask (tasks.Run file run hex) fault = IsWantOfRun hex fault
IsWantOfTask (tasks.Debug file run hex) fault = IsWantOfRun hex fault ⊎ (fault ≡ want_of_session)

-- a refusal is true of a source that is to be assembled: it is the source's first fault
abbrev pub IsTrueOfText : List ℕ → Fault → Type 0
IsTrueOfText source (Source fault) = IsFirst source fault
IsTrueOfText source _ = ⊥

-- a refusal is true of what the reads gave that the task is judged by
abbrev pub IsTrueOfTask : Task → Given → Fault → Type 0
IsTrueOfTask tasks.Stored given fault =
    given.ended × Of given.typed (λ text. IsTrueRefusal false (source_of text) (run_text_of text) fault)
IsTrueOfTask (tasks.Asm file list) given fault =
    Of (given.one file.now (limit_of false)) (λ source. IsTrueOfText source fault)
IsTrueOfTask (tasks.Run file run hex) given fault =
    OfTwo given.two file.now hex run.now (λ bytes said. IsTrueRefusal hex bytes said fault)
IsTrueOfTask (tasks.Debug file run hex) given fault =
    OfTwo given.two file.now hex run.now (λ bytes said. IsTrueRefusal hex bytes said fault)

-- The refusal is for want of memory for the words; or these name a task, and it is for want of memory in that task, or
-- true of it: for a program that reads words in this way.
abbrev pub IsTrueOfWordsFor : Reading → List (List ℕ) → Given → Fault → Type 0
IsTrueOfWordsFor Reads words given fault =
    (fault ≡ want_of_board)
    ⊎ ((task : Task) × Reads words (Ok task) × (IsWantOfTask task fault ⊎ IsTrueOfTask task given fault))

-- the refusal is true of the words, as `pcboard` reads them
abbrev pub IsTrueOfWords : List (List ℕ) → Given → Fault → Type 0
IsTrueOfWords = IsTrueOfWordsFor AnswersWords

-- the known bytes grow by the line of one of these refusals
abbrev pub TellsA : (Fault → Type 0) → Option (List ℕ) → Option (List ℕ) → Type 0
TellsA Is old new = (fault : Fault) × Is fault × Appends old new (fault_text fault)

-- The program ends before anything is judged: with status 3, or with status 1 and the line that says that there is no
-- memory for the words or for the task's program.
abbrev pub EndsUnjudged : Task → ℕ → Option (List ℕ) → Option (List ℕ) → Type 0
EndsUnjudged task status old new =
    (status ≡ 3)
    ⊎ ((status ≡ 1) × TellsA (λ fault. (fault ≡ want_of_board) ⊎ (fault ≡ want_of_file (hex_of task))) old new)

-- what a session prints on the first of these lines: on none, on some, or on all
pub record BeginsTranscript {S : Type 0} (By : Answering S)
    (session : S) (lines : List (List ℕ)) (text : List ℕ) : Type 0 where
  pub answered : List (List ℕ)
  pub left : List (List ℕ)
  pub are_lines : lines ≡ answered ++ left
  pub prints : Transcript By session answered text

-- the text is what a session prints on the first of the typed lines, about the board that the bytes and the run file's
-- text give
pub record BeginsSession {S : Type 0} (By : Answering S) (hex : Bool) (bytes run typed text : List ℕ) : Type 0 where
  pub board : BoardState
  pub is_board : IsBoardOf hex bytes run board
  pub begins : BeginsTranscript By (By.begins board) (input_lines typed) text

-- a session's task adds its replies up to the refusal, by what the reads gave; no other task adds any
abbrev pub PrintsReplies : {S : Type 0} → Answering S → Task → Given → Option (List ℕ) → Option (List ℕ) → Type 0
PrintsReplies By (tasks.Debug file run hex) given old new =
    OfTwo given.two file.now hex run.now
    (λ bytes said. Of given.typed (λ typed. AppendsA (BeginsSession By hex bytes said typed) old new))
PrintsReplies By _ given old new = ⊥

-- Nothing is printed beside a refusal, unless the words name a session, which prints replies as it goes: for a program
-- that reads words and answers lines in these ways.
abbrev pub PrintsNoAnswerFor : {S : Type 0} → Reading → Answering S → List (List ℕ) → Given → Option (List ℕ)
    → Option (List ℕ) → Type 0
PrintsNoAnswerFor Reads By words given old new =
    (new ≡ old) ⊎ ((task : Task) × Reads words (Ok task) × PrintsReplies By task given old new)

-- `pcboard` prints nothing beside a refusal, unless the words name a session, which prints replies as it goes
abbrev pub PrintsNoAnswer : List (List ℕ) → Given → Option (List ℕ) → Option (List ℕ) → Type 0
PrintsNoAnswer = PrintsNoAnswerFor AnswersWords AnswersCommand

-- the known bytes grow by the text of words that name no task
abbrev pub TellsUsage : LineFault → Option (List ℕ) → Option (List ℕ) → Type 0
TellsUsage (Usage text) old new = Appends old new (string_bytes text)
TellsUsage Memory old new = ⊥

-- The words name no task, and the known bytes grow by the text that says so, for a program that reads words in this
-- way.
abbrev pub RefusesWordsFor : Reading → List (List ℕ) → Option (List ℕ) → Option (List ℕ) → Type 0
RefusesWordsFor Reads words old new = (fault : LineFault) × Reads words (Err fault) × TellsUsage fault old new

-- the words name no task of `pcboard`, and the known bytes grow by the text that says so
abbrev pub RefusesWords : List (List ℕ) → Option (List ℕ) → Option (List ℕ) → Type 0
RefusesWords = RefusesWordsFor AnswersWords

-- what is printed for words that aren't UTF-8
abbrev pub unreadable_text : List ℕ
unreadable_text =
    codes "error: invalid UTF-8 was detected in one or more arguments\n\nFor more information, try '--help'.\n"
