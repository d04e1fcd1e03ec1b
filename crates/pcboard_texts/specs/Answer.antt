-- What the program prints.
-- To be believed: the headline rests on it.
use Rattle.std.specs.Prelude.{ℕ, ◌≡◌, ◌⊎◌, ◌==◌, Bool, true, false, List, [], ◌∷◌, ◌++◌, Option, Result, Ok, Err}
use Rattle.std.specs.List.{after_first, before_first}
use Rattle.std.specs.Io.KnownBytes.{Appends}
use Rattle.board_types.specs.TextLines.{text_lines}
use Rattle.assembler.specs.LocatedLines.{LocatedLine, names_of}
use Rattle.assembler.specs.Listing.{Names, listed}
use Rattle.assembler.specs.Gives.{Gives}
use Rattle.assembler.specs.FirstFault.{IsFirst}
use Rattle.board_plain.specs.Board.{BoardState}
use Rattle.board_plain.specs.Plain.{power_on}
use Rattle.pcboard_words.specs.CommandLine.{Answers as AnswersWords}
use Rattle.pcboard_words.specs.declared.task.LineFault.{LineFault}
use Rattle.pcboard_words.specs.declared.task.Task.{Task}
use Rattle.pcboard_words.specs.declared.task.Task.TheVariants as tasks
use Rattle.loader.specs.HexText.{hex_text}
use Rattle.loader.specs.Reading.{Fails, image_of}
use Rattle.loader.specs.declared.run_file.RunFile.{RunFile}
use Rattle.loader.specs.RunFile.{Answers, run_of_text}
use Rattle.pcboard_texts.specs.declared.fault.Fault.{Fault}
use Rattle.pcboard_texts.specs.declared.fault.Fault.TheVariants.{Source, Hex, Run, Board}
use Rattle.pcboard_texts.specs.ImageReport.{config_of, report_of}
use Rattle.pcboard_texts.specs.Transcript.{Answering, AnswersCommand, Transcript, ends_session, input_lines}
use Rattle.pcboard_texts.specs.Given.{Given, Of, OfTwo, limit_of}
use Rattle.pcboard_texts.specs.RunFaults.{IsTrueOfBoard}

-- the run file of a stored run: its first line
abbrev pub run_text_of : List ℕ → List ℕ
run_text_of text = before_first (λ byte. byte == 10) text

-- the source of a stored run: what follows its first line feed
abbrev pub source_of : List ℕ → List ℕ
source_of text = after_first (λ byte. byte == 10) text

-- the image that a file's bytes give: as a HEX text, if `hex`, else as a source
abbrev pub GivesImage : Bool → List ℕ → List (ℕ × ℕ) → Type 0
GivesImage true bytes image = image_of bytes ≡ Ok image
GivesImage false bytes image = Gives bytes image

-- the text is the report of a run: the bytes give an image, and the run file's text says how to run it
pub record IsReport (hex : Bool) (bytes run text : List ℕ) : Type 0 where
  pub image : List (ℕ × ℕ)
  pub gives : GivesImage hex bytes image
  pub run_file : RunFile
  pub says : Answers (Ok run_file) (run_of_text run)
  pub is_text : text ≡ report_of image run_file

-- the board is the one at power-on that the bytes of an image and the run file's text give: no change of the speaker is
-- past, and the trail is empty
pub record IsBoardOf (hex : Bool) (bytes run : List ℕ) (board : BoardState) : Type 0 where
  pub image : List (ℕ × ℕ)
  pub gives : GivesImage hex bytes image
  pub run_file : RunFile
  pub says : Answers (Ok run_file) (run_of_text run)
  pub plain : board.plain ≡ power_on image (config_of run_file) run_file.keys
  pub changes : board.changes ≡ []
  pub trail : board.trail ≡ []

-- the text is what a session prints on the typed bytes, about the board that the bytes and the run file's text give
pub record IsSession {S : Type 0} (By : Answering S) (hex : Bool) (bytes run typed text : List ℕ) : Type 0 where
  pub board : BoardState
  pub is_board : IsBoardOf hex bytes run board
  pub prints : Transcript By (By.begins board) (input_lines typed) text

-- the text is the HEX text of the image that the source gives
pub record IsHexOf (source text : List ℕ) : Type 0 where
  pub image : List (ℕ × ℕ)
  pub gives : Gives source image
  pub is_text : text ≡ hex_text image

-- the lines of a listing, each ended by a line feed
abbrev pub listing_text : Names → List (List ℕ) → List LocatedLine → List ℕ
listing_text names (text ∷ texts) (row ∷ rows) = listed names text row ++ (10 ∷ listing_text names texts rows)
listing_text names texts rows = []

-- the text is the listing of a source that gives an image
pub record IsListingOf (source text : List ℕ) : Type 0 where
  pub image : List (ℕ × ℕ)
  pub gives : Gives source image
  pub is_text : text ≡ listing_text (names_of gives.located_lines) (text_lines source) gives.located_lines

-- what is printed of an assembled source: its listing, or its HEX text
abbrev pub IsAssembled : Bool → List ℕ → List ℕ → Type 0
IsAssembled false source text = IsHexOf source text
IsAssembled true source text = IsListingOf source text

-- the known bytes grow by one of these texts
abbrev pub AppendsA : (List ℕ → Type 0) → Option (List ℕ) → Option (List ℕ) → Type 0
AppendsA Is old new = (text : List ℕ) × Is text × Appends old new text

-- the last of the typed lines is `quit`, and its line feed is the last byte
pub record EndsInQuit (typed : List ℕ) : Type 0 where
  pub before : List ℕ
  pub line : List ℕ
  pub lines : List (List ℕ)
  pub is : typed ≡ before ++ (line ++ 10 ∷ [])
  pub are_lines : input_lines typed ≡ lines ++ line ∷ []
  pub quits : ends_session line ≡ true

-- What a task's answer adds to the bytes that `out` holds, by what its reads gave: it reads the files that it names,
-- each once, the program's before the run file; a stored run reads the input up to its end, and a session up to its end
-- or to the first `quit`.
abbrev pub PrintsTask : {S : Type 0} → Answering S → Task → Given → Option (List ℕ) → Option (List ℕ) → Type 0
PrintsTask By tasks.Stored given old new =
    given.ended × Of given.typed (λ text. AppendsA (IsReport false (source_of text) (run_text_of text)) old new)
PrintsTask By (tasks.Asm file list) given old new =
    Of (given.one file.now (limit_of false)) (λ source. AppendsA (IsAssembled list source) old new)
PrintsTask By (tasks.Run file run hex) given old new =
    OfTwo given.two file.now hex run.now (λ bytes said. AppendsA (IsReport hex bytes said) old new)
PrintsTask By (tasks.Debug file run hex) given old new =
    OfTwo given.two file.now hex run.now (λ bytes said. Of given.typed
    (λ typed. (given.ended ⊎ EndsInQuit typed) × AppendsA (IsSession By hex bytes said typed) old new))

-- how words are read: as a task, or as the fault that says why they name none
abbrev pub Reading : Type 1
Reading = List (List ℕ) → Result Task LineFault → Type 0

-- The words name a task, and its answer is added, for a program that reads words and answers lines in these ways.
abbrev pub PrintsFor : {S : Type 0} → Reading → Answering S → List (List ℕ) → Given → Option (List ℕ)
    → Option (List ℕ) → Type 0
PrintsFor Reads By words given old new = (task : Task) × Reads words (Ok task) × PrintsTask By task given old new

-- the words name a task of `pcboard`, and its answer is added
abbrev pub Prints : List (List ℕ) → Given → Option (List ℕ) → Option (List ℕ) → Type 0
Prints = PrintsFor AnswersWords AnswersCommand

-- A refusal is true: it is the first fault of the source or HEX text; or the run file's, if an image was given; or the
-- board's, by what the image and the run file say.
abbrev pub IsTrueRefusal : Bool → List ℕ → List ℕ → Fault → Type 0
IsTrueRefusal false bytes run (Source fault) = IsFirst bytes fault
IsTrueRefusal true bytes run (Hex fault) = Fails fault (image_of bytes)
IsTrueRefusal hex bytes run (Run fault) =
    Answers (Err fault) (run_of_text run) × ((image : List (ℕ × ℕ)) × GivesImage hex bytes image)
IsTrueRefusal hex bytes run (Board fault) =
    (run_file : RunFile) × Answers (Ok run_file) (run_of_text run)
    × ((image : List (ℕ × ℕ)) × GivesImage hex bytes image × IsTrueOfBoard image run_file fault)
IsTrueRefusal hex bytes run _ = ⊥
