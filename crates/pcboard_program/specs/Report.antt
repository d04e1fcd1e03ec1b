-- What a run reports: the plain board of the image that the encoding table gives the source, after the
-- budget's clocks.
-- To be believed: the headline rests on it.
use Rattle.std.specs.Prelude.{ℕ, ◌≡◌, ◌<◌, ◌^◌, List}
use Rattle.std.specs.String.{string_bytes}
use Rattle.board_plain.specs.Plain.{byte_of, changes_in, clock_of, power_on, registers_of, screen_of, state_of}
use Rattle.assembler.specs.Gives.{Gives}
use Rattle.loader.specs.declared.run_file.RunFile.{RunFile}
use Rattle.pcboard_texts.specs.ImageReport.{config_of, plain_of, report_of}
use Rattle.pcboard_program.specs.declared.report.Report.{Report}

-- The report's board is the plain board of an image at the budget: its registers, its state, the byte at each
-- of the 1,048,576 addresses, its screen and the speaker's changes; and the text is the one of that board.
pub record ReportsImage (image : List (ℕ × ℕ)) (run : RunFile) (report : Report) : Type 0 where
  pub clock : clock_of report.board.plain ≡ run.budget
  pub plain : report.board.plain ≡ plain_of image run
  pub registers : registers_of report.board.plain ≡ registers_of (plain_of image run)
  pub state : state_of report.board.plain ≡ state_of (plain_of image run)
  pub bytes : (address : ℕ) → address < 2 ^ 20
      → byte_of report.board.plain address ≡ byte_of (plain_of image run) address
  pub screen : screen_of report.board.plain ≡ screen_of (plain_of image run)
  pub changes : report.board.changes ≡ changes_in (power_on image (config_of run) run.keys) run.budget
  pub text : string_bytes report.text ≡ report_of image run

-- the encoding table gives the source an image, and the report is of that image's board
pub record ReportsSource (source : List ℕ) (run : RunFile) (report : Report) : Type 0 where
  pub image : List (ℕ × ℕ)
  pub gives : Gives source image
  pub reports : ReportsImage image run report
