-- A board that is ready to run, as the program's functions pass it on.
-- For proofs alone: no public contract rests on it.
use Rattle.std.specs.Prelude.{ℕ, ◌≡◌, List, []}
use Rattle.board_plain.specs.Board.{BoardState}
use Rattle.board_plain.specs.Plain.{power_on}
use Rattle.loader.specs.declared.run_file.RunFile.{RunFile}
use Rattle.pcboard_texts.specs.ImageReport.{config_of}

-- the board of an image at power-on, as the run file says: no change of the speaker is past, and the trail is empty
pub record IsAtPowerOn (image : List (ℕ × ℕ)) (run : RunFile) (board : BoardState) : Type 0 where
  pub plain : board.plain ≡ power_on image (config_of run) run.keys
  pub changes : board.changes ≡ []
  pub trail : board.trail ≡ []
