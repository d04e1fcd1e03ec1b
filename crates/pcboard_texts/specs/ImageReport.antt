-- What a run reports of an image: the text of the plain board after the budget's clocks.
-- To be believed: the headline rests on it.
use Rattle.std.specs.Prelude.{ℕ, ◌*◌, List}
use Rattle.memory.specs.Map.{IsRamSize, FitsRam}
use Rattle.board_plain.specs.declared.config.Config.{Config}
use Rattle.board_plain.specs.Plain.{Plain, board_after, changes_in, power_on}
use Rattle.loader.specs.declared.run_file.RunFile.{RunFile}
use Rattle.board_lines.specs.Text.{report_text}

-- the board that a run file asks for
abbrev pub config_of : RunFile → Config
config_of run =
    record { ram_kb = run.ram_kb; sw1 = run.sw1; sw2 = run.sw2; timer = run.timer; clocks = run.clocks }

-- the plain board after the clocks of the run file's budget
abbrev pub plain_of : List (ℕ × ℕ) → RunFile → Plain
plain_of image run = board_after image (config_of run) run.keys run.budget

-- the text of a run's report
abbrev pub report_of : List (ℕ × ℕ) → RunFile → List ℕ
report_of image run = report_text (plain_of image run) (changes_in (power_on image (config_of run) run.keys) run.budget)

-- the board can have this much RAM, and the image keeps within it
abbrev pub FitsBoard : List (ℕ × ℕ) → RunFile → Type 0
FitsBoard image run = IsRamSize run.ram_kb × FitsRam image (1024 * run.ram_kb)
