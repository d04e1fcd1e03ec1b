-- What two numbers bring to the parallel port's pins.
-- To be believed by callers of this crate: the headline does not rest on it.
use Rattle.std.specs.Prelude.{ℕ, Some}
use Rattle.ppi8255.specs.declared.ppi.Inputs.{Inputs}
use Rattle.pit8253.specs.PitNumbers.{line_of}

-- an empty latch reads as 0, so 0 stands for it
abbrev pub inputs_of : ℕ → ℕ → Inputs
inputs_of latch out2 = record { latch = Some latch; out2 = line_of out2 }
