-- The beam goes forward up to the retrace, or back up to the raster's end.
use Rattle.std.proofs.Common.{arith}
use Rattle.mda_text.proofs.Raster.{turns_high, turns_low}
use Rattle.mda_text.proofs.mda.MdaTimed.until_change.Goals as goal

pub returns-then-raster-lt-RETRACE_START : goal.returns-then-raster-lt-RETRACE_START
returns-then-raster-lt-RETRACE_START c =
    turns_high _ _ (omega arith) (omega arith)

pub returns : goal.returns
returns c =
    turns_low _ _ (omega arith) (omega arith) (omega arith)
