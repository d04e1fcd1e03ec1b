-- What the adapter holds beside its text memory and its marks.
-- To be believed by callers of this crate: the headline does not rest on it.
use Rattle.mda_text.specs.declared.registers.Registers.{Registers}
use Rattle.mda_text.specs.Mda.{MdaState}

abbrev pub registers_of : MdaState → Registers
registers_of m = record { index = m.index; start = m.start; cursor = m.cursor; video = m.video; raster = m.raster }
