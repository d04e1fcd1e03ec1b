-- A parallel port as plain numbers, for callers that know no enums: what each number stands for. All numbers stand for
-- something, so any bytes are some parallel port.
-- To be believed by callers of this crate: the headline does not rest on it.
use Rattle.std.specs.Prelude.{ℕ, ◌==◌, if◌then◌else◌}
use Rattle.ppi8255.specs.declared.ppi.Direction.{Direction}
use Rattle.ppi8255.specs.declared.ppi.Direction.TheVariants.{Input, Output}
use Rattle.ppi8255.specs.declared.image.PpiImage.{PpiImage}
use Rattle.ppi8255.specs.Ppi.{PpiState}

-- a direction by its number, as in a mode word: 0 is an output, and any other number an input
abbrev pub direction_by : ℕ → Direction
direction_by n = if n == 0 then Output else Input

unfoldable pub ppi_of : PpiImage → PpiState
ppi_of i = record {
  sw1 = i.sw1;
  sw2 = i.sw2;
  a = direction_by i.a;
  b = direction_by i.b;
  c_upper = direction_by i.c_upper;
  c_lower = direction_by i.c_lower;
  a_latch = i.a_latch;
  b_latch = i.b_latch;
  c_latch = i.c_latch;
}
