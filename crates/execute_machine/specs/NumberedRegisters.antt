-- The registers by their numbers, as they are kept (8086 Family User's Manual, "REG field encoding").
-- To be believed by callers of this crate: the headline does not rest on it.
use Rattle.std.specs.Prelude.{ℕ, List, slice_index}
use Rattle.execute_machine.specs.FlagState.{FlagState}
use Rattle.execute_machine.specs.RegisterFile.{Registers}

abbrev pub by_name : List ℕ → List ℕ → ℕ → FlagState → Registers
by_name words segments ip flags = record {
  ax = slice_index words 0;
  cx = slice_index words 1;
  dx = slice_index words 2;
  bx = slice_index words 3;
  sp = slice_index words 4;
  bp = slice_index words 5;
  si = slice_index words 6;
  di = slice_index words 7;
  es = slice_index segments 0;
  cs = slice_index segments 1;
  ss = slice_index segments 2;
  ds = slice_index segments 3;
  ip = ip;
  flags = flags;
}
