use Rattle.std.proofs.Common.{◌≡◌, ◌+◌, ◌-◌, ◌++◌}
use Rattle.arrayvec.specs.ArrayVec.{array_vec_len}
use Rattle.loader.specs.HexText.{bytes_from, longest_run}
use Rattle.loader.proofs.hex_writer.row_at.Given as goal

-- the run goes on after the bytes so far
abbrev pub invariant-loop-count : goal.invariant-loop-count
invariant-loop-count l = record {
  size : array_vec_len l.row ≡ l.count;
  rest : l.row.items ++ longest_run (bytes_from l.image (l.start + l.count)) (l.start + l.count) (16 - l.count)
      ≡ longest_run (bytes_from l.image l.start) l.start 16;
}
