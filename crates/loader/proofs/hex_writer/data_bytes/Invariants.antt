use Rattle.std.proofs.Common.{◌≡◌, ◌+◌, ◌/◌, ◌%◌, ◌∷◌, length, take}
use Rattle.arrayvec.specs.ArrayVec.{array_vec_len}
use Rattle.loader.proofs.hex_writer.data_bytes.Given as goal

abbrev pub invariant-loop-byte : goal.invariant-loop-byte
invariant-loop-byte l = record {
  size : array_vec_len l.bytes ≡ l.byte-index + 4;
  items : l.bytes.items ≡ length l.row ∷ l.address % 65536 / 256 ∷ l.address % 256 ∷ 0 ∷ take l.byte-index l.row;
}
