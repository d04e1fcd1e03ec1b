use Rattle.std.proofs.Common.{◌≡◌, ◌+◌, ◌*◌, ◌++◌, codes, drop}
use Rattle.arrayvec.specs.ArrayVec.{array_vec_len}
use Rattle.hex.specs.Hex.{encode_upper}
use Rattle.loader.proofs.hex_writer.push_record.Given as goal

abbrev pub invariant-loop-byte : goal.invariant-loop-byte
invariant-loop-byte l = record {
  size : array_vec_len l.text ≡ array_vec_len l.fn.text + 2 * l.byte-index + 1;
  items : l.text.items ++ encode_upper (drop l.byte-index l.bytes) ≡ l.fn.text.items ++ (codes ":" ++ encode_upper l.bytes);
}
