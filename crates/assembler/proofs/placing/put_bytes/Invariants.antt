use Rattle.std.proofs.Common.{◌≡◌, drop}
use Rattle.board_types.specs.Image.{IsImage}
use Rattle.assembler.specs.Placement.{bytes_from}
use Rattle.assembler.specs.SecondPass.{with_entries}
use Rattle.assembler.proofs.placing.put_bytes.Given as goal

abbrev pub invariant-loop-byte : goal.invariant-loop-byte
invariant-loop-byte l = record {
  counted : l.at ≡ l.byte-index;
  put : with_entries l.image (bytes_from l.location l.at (drop l.byte-index l.bytes)) ≡ with_entries l.fn.image (bytes_from l.location 0 l.bytes);
  is_image : IsImage l.image;
}
