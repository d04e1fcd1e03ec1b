use Rattle.std.proofs.Common.{◌≡◌, ◌+◌, drop}
use Rattle.loader.specs.Records.{are_loadable, placed_bytes, with_bytes}
use Rattle.loader.proofs.hex_reader.put_bytes.Given as goal

-- what is left to put completes what was to be put
abbrev pub invariant-loop-byte : goal.invariant-loop-byte
invariant-loop-byte l = record {
  at : l.at ≡ l.offset + l.byte-index;
  loadable : are_loadable (placed_bytes l.extension l.at (drop l.byte-index l.bytes)) ≡ are_loadable (placed_bytes l.extension l.offset l.bytes);
  image : with_bytes l.image (placed_bytes l.extension l.at (drop l.byte-index l.bytes))
      ≡ with_bytes l.initial.image (placed_bytes l.extension l.offset l.bytes);
}
