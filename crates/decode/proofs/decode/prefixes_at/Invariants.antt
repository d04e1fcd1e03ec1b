use Rattle.std.proofs.Common.{◌≡◌, ◌-◌, ◌++◌, length, drop}
use Rattle.decode.specs.Decoding.{prefixes_at}
use Rattle.decode.proofs.decode.prefixes_at.Given as goal

-- what has been read, and what is read from here on
abbrev pub invariant-loop-byte : goal.invariant-loop-byte
invariant-loop-byte l = record {
  count : length l.prefixes.items ≡ l.byte-index;
  so_far : l.prefixes.items ++ prefixes_at (7 - l.byte-index) (drop l.byte-index l.code) ≡ prefixes_at 7 l.code;
}
