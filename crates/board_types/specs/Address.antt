-- Addresses of the 8086 (8086 Family User's Manual, "Physical Address Generation").
-- To be believed: the headline rests on it.
use Rattle.std.specs.Prelude.{ℕ, ◌+◌, ◌*◌, ◌%◌, ◌^◌}

-- the address of an offset in a segment
abbrev pub physical : ℕ → ℕ → ℕ
physical segment offset = (16 * segment + offset) % 2 ^ 20

-- the offset `more` bytes further on, which wraps at 65,536
abbrev pub offset_after : ℕ → ℕ → ℕ
offset_after offset more = (offset + more) % 65536
