-- A bus over memory that takes a byte at every address, and ports that keep nothing.
-- For proofs alone: no public contract rests on it.
use Rattle.std.specs.Prelude.{ℕ, ◌+◌, ◌*◌, ◌%◌, List, length, nat_lt, slice_index, slice_set}
use Rattle.bus.specs.Bus.{BusMeaning}

-- what a port gives, whatever was written to it
abbrev pub port_byte : ℕ → ℕ
port_byte port = (7 * port + 3) % 256

-- each cell is a byte, and no port changes one
abbrev pub ram_bus : BusMeaning (List ℕ)
ram_bus = record {
  byte_at = slice_index;
  after_write = slice_set;
  is_writable = λ cells address. nat_lt address (length cells);
  input = λ cells port. port_byte port;
  after_input = λ cells port. cells;
  after_output = λ cells port byte. cells;
}
