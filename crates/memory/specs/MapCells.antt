-- Cells of the memory map that a session changes, in RAM and in the ROM: no bus does this.
-- To be believed by callers of this crate: the headline does not rest on it.
use Rattle.std.specs.Prelude.{ℕ, ◌||◌, if◌then◌else◌, nat_le, nat_lt, slice_set}
use Rattle.memory.specs.Map.{MemoryMap}

-- another byte in a cell, also in the ROM; an address that is neither RAM's nor the ROM's has none, and nothing changes
unfoldable pub with_cell : MemoryMap → ℕ → ℕ → MemoryMap
with_cell memory address byte =
    if nat_lt address memory.ram_size || nat_le 0xF0000 address
    then record memory { cells = slice_set memory.cells address byte } else memory
