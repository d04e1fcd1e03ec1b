-- How a memory lays its bytes out: those of RAM and those of the ROM are kept, and no others.
-- To be believed by callers of this crate: the headline does not rest on it.
use Rattle.std.specs.Prelude.{ℕ, ◌-◌, List, length, map, slice_index}
use Rattle.std.specs.List.{range_with_len}
use Rattle.memory.specs.declared.region.Region.{Region}
use Rattle.memory.specs.declared.region.Region.TheVariants.{Ram, Text, Rom, Nothing}
use Rattle.memory.specs.Regions.{region_of}
use Rattle.memory.specs.Map.{address_count, MemoryMap}

-- the cell of an address, by the bytes of RAM and of the ROM; between them nothing changes what it was at power-on
abbrev pub cell_in : Region → List ℕ → List ℕ → ℕ → ℕ
cell_in Ram ram rom address = slice_index ram address
cell_in Text ram rom address = 0
cell_in Rom ram rom address = slice_index rom (address - 0xF0000)
cell_in Nothing ram rom address = 0xFF

abbrev pub cell_of : List ℕ → List ℕ → ℕ → ℕ
cell_of ram rom address = cell_in (region_of (length ram) address) ram rom address

-- the whole map
unfoldable pub map_of : List ℕ → List ℕ → MemoryMap
map_of ram rom = record {
  ram_size = length ram;
  cells = map (cell_of ram rom) (range_with_len 0 address_count);
}
