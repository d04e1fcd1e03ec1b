-- The memory map: one byte for each of 1,048,576 addresses. What stands at the text adapter's addresses belongs to the
-- adapter, and isn't defined here.
-- To be believed: the headline rests on it.
use Rattle.std.specs.Prelude.{ℕ, ◌≡◌, ◌%◌, ◌<◌, ◌≤◌, ◌&&◌, Bool, true, false, if◌then◌else◌, nat_lt}
use Rattle.std.specs.Prelude.{List, map, length, slice_index, slice_set, unwrap_or, Option, IsSome}
use Rattle.std.specs.List.{range_with_len}
use Rattle.board_types.specs.Image.{image_byte}
use Rattle.memory.specs.declared.region.Region.{Region}
use Rattle.memory.specs.declared.region.Region.TheVariants.{Ram, Text, Rom, Nothing}
use Rattle.memory.specs.declared.map.MemoryFault.{MemoryFault}
use Rattle.memory.specs.declared.map.MemoryFault.TheVariants.{RamSize, OutOfMemory}
use Rattle.memory.specs.Regions.{region_of}

unfoldable pub address_count : ℕ
address_count = 1048576

-- the bytes of the map, and how many of them from 0 on are RAM
pub record MemoryMap : Type 0 where
  pub ram_size : ℕ
  pub cells : List ℕ

-- the byte that is read: FFh if nothing answers
abbrev pub byte_answered : Region → ℕ → ℕ
byte_answered Nothing cell = 0xFF
byte_answered _ cell = cell

unfoldable pub byte_at : MemoryMap → ℕ → ℕ
byte_at memory address = byte_answered (region_of memory.ram_size address) (slice_index memory.cells address)

-- RAM alone can be written
abbrev pub is_ram : Region → Bool
is_ram Ram = true
is_ram _ = false

unfoldable pub is_writable : MemoryMap → ℕ → Bool
is_writable memory address = is_ram (region_of memory.ram_size address) && nat_lt address (length memory.cells)

-- a write changes a byte of RAM, and no other
unfoldable pub with_byte : MemoryMap → ℕ → ℕ → MemoryMap
with_byte memory address byte =
    if is_writable memory address then record memory { cells = slice_set memory.cells address byte } else memory

-- the map is whole: a byte for each address, and no RAM from A0000h on
pub record IsMap (memory : MemoryMap) : Type 0 where
  pub bytes : length memory.cells ≡ 1048576
  pub ram : memory.ram_size ≤ 0xA0000

-- the byte of an address at power-on: RAM and text memory are 0 and the ROM FFh, but for the image's bytes (this
-- board's choice)
abbrev pub byte_of_region : Region → Option ℕ → ℕ
byte_of_region Ram given = unwrap_or given 0
byte_of_region Text given = 0
byte_of_region Rom given = unwrap_or given 0xFF
byte_of_region Nothing given = 0xFF

abbrev pub power_on_byte : List (ℕ × ℕ) → ℕ → ℕ → ℕ
power_on_byte image ram_size address = byte_of_region (region_of ram_size address) (image_byte image address)

unfoldable pub power_on : List (ℕ × ℕ) → ℕ → MemoryMap
power_on image ram_size = record {
  ram_size = ram_size;
  cells = map (power_on_byte image ram_size) (range_with_len 0 address_count);
}

-- a size that the board can have, in units of 1,024 bytes
pub record IsRamSize (ram_kb : ℕ) : Type 0 where
  pub least : 16 ≤ ram_kb
  pub most : ram_kb ≤ 640
  pub whole : ram_kb % 16 ≡ 0

-- the image has no byte between the RAM's end and A0000h
abbrev pub FitsRam : List (ℕ × ℕ) → ℕ → Type 0
FitsRam image ram_size = (address : ℕ) → ram_size ≤ address → address < 0xA0000 → ¬ (IsSome (image_byte image address))

abbrev pub memory_fault_number : MemoryFault → ℕ
memory_fault_number RamSize = 36
memory_fault_number OutOfMemory = 41
