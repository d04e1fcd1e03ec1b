-- What holds of every memory map.
-- Laws: claims above the definitions, each proved as the contract of a function.
use Rattle.std.specs.Prelude.{ℕ, ◌≡◌, ◌≢◌, ◌<◌, true, false, List}
use Rattle.memory.specs.Map.{address_count, MemoryMap, byte_at, is_writable, with_byte, IsMap, power_on_byte, power_on}

-- a byte that is written to RAM reads back, a write elsewhere changes nothing, and a write leaves every other byte as
-- it is
abbrev pub WriteChangesRamAlone : Type 0
WriteChangesRamAlone =
    (memory : MemoryMap) (address byte : ℕ) →
    (is_writable memory address ≡ true → byte_at (with_byte memory address byte) address ≡ byte)
    × (is_writable memory address ≡ false → with_byte memory address byte ≡ memory)
    × ((other : ℕ) → other ≢ address → byte_at (with_byte memory address byte) other ≡ byte_at memory other)
    × ((with_byte memory address byte).ram_size ≡ memory.ram_size)

-- all RAM of a whole map can be written
abbrev pub RamIsWritable : Type 0
RamIsWritable =
    (memory : MemoryMap) (address : ℕ) → IsMap memory → address < memory.ram_size → is_writable memory address ≡ true

-- at power-on each address has the byte of its region
abbrev pub PowerOnBytes : Type 0
PowerOnBytes =
    (image : List (ℕ × ℕ)) (ram_size address : ℕ) → address < address_count →
    byte_at (power_on image ram_size) address ≡ power_on_byte image ram_size address
