-- The cells of memory whose bytes a session changes: those of RAM, of text memory and of the ROM.
-- To be believed by callers of this crate: the headline does not rest on it.
use Rattle.std.specs.Prelude.{ℕ, ◌-◌, ◌||◌, Bool, if◌then◌else◌, nat_le, nat_lt}
use Rattle.mda_text.specs.Mda as mda
use Rattle.memory.specs.MapCells as map
use Rattle.memory.specs.Regions.{is_text_address}
use Rattle.wiring.specs.Chips.{ChipsState}

-- an address has a cell in RAM, in text memory and in the ROM
unfoldable pub has_cell : ChipsState → ℕ → Bool
has_cell s address = is_text_address address || (nat_lt address s.memory.ram_size || nat_le 0xF0000 address)

-- another byte in the cell of an address, also in the ROM: no bus does this
unfoldable pub with_cell : ChipsState → ℕ → ℕ → ChipsState
with_cell s address byte =
    if is_text_address address then record s { mda = mda.with_text_byte s.mda (address - 0xB0000) byte }
    else record s { memory = map.with_cell s.memory address byte }
