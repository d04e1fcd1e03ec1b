-- What answers at each address (IBM PC Technical Reference, "System Memory Map";
-- that nothing answers elsewhere is this board's choice).
-- To be believed: the headline rests on it.
use Rattle.std.specs.Prelude.{ℕ, Bool, ◌&&◌, if◌then◌else◌, nat_le, nat_lt, IsTrue}
use Rattle.memory.specs.declared.region.Region.{Region}
use Rattle.memory.specs.declared.region.Region.TheVariants.{Ram, Text, Rom, Nothing}

-- the text adapter's 4,096 bytes
abbrev pub is_text_address : ℕ → Bool
is_text_address address = nat_le 0xB0000 address && nat_lt address 0xB1000

abbrev pub IsTextAddress : ℕ → Type 0
IsTextAddress address = IsTrue (is_text_address address)

abbrev pub region_of : ℕ → ℕ → Region
region_of ram_size address =
    if nat_lt address ram_size then Ram
    else (if is_text_address address then Text else (if nat_le 0xF0000 address then Rom else Nothing))
