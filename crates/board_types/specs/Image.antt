-- The bytes of an image: a finite map from addresses, kept in their order.
-- To be believed: the headline rests on it.
use Rattle.std.specs.Prelude.{ℕ, ◌≤◌, ◌<◌, ◌⊎◌, List, All, Option}
use Rattle.std.specs.List.Sorted.{IsStrictlySortedBy}
use Rattle.std.specs.Map.{keys_of, lookup, values_of}
use Rattle.std.specs.Ordering.{nat_cmp}
use Rattle.std.specs.BTreeMap.{is_at}

-- where a program's bytes may go: below text memory's half of the map, and in the ROM
-- (IBM PC Technical Reference, "System Memory Map")
abbrev pub IsLoadable : ℕ → Type 0
IsLoadable address = (address < 0xA0000) ⊎ ((0xF0000 ≤ address) × (address < 0x100000))

-- the byte at an address, if there is one
abbrev pub image_byte : List (ℕ × ℕ) → ℕ → Option ℕ
image_byte image address = lookup (is_at (nat_cmp address)) image

-- the addresses are loadable, and each has one entry, a byte
pub record IsImage (image : List (ℕ × ℕ)) : Type 0 where
  pub loadable : All IsLoadable (keys_of image)
  pub rising : IsStrictlySortedBy nat_cmp (keys_of image)
  pub bytes : All (λ byte. byte < 256) (values_of image)
