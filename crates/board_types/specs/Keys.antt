-- Key codes with their clocks (IBM PC Technical Reference, "Keyboard Scan Codes").
-- To be believed: the headline rests on it.
use Rattle.std.specs.Prelude.{ℕ, ◌≤◌, ◌-◌, Bool, ◌&&◌, ◌||◌, if◌then◌else◌, nat_le, nat_lt, IsTrue}
use Rattle.std.specs.Prelude.{List, length, All, AllPairs, Option, None, Some, unwrap_or, slice_get}
use Rattle.std.specs.Option.{option_map}
use Rattle.board_types.specs.declared.keys.StampedKey.{StampedKey}
use Rattle.board_types.specs.declared.keys.KeyFault.{KeyFault}
use Rattle.board_types.specs.declared.keys.KeyFault.TheVariants.{BadScan, StampsFall, Memory}

-- whether a code is a key's: a make code is 01h to 53h, and its break code 80h more
abbrev pub names_key : ℕ → Bool
names_key code = (nat_le 0x01 code && nat_le code 0x53) || (nat_le 0x81 code && nat_le code 0xD3)

-- the stamp of the last key, or 0
abbrev pub last_stamp : List StampedKey → ℕ
last_stamp keys = unwrap_or (option_map (λ (k : StampedKey). k.stamp) (slice_get keys (length keys - 1))) 0

-- every code is a key's, and the stamps don't fall
pub record IsInOrder (keys : List StampedKey) : Type 0 where
  pub codes : All (λ k. IsTrue (names_key k.code)) keys
  pub stamps : AllPairs (λ a b. a.stamp ≤ b.stamp) keys

-- why a code with a stamp isn't taken after these keys, or none if it is, want of memory aside
abbrev pub push_fault : List StampedKey → ℕ → ℕ → Option KeyFault
push_fault keys stamp code =
    if names_key code then (if nat_lt stamp (last_stamp keys) then Some StampsFall else None) else Some BadScan

abbrev pub key_fault_number : KeyFault → ℕ
key_fault_number BadScan = 33
key_fault_number StampsFall = 34
key_fault_number Memory = 37
