-- What a read finds, at power-on and after a write.
use Rattle.std.proofs.Common.{◌≡◌, ◌≤◌, ◌∙◌, ℕ, List, refl, arith}
use Rattle.std.proofs.lemmas.Grind.{common_steps}
use Rattle.std.proofs.lemmas.List.FromFn.{get_or-map-range_with_len, length-map-range_with_len}
use Rattle.memory.specs.Map.{IsMap, address_count, byte_at, is_writable, with_byte, power_on, power_on_byte}
use Rattle.memory.specs.MemoryLaws.{PowerOnBytes, RamIsWritable, WriteChangesRamAlone}

pub write_changes : WriteChangesRamAlone
unfolding byte_at with_byte is_writable
write_changes memory address byte =
    (λ writable. grind (arith, common_steps), λ kept. grind (arith, common_steps), λ other ne. grind (arith, common_steps), grind (arith, common_steps))

pub ram_written : RamIsWritable
unfolding is_writable
ram_written memory address whole ram = grind (arith, common_steps, whole.bytes, whole.ram)

pub on_at_power_on : PowerOnBytes
unfolding byte_at power_on
on_at_power_on image ram_size address within =
    rw (get_or-map-range_with_len (power_on_byte image ram_size) 0 address_count address address 0 within (omega arith)) (grind (arith, common_steps))

count_of_addresses : address_count ≡ 1048576
unfolding address_count
count_of_addresses = refl

-- at power-on the map is whole
pub whole_at_power_on : (image : List (ℕ × ℕ)) (ram_size : ℕ) → ram_size ≤ 0xA0000 → IsMap (power_on image ram_size)
unfolding power_on
whole_at_power_on image ram_size least = record {
  bytes = length-map-range_with_len (power_on_byte image ram_size) 0 address_count ∙ count_of_addresses;
  ram = least;
}
