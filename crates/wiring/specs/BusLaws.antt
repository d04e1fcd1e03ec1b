-- What the bus keeps: the bytes of memory, text memory among them.
-- For proofs alone: no public contract rests on it.
use Rattle.std.specs.Prelude.{◌≡◌, ◌≢◌, ℕ, ◌-◌, true, false, if◌then◌else◌, nat_lt, List, length, slice_index}
use Rattle.std.proofs.Common.{refl, ap, ◌∙◌, arith}
use Rattle.std.proofs.lemmas.Grind.{common_steps}
use Rattle.memory.specs.Regions.{is_text_address}
use Rattle.memory.specs.Map.{MemoryMap}
use Rattle.memory.specs.Map as map
use Rattle.memory.proofs.Writes.{write_changes}
use Rattle.bus.specs.BusPromises.{IsBus}
use Rattle.mda_text.specs.Mda as mda
use Rattle.mda_text.specs.Mda.{MdaState}
use Rattle.mda_text.proofs.ScreenLaws.{is_memory}
use Rattle.wiring.specs.declared.port.Port.{Port}
use Rattle.wiring.specs.declared.port.Port.TheVariants.{Controller, Timer, Parallel, Adapter, Nothing}
use Rattle.wiring.specs.Chips.{ChipsState}
use Rattle.wiring.specs.Ports.{byte_at, with_byte, is_writable, port_at, after_port_read}
use Rattle.wiring.specs.Ports.{after_port_write, after_input, after_output, chips_bus}
use Rattle.wiring.specs.Wires.{after_settling}

-- a write doesn't change which addresses take bytes
kept_writable : (memory : MemoryMap) (address byte other : ℕ)
    → map.is_writable (map.with_byte memory address byte) other ≡ map.is_writable memory other
unfolding map.is_writable map.with_byte
kept_writable memory address byte other = grind (arith, common_steps)

written_back : (s : ChipsState) (address byte : ℕ) → is_writable s address ≡ true
    → byte_at (with_byte s address byte) address ≡ byte
unfolding byte_at with_byte is_writable mda.text_byte mda.with_text_byte
written_back s address byte writable =
    let in_map = write_changes s.memory address byte in grind (arith, common_steps, in_map.0)

pub nothing_written : (s : ChipsState) (address byte : ℕ) → is_writable s address ≡ false → with_byte s address byte ≡ s
unfolding with_byte is_writable mda.with_text_byte
nothing_written s address byte kept =
    let in_map = write_changes s.memory address byte in grind (arith, common_steps, in_map.1)

others_stay : (s : ChipsState) (address byte other : ℕ) → other ≢ address
    → byte_at (with_byte s address byte) other ≡ byte_at s other
unfolding byte_at with_byte mda.text_byte mda.with_text_byte
others_stay s address byte other differ =
    let in_map = write_changes s.memory address byte in grind (arith, common_steps, in_map.2 other differ)

writable_stays : (s : ChipsState) (address byte other : ℕ)
    → is_writable (with_byte s address byte) other ≡ is_writable s other
unfolding with_byte is_writable mda.with_text_byte
writable_stays s address byte other = grind (arith, common_steps, kept_writable s.memory address byte other)

-- two states have the same bytes in memory and in text memory
pub record SameBytes (s t : ChipsState) : Type 0 where
  pub memory : s.memory ≡ t.memory
  pub text : s.mda.bytes ≡ t.mda.bytes

same_then : (s t u : ChipsState) → SameBytes s t → SameBytes t u → SameBytes s u
same_then s t u first second = record { memory = first.memory ∙ second.memory; text = first.text ∙ second.text }

pub same_byte : (s t : ChipsState) (address : ℕ) → SameBytes s t → byte_at s address ≡ byte_at t address
unfolding byte_at mda.text_byte
same_byte s t address same =
    ap (λ (bytes : List ℕ). if is_text_address address then slice_index bytes (address - 0xB0000)
    else map.byte_at s.memory address) same.text
    ∙ ap (λ memory. if is_text_address address then slice_index t.mda.bytes (address - 0xB0000)
    else map.byte_at memory address) same.memory

pub same_writable : (s t : ChipsState) (address : ℕ) → SameBytes s t → is_writable s address ≡ is_writable t address
unfolding is_writable
same_writable s t address same =
    ap (λ (bytes : List ℕ). if is_text_address address then nat_lt (address - 0xB0000) (length bytes)
    else map.is_writable s.memory address) same.text
    ∙ ap (λ memory. if is_text_address address then nat_lt (address - 0xB0000) (length t.mda.bytes)
    else map.is_writable memory address) same.memory

pub bytes_after_settling : (s : ChipsState) → SameBytes (after_settling s) s
unfolding after_settling
bytes_after_settling s = record { memory = refl; text = refl }

bytes_after_read : (s : ChipsState) (port : Port) → SameBytes (after_port_read s port) s
bytes_after_read s (Controller a0) = record { memory = refl; text = refl }
bytes_after_read s (Timer n) = record { memory = refl; text = refl }
bytes_after_read s (Parallel n) = record { memory = refl; text = refl }
bytes_after_read s (Adapter n) = record { memory = refl; text = refl }
bytes_after_read s Nothing = record { memory = refl; text = refl }

bytes_after_write : (s : ChipsState) (port : Port) (byte : ℕ) → SameBytes (after_port_write s port byte) s
bytes_after_write s (Controller a0) byte = record { memory = refl; text = refl }
bytes_after_write s (Timer n) byte = record { memory = refl; text = refl }
bytes_after_write s (Parallel n) byte = record { memory = refl; text = refl }
bytes_after_write s (Adapter n) byte = record { memory = refl; text = (is_memory s.mda).port_writes n byte }
bytes_after_write s Nothing byte = record { memory = refl; text = refl }

pub bytes_after_input : (s : ChipsState) (port : ℕ) → SameBytes (after_input s port) s
unfolding after_input
bytes_after_input s port =
    same_then _ _ s (bytes_after_settling (after_port_read s (port_at port))) (bytes_after_read s (port_at port))

pub bytes_after_output : (s : ChipsState) (port byte : ℕ) → SameBytes (after_output s port byte) s
unfolding after_output
bytes_after_output s port byte =
    same_then _ _ s (bytes_after_settling (after_port_write s (port_at port) byte))
    (bytes_after_write s (port_at port) byte)

pub chips_keep_bytes : IsBus chips_bus
chips_keep_bytes = record {
  written = written_back;
  refused = λ s address byte is. ap (λ t. byte_at t address) (nothing_written s address byte is);
  others = others_stay;
  fixed = writable_stays;
  input_fixed = λ s port other. same_writable (after_input s port) s other (bytes_after_input s port);
  output_fixed = λ s port byte other. same_writable (after_output s port byte) s other (bytes_after_output s port byte);
  input_keeps = λ s port address. same_byte (after_input s port) s address (bytes_after_input s port);
  output_keeps = λ s port byte address. same_byte (after_output s port byte) s address (bytes_after_output s port byte);
}
