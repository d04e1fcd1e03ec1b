-- The law of MOVS: what n iterations leave.
-- Laws: claims above the definitions, each proved as the contract of a function.
use Rattle.std.specs.Prelude.{ℕ, ◌≡◌, ◌≢◌, ◌+◌, ◌*◌, ◌-◌, ◌%◌, Bool, true, false}
use Rattle.board_types.specs.Address.{physical, offset_after}
use Rattle.board_types.specs.Iterate.{iterate}
use Rattle.isa.specs.declared.register.SegmentRegister.{SegmentRegister}
use Rattle.bus.specs.Bus.{BusMeaning}
use Rattle.execute_machine.specs.declared.width.Width.{Width}
use Rattle.execute_machine.specs.Registers.{segment_register}
use Rattle.execute_machine.specs.RegisterFile.{Registers}
use Rattle.execute_machine.specs.declared.location.OperandLocation.{OperandLocation}
use Rattle.execute_machine.specs.declared.location.OperandLocation.TheVariants.{ByteAt, WordAt}
use Rattle.execute_machine.specs.Locations.{Machine, value_at}
use Rattle.execute_machine.specs.Memory.{HoldsBytes, HoldsWords, TakesWord}
use Rattle.execute_strings.specs.Elements.{movs_of}
use Rattle.execute_strings.specs.StringMeaning.{after_iteration, element_at, element_size}

-- the machine after n iterations of MOVS
abbrev pub after_copies : {S : Type 0} → BusMeaning S → Machine S → Width → SegmentRegister → ℕ → Machine S
after_copies bus m width chosen n = iterate (λ t. after_iteration bus t (movs_of width) chosen) n m

-- the offset of element n of a string, the first one being element 0: n times its size above the first if DF is 0, and
-- else below it; offsets wrap at 65,536
abbrev pub element_offset : Bool → ℕ → ℕ → ℕ → ℕ
element_offset false first size n = (first + size * n) % 65536
element_offset true first size n = (first + 65536 * n - size * n) % 65536

-- element n of the source and of the destination that these registers begin
abbrev pub source_element : Registers → Width → SegmentRegister → ℕ → OperandLocation
source_element r width chosen n =
    element_at width (segment_register r chosen) (element_offset r.flags.direction r.si (element_size width) n)

abbrev pub destination_element : Registers → Width → ℕ → OperandLocation
destination_element r width n = element_at width r.es (element_offset r.flags.direction r.di (element_size width) n)

-- an element's addresses take bytes
abbrev pub TakesElement : {S : Type 0} → BusMeaning S → S → OperandLocation → Type 0
TakesElement bus s (ByteAt segment offset) = bus.is_writable s (physical segment offset) ≡ true
TakesElement bus s (WordAt segment offset) = TakesWord bus s segment offset
TakesElement bus s _ = ⊥

-- an address isn't one of an element's
abbrev pub IsOutside : ℕ → OperandLocation → Type 0
IsOutside address (ByteAt segment offset) = address ≢ physical segment offset
IsOutside address (WordAt segment offset) =
    (address ≢ physical segment offset) × (address ≢ physical segment (offset_after offset 1))
IsOutside address _ = Unit {0}

-- MOVS copies element after element, up or down. Iteration n puts element n of the source, as memory stands after the n
-- iterations before, at element n of the destination if that takes bytes, and changes no other byte. After n iterations
-- SI and DI stand at element n, CX is lower by n, modulo 65,536, and all other registers are as before.
pub record CopiesInOrder {S : Type 0} (bus : BusMeaning S) : Type 0 where
  pub element : (m : Machine S) (width : Width) (chosen : SegmentRegister) (n : ℕ)
      → HoldsWords m.registers → HoldsBytes bus m.bus
      → TakesElement bus m.bus (destination_element m.registers width n)
      → value_at bus (after_copies bus m width chosen (n + 1)) (destination_element m.registers width n)
      ≡ value_at bus (after_copies bus m width chosen n) (source_element m.registers width chosen n)
  pub others : (m : Machine S) (width : Width) (chosen : SegmentRegister) (n address : ℕ) → HoldsWords m.registers
      → IsOutside address (destination_element m.registers width n)
      → bus.byte_at (after_copies bus m width chosen (n + 1)).bus address
      ≡ bus.byte_at (after_copies bus m width chosen n).bus address
  pub registers : (m : Machine S) (width : Width) (chosen : SegmentRegister) (n : ℕ) → HoldsWords m.registers
      → (after_copies bus m width chosen n).registers ≡ record m.registers {
        si = element_offset m.registers.flags.direction m.registers.si (element_size width) n;
        di = element_offset m.registers.flags.direction m.registers.di (element_size width) n;
        cx = (m.registers.cx + 65536 * n - n) % 65536;
      }
