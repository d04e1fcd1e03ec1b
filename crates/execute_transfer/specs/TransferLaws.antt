-- The laws of data transfer, and of the registers that it fills.
-- Laws: claims above the definitions, each proved as the contract of a function.
use Rattle.std.specs.Prelude.{ℕ, ◌≡◌, ◌<◌, ◌+◌, ◌*◌, ◌/◌, ◌%◌, nat_lt, true, if◌then◌else◌}
use Rattle.board_types.specs.Address.{physical, offset_after}
use Rattle.isa.specs.declared.operation.Transfer.TheVariants.{Xchg, Push, Pop}
use Rattle.isa.specs.declared.register.ByteRegister.{ByteRegister}
use Rattle.isa.specs.declared.register.WordRegister.{WordRegister}
use Rattle.isa.specs.declared.register.WordRegister.TheVariants.{Sp}
use Rattle.isa.specs.declared.form.Instr.{Instr}
use Rattle.isa.specs.RegisterNumbers.{byte_register_number, word_register_of}
use Rattle.bus.specs.Bus.{BusMeaning}
use Rattle.execute_machine.specs.RegisterFile.{Registers}
use Rattle.execute_machine.specs.Registers.{byte_register, with_byte_register, word_register, with_word_register}
use Rattle.execute_machine.specs.declared.location.OperandLocation.{OperandLocation}
use Rattle.execute_machine.specs.declared.location.OperandLocation.TheVariants.{Byte, Word, ByteAt, WordAt}
use Rattle.execute_machine.specs.Locations.{Machine, machine, with_value_at}
use Rattle.execute_machine.specs.Memory.{HoldsBytes, HoldsWords, TakesWord}
use Rattle.execute_machine.specs.Stack.{top_word}
use Rattle.execute_transfer.specs.TransferMeaning.{after_transfer, first_place, pushed_operand, second_place}

-- If the stack takes bytes, a POP after a PUSH puts what was pushed at its own operand, and SP and all other registers
-- are as before the PUSH.
abbrev pub PopGivesBack : {S : Type 0} → BusMeaning S → Type 0
PopGivesBack {S} bus =
    (m : Machine S) (i j : Instr) → m.registers.sp < 65536
    → TakesWord bus m.bus m.registers.ss (offset_after m.registers.sp 65534)
    → let pushed = after_transfer bus m Push i in
    after_transfer bus pushed Pop j
    ≡ with_value_at bus (machine m.registers pushed.bus) (first_place m.registers j)
    (pushed_operand bus m (first_place m.registers i))

-- if the stack takes bytes, PUSH SP stores SP as it lowered it
abbrev pub PushSpStoresTheLowered : {S : Type 0} → BusMeaning S → Type 0
PushSpStoresTheLowered {S} bus =
    (m : Machine S) (i : Instr) → first_place m.registers i ≡ Word Sp
    → let lowered = offset_after m.registers.sp 65534 in
    TakesWord bus m.bus m.registers.ss lowered
    → let pushed = after_transfer bus m Push i in
    (pushed.registers.sp ≡ lowered) × (top_word bus pushed ≡ lowered)

-- two byte registers or two word registers
abbrev pub AreRegisters : OperandLocation → OperandLocation → Type 0
AreRegisters (Byte _) (Byte _) = Unit {0}
AreRegisters (Word _) (Word _) = Unit {0}
AreRegisters _ _ = ⊥

-- XCHG of two registers, made twice, leaves all as it was
abbrev pub RegistersExchangeBack : {S : Type 0} → BusMeaning S → Type 0
RegistersExchangeBack {S} bus =
    (m : Machine S) (i : Instr) → HoldsWords m.registers
    → AreRegisters (first_place m.registers i) (second_place m.registers i)
    → after_transfer bus (after_transfer bus m Xchg i) Xchg i ≡ m

-- memory that takes bytes, and a register of its width
abbrev pub IsMemoryAndRegister : {S : Type 0} → BusMeaning S → S → OperandLocation → OperandLocation → Type 0
IsMemoryAndRegister bus s (ByteAt segment offset) (Byte _) = bus.is_writable s (physical segment offset) ≡ true
IsMemoryAndRegister bus s (WordAt segment offset) (Word _) = (offset < 65536) × TakesWord bus s segment offset
IsMemoryAndRegister bus s _ _ = ⊥

-- the registers are the same before and after, and so is the byte at each address
pub record IsAsBefore {S : Type 0} (bus : BusMeaning S) (before after : Machine S) : Type 0 where
  pub registers : after.registers ≡ before.registers
  pub bytes : (address : ℕ) → bus.byte_at after.bus address ≡ bus.byte_at before.bus address

-- XCHG with memory, whose address the exchange doesn't change, made twice, leaves all as it was
abbrev pub MemoryExchangesBack : {S : Type 0} → BusMeaning S → Type 0
MemoryExchangesBack {S} bus =
    (m : Machine S) (i : Instr) → HoldsWords m.registers → HoldsBytes bus m.bus
    → IsMemoryAndRegister bus m.bus (first_place m.registers i) (second_place m.registers i)
    → let exchanged = after_transfer bus m Xchg i in
    first_place exchanged.registers i ≡ first_place m.registers i
    → IsAsBefore bus m (after_transfer bus exchanged Xchg i)

-- the word register that holds a byte register: byte registers 0 to 3 are the low halves of word registers 0 to 3, and
-- 4 to 7 their high halves
abbrev pub holder : ByteRegister → WordRegister
holder b = word_register_of (byte_register_number b % 4)

abbrev pub half_of : ByteRegister → ℕ → ℕ
half_of b word = if nat_lt (byte_register_number b) 4 then word % 256 else word / 256

abbrev pub with_half : ByteRegister → ℕ → ℕ → ℕ
with_half b word byte = if nat_lt (byte_register_number b) 4 then word / 256 * 256 + byte else 256 * byte + word % 256

-- a byte register is that half of its word register, and writing it leaves the other half and all other registers as
-- they are
pub record ByteRegistersAreHalves : Type 0 where
  pub read : (r : Registers) (b : ByteRegister) → byte_register r b ≡ half_of b (word_register r (holder b))
  pub write : (r : Registers) (b : ByteRegister) (byte : ℕ)
      → with_byte_register r b byte ≡ with_word_register r (holder b) (with_half b (word_register r (holder b)) byte)

-- what is written to a register reads back
pub record RegistersReadBack : Type 0 where
  pub byte : (r : Registers) (b : ByteRegister) (byte : ℕ) → byte < 256
      → byte_register (with_byte_register r b byte) b ≡ byte
  pub word : (r : Registers) (w : WordRegister) (word : ℕ) → word_register (with_word_register r w word) w ≡ word
