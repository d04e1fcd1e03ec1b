-- What the laws of the families ask of memory and of the registers.
-- Laws: claims above the definitions, each proved as the contract of a function.
use Rattle.std.specs.Prelude.{ℕ, ◌≡◌, ◌<◌, true}
use Rattle.board_types.specs.Address.{physical, offset_after}
use Rattle.isa.specs.declared.register.WordRegister.{WordRegister}
use Rattle.bus.specs.Bus.{BusMeaning}
use Rattle.execute_machine.specs.RegisterFile.{Registers}
use Rattle.execute_machine.specs.Registers.{word_register}

-- both addresses of the word at a segment and an offset take bytes
pub record TakesWord {S : Type 0} (bus : BusMeaning S) (s : S) (segment offset : ℕ) : Type 0 where
  pub low : bus.is_writable s (physical segment offset) ≡ true
  pub high : bus.is_writable s (physical segment (offset_after offset 1)) ≡ true

-- memory holds bytes: each address reads as a number below 256
abbrev pub HoldsBytes : {S : Type 0} → BusMeaning S → S → Type 0
HoldsBytes bus s = (address : ℕ) → bus.byte_at s address < 256

-- the registers hold words
abbrev pub HoldsWords : Registers → Type 0
HoldsWords r = (w : WordRegister) → word_register r w < 65536
