-- What the processor reaches over the bus: bytes of memory and ports. An instruction has a meaning over any bus, whose
-- state may be of any type S.
-- To be believed: the headline rests on it.
use Rattle.std.specs.Prelude.{ℕ, ◌+◌, ◌*◌, ◌/◌, ◌%◌, Bool}
use Rattle.board_types.specs.Address.{physical, offset_after}

pub record BusMeaning (S : Type 0) : Type 0 where
  -- the byte at an address; reading it changes nothing
  pub byte_at : S → ℕ → ℕ
  -- the state after a byte is written to an address, and whether the address takes one
  pub after_write : S → ℕ → ℕ → S
  pub is_writable : S → ℕ → Bool
  -- the byte that a port gives, and the state after it is read
  pub input : S → ℕ → ℕ
  pub after_input : S → ℕ → S
  -- the state after a byte is written to a port
  pub after_output : S → ℕ → ℕ → S

-- the word at a segment and an offset: its low byte stands there, and its high byte at the next offset, which wraps
-- (this board's choice)
unfoldable pub word_at : {S : Type 0} → BusMeaning S → S → ℕ → ℕ → ℕ
word_at bus s segment offset =
    bus.byte_at s (physical segment offset) + 256 * bus.byte_at s (physical segment (offset_after offset 1))

-- the state after a word is written, low byte first; its high byte goes to the next offset, which wraps (this board's
-- choice)
unfoldable pub with_word_at : {S : Type 0} → BusMeaning S → S → ℕ → ℕ → ℕ → S
with_word_at bus s segment offset word =
    bus.after_write (bus.after_write s (physical segment offset) (word % 256))
    (physical segment (offset_after offset 1)) (word / 256)
