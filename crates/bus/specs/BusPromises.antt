-- What each bus proves of itself, for the laws that hold over any bus.
-- For proofs alone: no public contract rests on it.
use Rattle.std.specs.Prelude.{ℕ, ◌≡◌, ◌≢◌, true, false}
use Rattle.bus.specs.Bus.{BusMeaning}

-- what a bus keeps: a byte that is written reads back if its address takes bytes, and is ignored if it doesn't; a write
-- leaves every other byte as it is; which addresses take bytes never changes; and no port changes memory
pub record IsBus {S : Type 0} (bus : BusMeaning S) : Type 0 where
  pub written : (s : S) (address byte : ℕ) → bus.is_writable s address ≡ true
      → bus.byte_at (bus.after_write s address byte) address ≡ byte
  pub refused : (s : S) (address byte : ℕ) → bus.is_writable s address ≡ false
      → bus.byte_at (bus.after_write s address byte) address ≡ bus.byte_at s address
  pub others : (s : S) (address byte other : ℕ) → other ≢ address
      → bus.byte_at (bus.after_write s address byte) other ≡ bus.byte_at s other
  pub fixed : (s : S) (address byte other : ℕ)
      → bus.is_writable (bus.after_write s address byte) other ≡ bus.is_writable s other
  pub input_fixed : (s : S) (port other : ℕ) → bus.is_writable (bus.after_input s port) other ≡ bus.is_writable s other
  pub output_fixed : (s : S) (port byte other : ℕ)
      → bus.is_writable (bus.after_output s port byte) other ≡ bus.is_writable s other
  pub input_keeps : (s : S) (port address : ℕ) → bus.byte_at (bus.after_input s port) address ≡ bus.byte_at s address
  pub output_keeps : (s : S) (port byte address : ℕ)
      → bus.byte_at (bus.after_output s port byte) address ≡ bus.byte_at s address
