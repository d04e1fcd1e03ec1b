-- What memory writes keep, an instruction that reaches memory alone keeps: each family shows it of its own operations
-- by these lemmas.
use Rattle.std.proofs.Common.{ℕ}
use Rattle.bus.specs.Bus.{BusMeaning, with_word_at}
use Rattle.execute_machine.specs.declared.location.OperandLocation.{OperandLocation}
use Rattle.execute_machine.specs.declared.location.OperandLocation.TheVariants.{Nothing, Byte, Word, Segment, ByteAt, WordAt, Number}
use Rattle.execute_machine.specs.Locations.{Machine, with_value_at}
use Rattle.execute_machine.specs.Stack.{after_push, after_pop, after_entry_pushes, after_vector, after_entry}

-- memory writes keep the fact
pub record Kept {S : Type 0} (bus : BusMeaning S) (P : S → Type 0) : Type 0 where
  pub write : (s : S) (address byte : ℕ) → P s → P (bus.after_write s address byte)

pub kept_by_word : {S : Type 0} (bus : BusMeaning S) (P : S → Type 0)
    → Kept bus P → (s : S) (segment offset word : ℕ) → P s → P (with_word_at bus s segment offset word)
unfolding with_word_at
kept_by_word bus P kept s segment offset word holds = kept.write _ _ _ (kept.write _ _ _ holds)

pub kept_by_put : {S : Type 0} (bus : BusMeaning S) (P : S → Type 0)
    → Kept bus P → (m : Machine S) (l : OperandLocation) (value : ℕ) → P m.bus → P (with_value_at bus m l value).bus
unfolding with_value_at
kept_by_put bus P kept m Nothing value holds = holds
kept_by_put bus P kept m (Byte _) value holds = holds
kept_by_put bus P kept m (Word _) value holds = holds
kept_by_put bus P kept m (Segment _) value holds = holds
kept_by_put bus P kept m (ByteAt _ _) value holds = kept.write _ _ _ holds
kept_by_put bus P kept m (WordAt segment offset) value holds = kept_by_word bus P kept m.bus segment offset value holds
kept_by_put bus P kept m (Number _) value holds = holds

pub kept_by_push : {S : Type 0} (bus : BusMeaning S) (P : S → Type 0) → Kept bus P → (m : Machine S) (word : ℕ) → P m.bus → P (after_push bus m word).bus
unfolding after_push
kept_by_push bus P kept m word holds = kept_by_word bus P kept m.bus _ _ word holds

pub kept_by_pop : {S : Type 0} (P : S → Type 0) (m : Machine S) (bytes : ℕ) → P m.bus → P (after_pop m bytes).bus
unfolding after_pop
kept_by_pop P m bytes holds = holds

pub kept_by_entry : {S : Type 0} (bus : BusMeaning S) (P : S → Type 0) → Kept bus P → (m : Machine S) (kind : ℕ) → P m.bus → P (after_entry bus m kind).bus
unfolding after_entry after_vector after_entry_pushes
kept_by_entry bus P kept m kind holds =
    kept_by_push bus P kept _ _ (kept_by_push bus P kept _ _ (kept_by_push bus P kept m _ holds))
