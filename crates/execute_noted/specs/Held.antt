-- A bus that notes the first six accesses that are made over it.
-- For proofs alone: no public contract rests on it.
use Rattle.std.specs.Prelude.{ℕ, Bool, nat_le, if◌then◌else◌, List, [], ◌∷◌, ◌++◌, length}
use Rattle.bus.specs.Bus.{BusMeaning}
use Rattle.events.specs.declared.access.Access.{Access}
use Rattle.events.specs.declared.access.Access.TheVariants.{Write, In, Out}

-- what is reached through the reference of this name, and the first six accesses
pub record Held (S : Type 0) : Type 0 where
  pub name : ℕ
  pub reached : S
  pub accesses : List Access

abbrev pub is_full : List Access → Bool
is_full accesses = nat_le 6 (length accesses)

abbrev pub held_after : {S : Type 0} → Held S → S → Access → Held S
held_after h s access = record {
  name = h.name;
  reached = s;
  accesses = if is_full h.accesses then h.accesses else h.accesses ++ access ∷ [];
}

abbrev pub holding : {S : Type 0} → BusMeaning S → BusMeaning (Held S)
holding bus = record {
  byte_at = λ h address. bus.byte_at h.reached address;
  after_write = λ h address byte. held_after h (bus.after_write h.reached address byte) (Write address byte);
  is_writable = λ h address. bus.is_writable h.reached address;
  input = λ h port. bus.input h.reached port;
  after_input = λ h port. held_after h (bus.after_input h.reached port) (In port (bus.input h.reached port));
  after_output = λ h port byte. held_after h (bus.after_output h.reached port byte) (Out port byte);
}
