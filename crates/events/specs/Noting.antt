-- A bus that notes what is done over it.
-- To be believed by callers of this crate: the headline does not rest on it.
use Rattle.std.specs.Prelude.{List, [], ◌∷◌, ◌++◌}
use Rattle.bus.specs.Bus.{BusMeaning}
use Rattle.events.specs.declared.access.Access.{Access}
use Rattle.events.specs.declared.access.Access.TheVariants.{Write, In, Out}

-- what a bus reaches, and the accesses that were made over it, in order
pub record Noted (S : Type 0) : Type 0 where
  pub reached : S
  pub accesses : List Access

abbrev pub unnoted : {S : Type 0} → S → Noted S
unnoted s = record { reached = s; accesses = [] }

-- an access is noted, and leaves a state
abbrev pub with_access : {S : Type 0} → Noted S → S → Access → Noted S
with_access n s access = record { reached = s; accesses = n.accesses ++ access ∷ [] }

-- a bus that also notes each access; a read of memory isn't noted
abbrev pub noting : {S : Type 0} → BusMeaning S → BusMeaning (Noted S)
noting bus = record {
  byte_at = λ n address. bus.byte_at n.reached address;
  after_write = λ n address byte. with_access n (bus.after_write n.reached address byte) (Write address byte);
  is_writable = λ n address. bus.is_writable n.reached address;
  input = λ n port. bus.input n.reached port;
  after_input = λ n port. with_access n (bus.after_input n.reached port) (In port (bus.input n.reached port));
  after_output = λ n port byte. with_access n (bus.after_output n.reached port byte) (Out port byte);
}

-- the state that an access leaves
abbrev pub after_access : {S : Type 0} → BusMeaning S → S → Access → S
after_access bus s (Write address byte) = bus.after_write s address byte
after_access bus s (In port byte) = bus.after_input s port
after_access bus s (Out port byte) = bus.after_output s port byte
