-- Port writes as a list: a bus that does nothing but list them, and the state of anything after them.
-- To be believed: the headline rests on it.
use Rattle.std.specs.Prelude.{ℕ, false, List, [], ◌∷◌, ◌++◌, fold}
use Rattle.bus.specs.Bus.{BusMeaning}

-- a bus that does nothing but list port writes in order, each a port and a byte
abbrev pub noting_bus : BusMeaning (List (ℕ × ℕ))
noting_bus = record {
  byte_at = λ writes address. 0;
  after_write = λ writes address byte. writes;
  is_writable = λ writes address. false;
  input = λ writes port. 0;
  after_input = λ writes port. writes;
  after_output = λ writes port byte. writes ++ (port, byte) ∷ [];
}

-- a state after these port writes, made in order
abbrev pub after_port_writes : {T : Type 0} → (T → ℕ → ℕ → T) → T → List (ℕ × ℕ) → T
after_port_writes after_output t writes = fold (λ x w. after_output x w.0 w.1) t writes
