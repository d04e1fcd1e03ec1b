-- A bus that notes accesses keeps its bytes as the bus within does.
-- For proofs alone: no public contract rests on it.
use Rattle.bus.specs.Bus.{BusMeaning}
use Rattle.bus.specs.BusPromises.{IsBus}
use Rattle.execute_noted.specs.Held.{Held, holding}

pub holding_keeps_bytes : {S : Type 0} (bus : BusMeaning S) → IsBus bus → IsBus (holding bus)
holding_keeps_bytes bus laws = record {
  written = λ h address byte. laws.written h.reached address byte;
  refused = λ h address byte. laws.refused h.reached address byte;
  others = λ h address byte other. laws.others h.reached address byte other;
  fixed = λ h address byte other. laws.fixed h.reached address byte other;
  input_fixed = λ h port other. laws.input_fixed h.reached port other;
  output_fixed = λ h port byte other. laws.output_fixed h.reached port byte other;
  input_keeps = λ h port address. laws.input_keeps h.reached port address;
  output_keeps = λ h port byte address. laws.output_keeps h.reached port byte address;
}
