-- The test memory keeps the laws of a bus.
-- For proofs alone: no public contract rests on it.
use Rattle.std.proofs.Common.{refl, arith}
use Rattle.std.proofs.lemmas.Grind.{common_steps}
use Rattle.bus.specs.BusPromises.{IsBus}
use Rattle.step_cases.specs.Ram.{ram_bus}

pub ram_keeps_bytes : IsBus ram_bus
ram_keeps_bytes = record {
  written = λ cells address byte writable. grind (arith, common_steps);
  refused = λ cells address byte writable. grind (arith, common_steps);
  others = λ cells address byte other ne. grind (arith, common_steps);
  fixed = λ cells address byte other. grind (arith, common_steps);
  input_fixed = λ cells port other. refl;
  output_fixed = λ cells port byte other. refl;
  input_keeps = λ cells port address. refl;
  output_keeps = λ cells port byte address. refl;
}
