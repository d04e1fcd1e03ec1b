-- What a free processor takes.
-- For proofs alone: no public contract rests on it.
use Rattle.std.specs.Prelude.{Bool, ◌&&◌}
use Rattle.execute_meaning.specs.Cpu.{CpuState}
use Rattle.execute_meaning.specs.Boundaries.{lets_requests, lets_single_steps}

-- whether a request is taken, if there is one
abbrev pub takes_requests : CpuState → Bool
takes_requests p = p.registers.flags.interrupt_enable && lets_requests p.shadow

-- whether a single step is taken
abbrev pub takes_single_step : CpuState → Bool
takes_single_step p = p.step_due && lets_single_steps p.shadow
