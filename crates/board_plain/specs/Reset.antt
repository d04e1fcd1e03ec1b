-- The processor at power-on (8086 Family User's Manual, "Processor Reset and Initialization"; that the general
-- registers are 0 is this board's choice).
-- To be believed: the headline rests on it.
use Rattle.std.specs.Prelude.{false, None}
use Rattle.board_types.specs.declared.state.State.TheVariants.{Running}
use Rattle.execute_machine.specs.RegisterFile.{Registers}
use Rattle.execute_machine.specs.Flags.{popped_flags}
use Rattle.execute_meaning.specs.declared.shadow.Shadow.TheVariants.{Nothing}
use Rattle.execute_meaning.specs.Cpu.{CpuState}

-- the registers at power-on; all flags are 0
abbrev pub reset_registers : Registers
reset_registers = record {
  ax = 0;
  cx = 0;
  dx = 0;
  bx = 0;
  sp = 0;
  bp = 0;
  si = 0;
  di = 0;
  es = 0;
  cs = 0xFFFF;
  ss = 0;
  ds = 0;
  ip = 0;
  flags = popped_flags 0;
}

-- the processor at power-on runs, and nothing is due
abbrev pub reset_cpu : CpuState
reset_cpu = record { registers = reset_registers; state = Running; shadow = Nothing; step_due = false; repeat = None }
