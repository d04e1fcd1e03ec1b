-- Starts from which steps of an instruction are computed, over a bus that shows what it is asked for.
-- Laws: claims above the definitions, each proved as the contract of a function.
use Rattle.std.specs.Prelude.{ℕ, ◌+◌, ◌*◌, ◌%◌, true, false, List, [], ◌∷◌, map, None}
use Rattle.board_types.specs.declared.choice.ClockTable.TheVariants.{C1, C2}
use Rattle.board_types.specs.declared.regs.Flags.{Flags}
use Rattle.board_types.specs.declared.state.State.{State}
use Rattle.board_types.specs.declared.state.State.TheVariants.{Running}
use Rattle.bus.specs.Bus.{BusMeaning}
use Rattle.decode.specs.declared.decoding.Decoding.TheVariants.{Found}
use Rattle.execute_machine.specs.Flags.{flag_state}
use Rattle.execute_machine.specs.RegisterFile.{Registers}
use Rattle.execute_meaning.specs.Cpu.{CpuState}
use Rattle.execute_meaning.specs.Meaning.{after_fetch, after_step}
use Rattle.execute_meaning.specs.declared.shadow.Shadow.TheVariants.{Nothing}
use Rattle.isa.specs.declared.form.Instr.{Instr}
use Rattle.isa.specs.Encoding.{instr_length}
use Rattle.forms.specs.Changed.{all_flags, no_flags}

-- a bus by which memory and ports give bytes that a number chooses: with 0 all are 0
abbrev pub filled_bus : BusMeaning ℕ
filled_bus = record {
  byte_at = λ fill address. fill * (address + 1) % 256;
  after_write = λ fill address byte. fill;
  is_writable = λ fill address. true;
  input = λ fill port. (fill + port) % 256;
  after_input = λ fill port. fill;
  after_output = λ fill port byte. fill;
}

pub record Start : Type 0 where
  pub registers : Registers
  pub fill : ℕ

-- the registers that take part in few instructions are the same, but for SP
abbrev pub start : Flags → ℕ → ℕ → ℕ → ℕ → ℕ → ℕ → Start
start flags ax cx dx bx sp fill = record {
  registers = record {
    ax = ax;
    cx = cx;
    dx = dx;
    bx = bx;
    sp = sp;
    bp = 0x0240;
    si = 0x1234;
    di = 0x0420;
    es = 0x1000;
    cs = 0x2000;
    ss = 0x3000;
    ds = 0x4000;
    ip = 0x0500;
    flags = flag_state flags;
  };
  fill = fill;
}

-- Each flag is clear in one start and set in another that is like it else. CX is 0, 1 and more; a division has a
-- quotient and has none; elements of strings are alike and differ.
abbrev pub starts : List Start
starts =
    start no_flags 0x9AFB 5 0x0104 0xA5C3 0x0100 255
    ∷ start all_flags 0x9AFB 5 0x0104 0xA5C3 0x0100 255
    ∷ start all_flags 0x00FA 1 0 0 0x0100 0
    ∷ start (record no_flags { sign = true }) 7 0 0 3 0x0216 255
    ∷ start no_flags 0 5 0x0201 0x1111 0x0100 0
    ∷ []

-- a step of an instruction: the registers before it, with the next instruction's IP, and afterwards, the processor's
-- state, and the clocks by both tables
pub record Run : Type 0 where
  pub before : Registers
  pub after : Registers
  pub state : State
  pub first_clocks : ℕ
  pub second_clocks : ℕ

abbrev pub ready_cpu : Start → CpuState
ready_cpu x = record { registers = x.registers; state = Running; shadow = Nothing; step_due = false; repeat = None }

unfoldable pub run_from : Instr → Start → Run
run_from i x = record {
  before = (after_fetch (ready_cpu x) (instr_length i)).registers;
  after = (after_step filled_bus C1 (ready_cpu x) x.fill (Found i (instr_length i))).cpu.registers;
  state = (after_step filled_bus C1 (ready_cpu x) x.fill (Found i (instr_length i))).cpu.state;
  first_clocks = (after_step filled_bus C1 (ready_cpu x) x.fill (Found i (instr_length i))).clocks;
  second_clocks = (after_step filled_bus C2 (ready_cpu x) x.fill (Found i (instr_length i))).clocks;
}

abbrev pub runs_of : Instr → List Run
runs_of i = map (run_from i) starts
