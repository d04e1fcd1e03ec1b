-- The plain board: what it holds at a clock, what one clock makes of it, and what n clocks make of it.
-- To be believed: the headline rests on it.
use Rattle.std.specs.Prelude.{ℕ, ◌+◌, ◌-◌, ◌*◌, ◌==◌, Bool, if◌then◌else◌, List, [], ◌∷◌, map, filter}
use Rattle.std.specs.Bool.{beq}
use Rattle.board_types.specs.declared.choice.ClockTable.{ClockTable}
use Rattle.board_types.specs.Iterate.{iterate, gathered}
use Rattle.board_types.specs.LineLevel.{from_bool, is_high}
use Rattle.board_types.specs.declared.keys.StampedKey.{StampedKey}
use Rattle.board_types.specs.declared.line.Line.{Line}
use Rattle.board_types.specs.declared.regs.Regs.{Regs}
use Rattle.board_types.specs.declared.state.State.{State}
use Rattle.decode.specs.Decoding.{code_at, decoded_from}
use Rattle.execute_meaning.specs.Cpu.{CpuState, regs_of}
use Rattle.execute_meaning.specs.Meaning.{StepResult, step_result, after_step, after_again}
use Rattle.execute_meaning.specs.Boundaries.{boundary_of, after_enter}
use Rattle.execute_meaning.specs.declared.boundary.Boundary.{Boundary}
use Rattle.execute_meaning.specs.declared.boundary.Boundary.TheVariants as boundaries
use Rattle.execute_meaning.specs.declared.boundary.Cause.TheVariants as causes
use Rattle.mda_text.specs.Screen.{screen_text}
use Rattle.pic8259.specs.Pic as pic
use Rattle.wiring.specs.Chips as chips
use Rattle.wiring.specs.Chips.{ChipsState}
use Rattle.wiring.specs.Ports.{chips_bus, byte_at}
use Rattle.wiring.specs.Speaker.{is_speaker_high}
use Rattle.wiring.specs.Wires as wires
use Rattle.wiring.specs.Wires.{after_arrivals, after_key_settling, after_acknowledge}
use Rattle.board_plain.specs.declared.act.Act.{Act}
use Rattle.board_plain.specs.declared.act.Act.TheVariants.{Nothing, Request, SingleStep, Iteration, Instruction}
use Rattle.board_plain.specs.declared.config.Config.{Config}
use Rattle.board_plain.specs.declared.speaker.SpeakerChange.{SpeakerChange}
use Rattle.board_plain.specs.Reset.{reset_cpu}

pub record Plain : Type 0 where
  pub cpu : CpuState
  -- the clocks that the processor's last step or entry still takes
  pub busy : ℕ
  pub chips : ChipsState
  -- every key code with its clock; codes whose clock is reached have arrived
  pub keys : List StampedKey
  -- the table by which the processor's clocks count
  pub clocks : ClockTable

-- the clock that the board stands at
unfoldable pub clock_of : Plain → ℕ
clock_of s = s.chips.clock

-- the processor is free once the clocks of its last step or entry are over
abbrev pub is_free : Plain → Bool
is_free s = s.busy == 0

-- what the processor does at a free boundary of this case; an instruction is what stands at CS:IP
abbrev pub act_at : CpuState → ChipsState → Boundary → Act
act_at cpu chips boundaries.Request = Request
act_at cpu chips boundaries.SingleStep = SingleStep
act_at cpu chips boundaries.Nothing = Nothing
act_at cpu chips boundaries.Iteration = Iteration
act_at cpu chips boundaries.Instruction =
    Instruction (decoded_from (code_at (byte_at chips) cpu.registers.cs cpu.registers.ip))

-- what the processor does in a clock; a busy one does nothing
unfoldable pub next_act : Plain → Act
next_act s = if is_free s then act_at s.cpu s.chips (boundary_of s.cpu (pic.is_requesting s.chips.pic)) else Nothing

-- The processor's part of a clock, at once and whole (this board's choice). A request is acknowledged as it is entered.
abbrev pub after_act : ClockTable → CpuState → ℕ → ChipsState → Act → StepResult ChipsState
after_act table cpu busy chips Nothing = step_result cpu chips busy
after_act table cpu busy chips Request =
    after_enter chips_bus table cpu (after_acknowledge chips) (pic.vector chips.pic) causes.Request
after_act table cpu busy chips SingleStep = after_enter chips_bus table cpu chips 1 causes.SingleStep
after_act table cpu busy chips Iteration = after_again chips_bus cpu chips
after_act table cpu busy chips (Instruction decoded) = after_step chips_bus table cpu chips decoded

-- the codes of the keys that are stamped with a clock, in order
abbrev pub codes_at : List StampedKey → ℕ → List ℕ
codes_at keys clock = map (λ (k : StampedKey). k.code) (filter (λ (k : StampedKey). k.stamp == clock) keys)

-- the chips' part of a clock: the clock goes by and the wires settle, the keys of the clock that is reached arrive, and
-- the keyboard and the wires settle
unfoldable pub chips_after_clock : ChipsState → List StampedKey → ChipsState
chips_after_clock s keys = after_key_settling (after_arrivals (wires.after_clock s) (codes_at keys (s.clock + 1)))

-- one processor clock: the processor's part, after which it is busy for a clock less, and the chips' part (the order is
-- this board's choice)
unfoldable pub after_clock : Plain → Plain
after_clock s =
    let acted : StepResult ChipsState = after_act s.clocks s.cpu s.busy s.chips (next_act s) in
    record {
      cpu = acted.cpu;
      busy = acted.clocks - 1;
      chips = chips_after_clock acted.bus s.keys;
      keys = s.keys;
      clocks = s.clocks;
    }

abbrev pub after_clocks : Plain → ℕ → Plain
after_clocks s n = iterate after_clock n s

-- the board at power-on with an image's bytes in its memory; keys stamped 0 have arrived
unfoldable pub power_on : List (ℕ × ℕ) → Config → List StampedKey → Plain
power_on image config keys = record {
  cpu = reset_cpu;
  busy = 0;
  chips =
      after_arrivals (chips.power_on image (1024 * config.ram_kb) config.sw1 config.sw2 config.timer) (codes_at keys 0);
  keys = keys;
  clocks = config.clocks;
}

-- the plain board after n clocks from power-on
abbrev pub board_after : List (ℕ × ℕ) → Config → List StampedKey → ℕ → Plain
board_after image config keys n = after_clocks (power_on image config keys) n

-- what a board shows of itself
unfoldable pub registers_of : Plain → Regs
registers_of s = regs_of s.cpu.registers

unfoldable pub state_of : Plain → State
state_of s = s.cpu.state

unfoldable pub byte_of : Plain → ℕ → ℕ
byte_of s address = byte_at s.chips address

unfoldable pub screen_of : Plain → List ℕ
screen_of s = screen_text s.chips.mda

-- how many key codes met a full queue
unfoldable pub lost_codes : Plain → ℕ
lost_codes s = s.chips.keyboard.lost

unfoldable pub speaker_level : Plain → Line
speaker_level s = from_bool (is_speaker_high s.chips)

-- the change of the speaker's level that a clock brings, if it brings one
unfoldable pub change_next : Plain → List SpeakerChange
change_next s =
    if beq (is_high (speaker_level (after_clock s))) (is_high (speaker_level s)) then []
    else record { clock = clock_of s + 1; level = speaker_level (after_clock s) } ∷ []

-- the changes of n clocks, with the clock and the level after each
abbrev pub changes_in : Plain → ℕ → List SpeakerChange
changes_in s n = gathered after_clock change_next n s
