-- What holds of memory and of the wires whatever the chips' states are.
-- Laws: claims above the definitions, each proved as the contract of a function.
use Rattle.std.specs.Prelude.{◌≡◌, ℕ, ◌+◌, ◌-◌, ◌/◌, ◌<◌, ◌≤◌, ◌&&◌, ◌||◌, not, true}
use Rattle.std.specs.Prelude.{false, if◌then◌else◌, List, length, None, is_some, ◌≢◌}
use Rattle.board_types.specs.Bits.{has_bit}
use Rattle.board_types.specs.LineLevel.{is_high}
use Rattle.board_types.specs.declared.choice.TimerKind.{TimerKind}
use Rattle.board_types.specs.declared.line.Line.TheVariants.{High}
use Rattle.bus.specs.PortWriteBus.{after_port_writes}
use Rattle.keyboard.specs.Keyboard as keys
use Rattle.pic8259.specs.Levels.{contains}
use Rattle.pit8253.specs.Counter as counter
use Rattle.pit8253.specs.Pit as pit
use Rattle.ppi8255.specs.Ppi.{lines_b}
use Rattle.wiring.specs.Chips.{ChipsState, power_on}
use Rattle.wiring.specs.Ports.{after_input, after_output, with_byte, byte_at, is_writable}
use Rattle.wiring.specs.Wires.{after_settling, after_clock, after_clocks, after_arrival}
use Rattle.wiring.specs.Wires.{after_arrivals, after_key_settling, after_acknowledge}
use Rattle.wiring.specs.EachWire.{port_b_line}
use Rattle.wiring.specs.Speaker.{is_speaker_high, is_speaker_high_after}

-- settling again changes nothing
abbrev pub SettlesOnce : Type 0
SettlesOnce = (s : ChipsState) → after_settling (after_settling s) ≡ after_settling s

-- the keyboard has settled to the lines of port B
abbrev pub KeysSettled : ChipsState → Type 0
KeysSettled s = keys.after_settling s.keyboard (lines_b s.ppi) ≡ s.keyboard

-- after the keyboard settles, and then the wires, the keyboard has settled to the lines of port B
abbrev pub KeysSettleOnce : Type 0
KeysSettleOnce = (s : ChipsState) → KeysSettled (after_key_settling s)

-- the wires as the board draws them: gate 2 is line 0 of port B, IR0 is OUT0, IR1 is high while the latch is full,
-- and the latch is empty while line 7 of port B is 1
pub record WiresAgree (s : ChipsState) : Type 0 where
  pub gate_2 : s.pit.counter_2.gate ≡ port_b_line s.ppi 0
  pub ir0 : contains s.pic.high 0 ≡ is_high s.pit.counter_0.out
  pub ir1 : contains s.pic.high 1 ≡ is_some s.keyboard.latch
  pub emptied : has_bit (lines_b s.ppi) 7 ≡ true → s.keyboard.latch ≡ None

-- settled wires agree, in a controller of eight lines
abbrev pub SettledAgree : Type 0
SettledAgree = (s : ChipsState) → length s.pic.high ≡ 8 → WiresAgree (after_settling s)

-- What a settling changes: the latch, which it only empties; counter 2, as its gate's new level changes it; lines 0 and
-- 1 of the controller, with a rise that is remembered for each of the two that was low and is high; and nothing else.
pub record SettlingChanges (s t : ChipsState) : Type 0 where
  pub nothing_else : t ≡ record s {
    keyboard = record s.keyboard { latch = t.keyboard.latch };
    pit = record s.pit { counter_2 = t.pit.counter_2 };
    pic = record s.pic { high = t.pic.high; risen = t.pic.risen };
  }
  pub latch : t.keyboard.latch ≡ (if has_bit (lines_b s.ppi) 7 then None else s.keyboard.latch)
  pub counter_2 : t.pit.counter_2 ≡ counter.after_gate s.pit.counter_2 (port_b_line s.ppi 0)
  pub other_lines : (level : ℕ) → 2 ≤ level → contains t.pic.high level ≡ contains s.pic.high level
  pub other_rises : (level : ℕ) → 2 ≤ level → contains t.pic.risen level ≡ contains s.pic.risen level
  pub rises : (level : ℕ) → level < 2
      → contains t.pic.risen level
      ≡ (contains s.pic.risen level || (not (contains s.pic.high level) && contains t.pic.high level))

abbrev pub SettlingChangesAlone : Type 0
SettlingChangesAlone =
    (s : ChipsState) → length s.pic.high ≡ 8 → length s.pic.risen ≡ 8 → SettlingChanges s (after_settling s)

-- while the wires have settled, n clocks tick the counters once for each clock whose number is divisible by 4
abbrev pub ClocksTick : Type 0
ClocksTick =
    (s : ChipsState) (n : ℕ) → after_settling s ≡ s
    → (after_clocks s n).pit ≡ pit.after_ticks s.pit ((s.clock + n) / 4 - s.clock / 4)

-- the wires that nothing drives: gates 0 and 1 are high, and IR2 to IR7 low
pub record FixedWires (s : ChipsState) : Type 0 where
  pub lines : length s.pic.high ≡ 8
  pub gate_0 : s.pit.counter_0.gate ≡ High
  pub gate_1 : s.pit.counter_1.gate ≡ High
  pub low : (level : ℕ) → 2 ≤ level → level < 8 → contains s.pic.high level ≡ false

-- the fixed wires have their levels at power-on, and keep them
pub record WiresStay : Type 0 where
  pub first : (image : List (ℕ × ℕ)) (ram_size sw1 sw2 : ℕ) (kind : TimerKind)
      → FixedWires (power_on image ram_size sw1 sw2 kind)
  pub byte : (s : ChipsState) (address byte : ℕ) → FixedWires s → FixedWires (with_byte s address byte)
  pub input : (s : ChipsState) (port : ℕ) → FixedWires s → FixedWires (after_input s port)
  pub output : (s : ChipsState) (port byte : ℕ) → FixedWires s → FixedWires (after_output s port byte)
  pub clock : (s : ChipsState) → FixedWires s → FixedWires (after_clock s)
  pub key : (s : ChipsState) (code : ℕ) → FixedWires s → FixedWires (after_arrival s code)
  pub keys : (s : ChipsState) → FixedWires s → FixedWires (after_key_settling s)
  pub request : (s : ChipsState) → FixedWires s → FixedWires (after_acknowledge s)

-- two states agree in all that the speaker's next level can depend on: the clock, the parallel port, and of counter 2
-- all but what its reads change, the latches of the count and of the status and the byte that is next
pub record SoundsAlike (s t : ChipsState) : Type 0 where
  pub clock : s.clock ≡ t.clock
  pub ppi : s.ppi ≡ t.ppi
  pub counter_2 : record s.pit.counter_2 { latch = None; status = None; high_next = false }
      ≡ record t.pit.counter_2 { latch = None; status = None; high_next = false }

-- the speaker's next level depends only on the parts in which `SoundsAlike` has two states agree, and on the port
-- writes
abbrev pub DependsOnWrites : Type 0
DependsOnWrites =
    (s t : ChipsState) (writes : List (ℕ × ℕ)) → SoundsAlike s t
    → is_speaker_high_after s writes ≡ is_speaker_high_after t writes

-- no key that arrives touches the speaker's next level
abbrev pub NoKeyTouches : Type 0
NoKeyTouches =
    (s : ChipsState) (writes : List (ℕ × ℕ)) (codes : List ℕ)
    → is_speaker_high
    (after_key_settling (after_arrivals (after_clock (after_port_writes after_output s writes)) codes))
    ≡ is_speaker_high_after s writes

-- an interrupt that the processor takes doesn't touch the speaker's next level
abbrev pub NoEntryTouches : Type 0
NoEntryTouches =
    (s : ChipsState) (writes : List (ℕ × ℕ))
    → is_speaker_high_after (after_acknowledge s) writes ≡ is_speaker_high_after s writes

-- if the wires have settled, a read of any port doesn't touch the speaker's next level
abbrev pub NoReadTouches : Type 0
NoReadTouches =
    (s : ChipsState) (writes : List (ℕ × ℕ)) (port : ℕ) → after_settling s ≡ s
    → is_speaker_high_after (after_input s port) writes ≡ is_speaker_high_after s writes

-- a byte that is written reads back if its address takes bytes, and changes nothing if it doesn't, and a write leaves
-- every other byte as it is
abbrev pub WriteChangesOneByte : Type 0
WriteChangesOneByte =
    (s : ChipsState) (address byte : ℕ) →
    (is_writable s address ≡ true → byte_at (with_byte s address byte) address ≡ byte)
    × (is_writable s address ≡ false → with_byte s address byte ≡ s)
    × ((other : ℕ) → other ≢ address → byte_at (with_byte s address byte) other ≡ byte_at s other)
