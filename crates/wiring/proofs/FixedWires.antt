-- The wires that nothing drives stay as they are at power-on.
use Rattle.std.proofs.Common.{◌≡◌, ◌≢◌, ◌<◌, ◌≤◌, ◌+◌, ◌%◌, ℕ, Bool, true, false, if◌then◌else◌, List, length, slice_set, refl, ap, ◌∙◌, arith}
use Rattle.std.specs.Prelude.{◌==◌, is_some}
use Rattle.std.proofs.lemmas.List.{get_or-set_other, length-set}
use Rattle.std.proofs.Math.ListN.{get_or-map}
use Rattle.memory.specs.Regions.{is_text_address}
use Rattle.board_types.specs.LineLevel.{from_bool, is_high}
use Rattle.keyboard.specs.Keyboard.{KeyboardState}
use Rattle.board_types.specs.declared.choice.TimerKind.{TimerKind}
use Rattle.pic8259.specs.Levels.{Levels, all_levels, contains}
use Rattle.pit8253.specs.Pit.{PitState}
use Rattle.pit8253.specs.Pit as pit
use Rattle.wiring.specs.declared.port.Port.{Port}
use Rattle.wiring.specs.declared.port.Port.TheVariants.{Controller, Timer, Parallel, Adapter, Nothing}
use Rattle.wiring.specs.Chips.{ChipsState, power_on}
use Rattle.wiring.specs.Ports.{with_byte, port_at, after_port_read, after_port_write, after_input, after_output}
use Rattle.wiring.specs.Wires.{after_settling, after_clock, after_arrival, after_key_settling, after_acknowledge}
use Rattle.wiring.specs.EachWire.{port_b_line, after_latch_wire, after_gate_wire}
use Rattle.wiring.specs.WiringLaws.{FixedWires, WiresStay}
use Rattle.wiring.proofs.Agreement.{high_after_requests}
use Rattle.wiring.proofs.HighLines.{high_after_acknowledge, high_after_read, high_after_write}
use Rattle.wiring.proofs.TimerGates.{SameGates, write_gates, read_gates, tick_gates, gate_gates}

same_gates : (p : PitState) → SameGates p p
same_gates p = record { gate_0 = refl; gate_1 = refl }

-- a state with the same lines and gates
kept : (s t : ChipsState) → FixedWires s → t.pic.high ≡ s.pic.high → SameGates t.pit s.pit → FixedWires t
kept s t fixed high gates = record {
  lines = ap length high ∙ fixed.lines;
  gate_0 = gates.gate_0 ∙ fixed.gate_0;
  gate_1 = gates.gate_1 ∙ fixed.gate_1;
  low = λ level from to. ap (λ (lines : Levels). contains lines level) high ∙ fixed.low level from to;
}

pub above : (n m : ℕ) → n < m → m ≢ n
above n m less same = omega arith

-- a line from IR2 on, when IR0 and IR1 take levels
pub other_line : (high : Levels) (zeroth first : Bool) (level : ℕ) → 2 ≤ level
    → contains (slice_set (slice_set high 0 zeroth) 1 first) level ≡ contains high level
other_line high zeroth first level from =
    get_or-set_other (slice_set high 0 zeroth) 1 level first false (above 1 level (omega arith))
    ∙ get_or-set_other high 0 level zeroth false (above 0 level (omega arith))

settled_fixed : (s : ChipsState) → FixedWires s → FixedWires (after_settling s)
unfolding after_settling
settled_fixed s fixed =
    let keyboard : KeyboardState = after_latch_wire s.keyboard s.ppi in
    let timer : PitState = after_gate_wire s.pit s.ppi in
    let zeroth : Bool = is_high timer.counter_0.out in
    let first : Bool = is_high (from_bool (is_some keyboard.latch)) in
    let gates : SameGates timer s.pit = gate_gates s.pit (port_b_line s.ppi 0) in
    let high = high_after_requests s.pic timer keyboard in
    record {
      lines = ap length high ∙ length-set (slice_set s.pic.high 0 zeroth) 1 first ∙ length-set s.pic.high 0 zeroth ∙ fixed.lines;
      gate_0 = gates.gate_0 ∙ fixed.gate_0;
      gate_1 = gates.gate_1 ∙ fixed.gate_1;
      low = λ level from to. ap (λ (lines : Levels). contains lines level) high
          ∙ other_line s.pic.high zeroth first level from
          ∙ fixed.low level from to;
    }

first_fixed : (image : List (ℕ × ℕ)) (ram_size sw1 sw2 : ℕ) (kind : TimerKind) → FixedWires (power_on image ram_size sw1 sw2 kind)
unfolding power_on pit.power_on
first_fixed image ram_size sw1 sw2 kind = record {
  lines = refl;
  gate_0 = refl;
  gate_1 = refl;
  low = λ level from to. get_or-map (λ (other : ℕ). false) all_levels level 0;
}

choose : (b : Bool) (s t : ChipsState) → FixedWires s → FixedWires t → FixedWires (if b then s else t)
choose true s t first second = first
choose false s t first second = second

byte_fixed : (s : ChipsState) (address byte : ℕ) → FixedWires s → FixedWires (with_byte s address byte)
unfolding with_byte
byte_fixed s address byte fixed = choose (is_text_address address) _ _ (kept s _ fixed refl (same_gates s.pit)) (kept s _ fixed refl (same_gates s.pit))

read_fixed : (s : ChipsState) (port : Port) → FixedWires s → FixedWires (after_port_read s port)
read_fixed s (Controller a0) fixed = kept s _ fixed (high_after_read s.pic) (same_gates s.pit)
read_fixed s (Timer n) fixed = kept s _ fixed refl (read_gates s.pit n)
read_fixed s (Parallel n) fixed = fixed
read_fixed s (Adapter n) fixed = fixed
read_fixed s Nothing fixed = fixed

written_fixed : (s : ChipsState) (port : Port) (byte : ℕ) → FixedWires s → FixedWires (after_port_write s port byte)
written_fixed s (Controller a0) byte fixed = kept s _ fixed (high_after_write s.pic a0 byte) (same_gates s.pit)
written_fixed s (Timer n) byte fixed = kept s _ fixed refl (write_gates s.pit n byte)
written_fixed s (Parallel n) byte fixed = kept s _ fixed refl (same_gates s.pit)
written_fixed s (Adapter n) byte fixed = kept s _ fixed refl (same_gates s.pit)
written_fixed s Nothing byte fixed = fixed

input_fixed : (s : ChipsState) (port : ℕ) → FixedWires s → FixedWires (after_input s port)
unfolding after_input
input_fixed s port fixed = settled_fixed _ (read_fixed s (port_at port) fixed)

output_fixed : (s : ChipsState) (port byte : ℕ) → FixedWires s → FixedWires (after_output s port byte)
unfolding after_output
output_fixed s port byte fixed = settled_fixed _ (written_fixed s (port_at port) byte fixed)

clock_gates : (b : Bool) (p : PitState) → SameGates (if b then pit.after_tick p else p) p
clock_gates true p = tick_gates p
clock_gates false p = same_gates p

clocked_fixed : (s : ChipsState) → FixedWires s → FixedWires (after_clock s)
unfolding after_clock
clocked_fixed s fixed = settled_fixed _ (kept s _ fixed refl (clock_gates ((s.clock + 1) % 4 == 0) s.pit))

arrived_fixed : (s : ChipsState) (code : ℕ) → FixedWires s → FixedWires (after_arrival s code)
unfolding after_arrival
arrived_fixed s code fixed = kept s _ fixed refl (same_gates s.pit)

keys_fixed : (s : ChipsState) → FixedWires s → FixedWires (after_key_settling s)
unfolding after_key_settling
keys_fixed s fixed = settled_fixed _ (kept s _ fixed refl (same_gates s.pit))

request_fixed : (s : ChipsState) → FixedWires s → FixedWires (after_acknowledge s)
unfolding after_acknowledge
request_fixed s fixed = kept s _ fixed (high_after_acknowledge s.pic) (same_gates s.pit)

pub wires_stay : WiresStay
wires_stay = record {
  first = first_fixed;
  byte = byte_fixed;
  input = input_fixed;
  output = output_fixed;
  clock = clocked_fixed;
  key = arrived_fixed;
  keys = keys_fixed;
  request = request_fixed;
}
