-- The keyboard's queue in a clock: the processor and the wires keep it, the codes of the clock arrive, and the keyboard
-- settles.
use Rattle.wiring.specs.EachWire.{requested_type}
use Rattle.std.proofs.Common.{◌≡◌, ℕ, ◌+◌, Bool, true, false, if◌then◌else◌, List, [], ◌∷◌, refl, sym, ap, ◌∙◌, subst}
use Rattle.std.specs.Prelude.{fold}
use Rattle.board_types.specs.Bits.{has_bit}
use Rattle.board_types.specs.declared.choice.ClockTable.{ClockTable}
use Rattle.execute_meaning.specs.Cpu.{CpuState}
use Rattle.execute_meaning.specs.Boundaries.{after_enter}
use Rattle.execute_meaning.specs.declared.boundary.Cause.{Cause}
use Rattle.execute_meaning.specs.declared.boundary.Cause.TheVariants as causes
use Rattle.execute_meaning.proofs.Writes.{again_keeps_any, enter_keeps_any, step_keeps_any}
use Rattle.keyboard.specs.Keyboard as keys
use Rattle.keyboard.specs.Keyboard.{KeyboardState, after_clearing}
use Rattle.memory.specs.Regions.{is_text_address}
use Rattle.ppi8255.specs.Ppi.{lines_b}
use Rattle.wiring.specs.Chips.{ChipsState}
use Rattle.wiring.specs.Ports.{after_input, after_output, after_port_read, after_port_write, chips_bus, port_at, with_byte}
use Rattle.wiring.specs.declared.port.Port.{Port}
use Rattle.wiring.specs.declared.port.Port.TheVariants as ports
use Rattle.wiring.specs.Wires as wires
use Rattle.wiring.specs.Wires.{after_acknowledge, after_arrival, after_arrivals, after_key_settling, after_settling}
use Rattle.board_plain.specs.declared.act.Act.{Act}
use Rattle.board_plain.specs.declared.act.Act.TheVariants.{Nothing, Request, SingleStep, Iteration, Instruction}
use Rattle.board_plain.specs.Plain.{Plain, after_act, after_clock, chips_after_clock, clock_of, codes_at, next_act}
use Rattle.board_plain.proofs.Clocks.{clock_of_act}
use Rattle.events.specs.Events.{chips_reached, codes_next}

-- the codes that wait and the count of lost ones stay

pub record SameQueue (k l : KeyboardState) : Type 0 where
  pub waiting : k.waiting ≡ l.waiting
  pub lost : k.lost ≡ l.lost

same_queue : (k : KeyboardState) → SameQueue k k
same_queue k = record { waiting = refl; lost = refl }

queue_then : (k l m : KeyboardState) → SameQueue k l → SameQueue l m → SameQueue k m
queue_then k l m first second = record { waiting = first.waiting ∙ second.waiting; lost = first.lost ∙ second.lost }

cleared_by : (b : Bool) (k : KeyboardState) → SameQueue (if b then after_clearing k else k) k
cleared_by true k = record { waiting = refl; lost = refl }
cleared_by false k = same_queue k

settled_queue : (s : ChipsState) → SameQueue (after_settling s).keyboard s.keyboard
unfolding after_settling
settled_queue s = cleared_by (has_bit (lines_b s.ppi) 7) s.keyboard

byte_queue : (b : Bool) (s t u : ChipsState) → SameQueue s.keyboard u.keyboard → SameQueue t.keyboard u.keyboard
    → SameQueue (if b then s else t).keyboard u.keyboard
byte_queue true s t u first second = first
byte_queue false s t u first second = second

written_queue : (s : ChipsState) (address byte : ℕ) → SameQueue (with_byte s address byte).keyboard s.keyboard
unfolding with_byte
written_queue s address byte = byte_queue (is_text_address address) _ _ s (record { waiting = refl; lost = refl }) (record { waiting = refl; lost = refl })

read_queue : (s : ChipsState) (port : Port) → SameQueue (after_port_read s port).keyboard s.keyboard
read_queue s (ports.Controller a0) = same_queue s.keyboard
read_queue s (ports.Timer n) = same_queue s.keyboard
read_queue s (ports.Parallel n) = same_queue s.keyboard
read_queue s (ports.Adapter n) = same_queue s.keyboard
read_queue s ports.Nothing = same_queue s.keyboard

output_queue : (s : ChipsState) (port : Port) (byte : ℕ) → SameQueue (after_port_write s port byte).keyboard s.keyboard
output_queue s (ports.Controller a0) byte = same_queue s.keyboard
output_queue s (ports.Timer n) byte = same_queue s.keyboard
output_queue s (ports.Parallel n) byte = same_queue s.keyboard
output_queue s (ports.Adapter n) byte = same_queue s.keyboard
output_queue s ports.Nothing byte = same_queue s.keyboard

after_input_queue : (s : ChipsState) (port : ℕ) → SameQueue (after_input s port).keyboard s.keyboard
unfolding after_input
after_input_queue s port = queue_then _ _ _ (settled_queue (after_port_read s (port_at port))) (read_queue s (port_at port))

after_output_queue : (s : ChipsState) (port byte : ℕ) → SameQueue (after_output s port byte).keyboard s.keyboard
unfolding after_output
after_output_queue s port byte = queue_then _ _ _ (settled_queue (after_port_write s (port_at port) byte)) (output_queue s (port_at port) byte)

acknowledged_queue : (s : ChipsState) → SameQueue (after_acknowledge s).keyboard s.keyboard
unfolding after_acknowledge
acknowledged_queue s = same_queue s.keyboard

entered_queue : (table : ClockTable) (cpu : CpuState) (s : ChipsState) (kind : ℕ) (cause : Cause)
    → SameQueue (after_enter chips_bus table cpu s kind cause).bus.keyboard s.keyboard
entered_queue table cpu s kind cause =
    enter_keeps_any chips_bus table (λ (t : ChipsState). SameQueue t.keyboard s.keyboard)
    (λ t address byte same. queue_then _ _ _ (written_queue t address byte) same) cpu s kind cause (same_queue s.keyboard)

acted_queue : (table : ClockTable) (cpu : CpuState) (busy : ℕ) (s : ChipsState) (act : Act) → SameQueue (after_act table cpu busy s act).bus.keyboard s.keyboard
acted_queue table cpu busy s Nothing = same_queue s.keyboard
acted_queue table cpu busy s Request = queue_then _ _ _ (entered_queue table cpu (after_acknowledge s) (requested_type s) causes.Request) (acknowledged_queue s)
acted_queue table cpu busy s SingleStep = entered_queue table cpu s 1 causes.SingleStep
acted_queue table cpu busy s Iteration =
    again_keeps_any chips_bus (λ (t : ChipsState). SameQueue t.keyboard s.keyboard)
    (λ t address byte same. queue_then _ _ _ (written_queue t address byte) same) cpu s (same_queue s.keyboard)
acted_queue table cpu busy s (Instruction decoded) =
    step_keeps_any chips_bus table (λ (t : ChipsState). SameQueue t.keyboard s.keyboard)
    (λ t address byte same. queue_then _ _ _ (written_queue t address byte) same)
    (λ t port same. queue_then _ _ _ (after_input_queue t port) same)
    (λ t port byte same. queue_then _ _ _ (after_output_queue t port byte) same)
    cpu s decoded (same_queue s.keyboard)

clocked_queue : (s : ChipsState) → SameQueue (wires.after_clock s).keyboard s.keyboard
unfolding wires.after_clock
clocked_queue s = settled_queue _

-- the chips that a clock's codes reach have the queue of the clock before
pub reached_queue : (s : Plain) → SameQueue (chips_reached s).keyboard s.chips.keyboard
reached_queue s =
    queue_then _ _ _ (clocked_queue (after_act s.clocks s.cpu s.busy s.chips (next_act s)).bus) (acted_queue s.clocks s.cpu s.busy s.chips (next_act s))

-- the codes arrive

pub arrived_keyboard : (codes : List ℕ) (s : ChipsState) → (after_arrivals s codes).keyboard ≡ fold keys.after_arrival s.keyboard codes
unfolding after_arrival
arrived_keyboard [] s = refl
arrived_keyboard (code ∷ codes) s = arrived_keyboard codes (after_arrival s code)

-- the next clock

-- the chips after its codes have reached them, before they settle
abbrev pub gathered_in : Plain → ChipsState
gathered_in s = after_arrivals (chips_reached s) (codes_next s)

pub next_chips : (s : Plain) → (after_clock s).chips ≡ after_key_settling (gathered_in s)
unfolding after_clock chips_after_clock clock_of
next_chips s =
    ap (λ clock. after_key_settling (after_arrivals (chips_reached s) (codes_at s.keys (clock + 1)))) (clock_of_act s.clocks s.cpu s.busy s.chips (next_act s))

key_settled : (c : ChipsState) → SameQueue (after_key_settling c).keyboard (keys.after_settling c.keyboard (lines_b c.ppi))
unfolding after_key_settling
key_settled c = settled_queue _

pub next_queue : (s : Plain) → SameQueue (after_clock s).chips.keyboard (keys.after_settling (gathered_in s).keyboard (lines_b (gathered_in s).ppi))
next_queue s =
    subst (λ (c : ChipsState). SameQueue c.keyboard (keys.after_settling (gathered_in s).keyboard (lines_b (gathered_in s).ppi)))
    (sym (next_chips s)) (key_settled (gathered_in s))
