-- What a plain board's chips hold at its clock, and its processor between two boundaries, as text: a line for each chip
-- and counter (IBM PC Technical Reference, "System Board I/O", "Keyboard", "Speaker Interface", "IBM Monochrome Display
-- and Parallel Printer Adapter"; Intel 8255A data sheet, "Operating Modes: Mode 0"; 8086 Family User's Manual,
-- "Interrupts").
-- To be believed by callers of this crate: the headline does not rest on it.
use Rattle.wiring.specs.EachWire.{inputs_of}
use Rattle.std.specs.Prelude.{ℕ, Bool, List, ◌++◌, codes, is_some}
use Rattle.std.specs.Fmt.{decimal}
use Rattle.std.specs.List.{flat_map}
use Rattle.board_plain.specs.Plain.{Plain, registers_of, speaker_level, state_of}
use Rattle.board_lines.specs.Text.{state_name}
use Rattle.board_types.specs.Digits.{hex_byte_text, hex_word}
use Rattle.board_types.specs.declared.line.Line.{Line}
use Rattle.board_types.specs.declared.state.State.{State}
use Rattle.debugger_meaning.specs.Dump.{spaced_byte}
use Rattle.execute_meaning.specs.declared.shadow.Shadow.{Shadow}
use Rattle.execute_meaning.specs.declared.shadow.Shadow.TheVariants.{Nothing, Requests, Interrupts}
use Rattle.keyboard.specs.Keyboard.{KeyboardState}
use Rattle.mda_text.specs.declared.registers.Registers.{Registers}
use Rattle.mda_text.specs.Registers as adapter
use Rattle.pit8253.specs.Pit.{PitState}
use Rattle.ppi8255.specs.declared.ppi.Direction.{Direction}
use Rattle.ppi8255.specs.declared.ppi.Direction.TheVariants.{Input, Output}
use Rattle.ppi8255.specs.declared.ppi.Inputs.{Inputs}
use Rattle.ppi8255.specs.Ppi.{PpiState, byte_at}
use Rattle.probe_texts.specs.Controller.{controller_line}
use Rattle.probe_texts.specs.CounterText.{counter_line}
use Rattle.probe_texts.specs.Shown.{byte_or_none, flag_text, line_text}

-- the three counters
unfoldable pub timer_lines : PitState → List ℕ
timer_lines p = counter_line 0 p.counter_0 ++ (counter_line 1 p.counter_1 ++ counter_line 2 p.counter_2)

abbrev pub direction_text : Direction → List ℕ
direction_text Input = codes "in"
direction_text Output = codes "out"

-- the direction of each port, of either half of C, and the byte that a read gives
unfoldable pub ports_line : PpiState → Inputs → List ℕ
ports_line s inputs =
    codes "ports A " ++ (direction_text s.a ++ (codes " " ++ (hex_byte_text (byte_at s 0 inputs)
    ++ (codes " B " ++ (direction_text s.b ++ (codes " " ++ (hex_byte_text (byte_at s 1 inputs)
    ++ (codes " C " ++ (direction_text s.c_upper ++ (codes "/" ++ (direction_text s.c_lower ++ (codes " "
    ++ (hex_byte_text (byte_at s 2 inputs) ++ codes "\n")))))))))))))

-- the latch, the lost codes, and the codes that wait, in order
unfoldable pub keyboard_line : KeyboardState → List ℕ
keyboard_line k =
    codes "keyboard latch " ++ (byte_or_none k.latch ++ (codes " lost " ++ (decimal k.lost
    ++ (codes " waiting" ++ (flat_map spaced_byte k.waiting ++ codes "\n")))))

unfoldable pub speaker_line : Line → List ℕ
speaker_line level = codes "speaker " ++ (line_text level ++ codes "\n")

-- the MC6845's address register, R12 and R13, R14 and R15, the video enable, and the beam's place
unfoldable pub adapter_line : Registers → List ℕ
adapter_line r =
    codes "adapter index " ++ (hex_byte_text r.index ++ (codes " start " ++ (hex_word r.start
    ++ (codes " cursor " ++ (hex_word r.cursor ++ (codes " video " ++ (flag_text r.video
    ++ (codes " raster " ++ (decimal r.raster ++ codes "\n")))))))))

-- the interrupts that the last instruction keeps off until one more has run
abbrev pub inhibited_text : Shadow → List ℕ
inhibited_text Nothing = codes "none"
inhibited_text Requests = codes "requests"
inhibited_text Interrupts = codes "interrupts"

-- the state, the clocks that the last step or entry still takes, and IF
unfoldable pub processor_state : State → ℕ → Bool → List ℕ
processor_state state busy enabled =
    codes "processor " ++ (state_name state
    ++ (codes " busy " ++ (decimal busy ++ (codes " IF " ++ flag_text enabled))))

-- the interrupts that are kept off, and whether a single step is due and a repeat under way
unfoldable pub processor_boundary : Shadow → Bool → Bool → List ℕ
processor_boundary shadow is_step_due is_repeating =
    codes " inhibits " ++ (inhibited_text shadow
    ++ (codes " step " ++ (flag_text is_step_due
    ++ (codes " repeat " ++ (flag_text is_repeating ++ codes "\n")))))

abbrev pub processor_line : Plain → List ℕ
processor_line s =
    processor_state (state_of s) s.busy (registers_of s).flags.interrupt_enable
    ++ processor_boundary s.cpu.shadow s.cpu.step_due (is_some s.cpu.repeat)

unfoldable pub chips_text : Plain → List ℕ
chips_text s =
    controller_line s.chips.pic
    ++ (timer_lines s.chips.pit
    ++ (ports_line s.chips.ppi (inputs_of s.chips)
    ++ (keyboard_line s.chips.keyboard
    ++ (speaker_line (speaker_level s)
    ++ (adapter_line (adapter.registers_of s.chips.mda)
    ++ processor_line s)))))
