-- What runs between the chips, wire by wire.
-- To be believed by callers of this crate: the headline does not rest on it.
use Rattle.std.specs.Prelude.{ℕ, Bool, if◌then◌else◌, is_some}
use Rattle.board_types.specs.Bits.{has_bit}
use Rattle.board_types.specs.LineLevel.{from_bool}
use Rattle.board_types.specs.declared.line.Line.{Line}
use Rattle.pic8259.specs.Pic.{PicState, after_line, is_requesting, vector}
use Rattle.pit8253.specs.Pit.{PitState, after_gate}
use Rattle.ppi8255.specs.Ppi.{PpiState, lines_b}
use Rattle.ppi8255.specs.declared.ppi.Inputs.{Inputs}
use Rattle.keyboard.specs.Keyboard.{KeyboardState, after_clearing}
use Rattle.wiring.specs.Chips.{ChipsState}

-- a line of port B, by its number
abbrev pub port_b_line : PpiState → ℕ → Line
port_b_line ppi k = from_bool (has_bit (lines_b ppi) k)

-- the keyboard after its latch follows line 7 of port B: while that is 1, the latch is emptied
abbrev pub after_latch_wire : KeyboardState → PpiState → KeyboardState
after_latch_wire keyboard ppi = if has_bit (lines_b ppi) 7 then after_clearing keyboard else keyboard

-- the timer after gate 2 follows line 0 of port B
abbrev pub after_gate_wire : PitState → PpiState → PitState
after_gate_wire pit ppi = after_gate pit 2 (port_b_line ppi 0)

-- the controller after IR0 follows OUT0, and IR1 the keyboard's latch: it is high while the latch is full
abbrev pub after_request_wires : PicState → PitState → KeyboardState → PicState
after_request_wires pic pit keyboard =
    after_line (after_line pic 0 pit.counter_0.out) 1 (from_bool (is_some keyboard.latch))

-- what the board brings to the parallel port's pins
abbrev pub inputs_of : ChipsState → Inputs
inputs_of s = record { latch = s.keyboard.latch; out2 = s.pit.counter_2.out }

-- whether an interrupt is requested, and the type that its acknowledge answers
abbrev pub is_requested : ChipsState → Bool
is_requested s = is_requesting s.pic

abbrev pub requested_type : ChipsState → ℕ
requested_type s = vector s.pic
