-- The wires between the chips, and what a clock changes (IBM PC Technical Reference, "System Board": IR0 is OUT0, IR1
-- the full keyboard latch, the other request lines are low; gates 0 and 1 are high and gate 2 is port B bit 0; port B
-- bit 7 clears the latch). When they settle is this board's choice.
-- To be believed: the headline rests on it.
use Rattle.std.specs.Prelude.{ℕ, ◌+◌, ◌%◌, ◌==◌, if◌then◌else◌, List, fold, is_some}
use Rattle.board_types.specs.Bits.{has_bit}
use Rattle.board_types.specs.Iterate.{iterate}
use Rattle.board_types.specs.LineLevel.{from_bool}
use Rattle.pic8259.specs.Pic as pic
use Rattle.pic8259.specs.Pic.{PicState, after_line}
use Rattle.pit8253.specs.Pit.{PitState, after_tick, after_gate}
use Rattle.ppi8255.specs.Ppi.{lines_b}
use Rattle.keyboard.specs.Keyboard as keys
use Rattle.keyboard.specs.Keyboard.{KeyboardState, after_clearing}
use Rattle.mda_text.specs.Mda as mda
use Rattle.wiring.specs.Chips.{ChipsState}

-- the wires settle: the latch is emptied while line 7 of port B is 1, then gate 2 is line 0 of port B, then IR0 is
-- OUT0, and IR1 is high while the latch is full
unfoldable pub after_settling : ChipsState → ChipsState
after_settling s =
    let keyboard : KeyboardState = if has_bit (lines_b s.ppi) 7 then after_clearing s.keyboard else s.keyboard in
    let pit : PitState = after_gate s.pit 2 (from_bool (has_bit (lines_b s.ppi) 0)) in
    let timed : PicState = after_line s.pic 0 pit.counter_0.out in
    record s { keyboard = keyboard; pit = pit; pic = after_line timed 1 (from_bool (is_some keyboard.latch)) }

-- the counters tick if the number of the clock that is reached is divisible by 4; which of four clocks that is, is this
-- board's choice
abbrev pub pit_after_clock : PitState → ℕ → PitState
pit_after_clock pit clock = if clock % 4 == 0 then after_tick pit else pit

-- one clock goes by: the adapter's beam moves, the counters may tick, and the wires settle
unfoldable pub after_clock : ChipsState → ChipsState
after_clock s =
    after_settling
    (record s { clock = s.clock + 1; mda = mda.after_clock s.mda; pit = pit_after_clock s.pit (s.clock + 1) })

-- n clocks, one after another, in which no key arrives and the keyboard doesn't settle
abbrev pub after_clocks : ChipsState → ℕ → ChipsState
after_clocks s n = iterate after_clock n s

-- a key code reaches the keyboard
unfoldable pub after_arrival : ChipsState → ℕ → ChipsState
after_arrival s code = record s { keyboard = keys.after_arrival s.keyboard code }

-- codes reach the keyboard, one after another
abbrev pub after_arrivals : ChipsState → List ℕ → ChipsState
after_arrivals s codes = fold after_arrival s codes

-- the keyboard settles to the lines of port B, and then the wires settle
unfoldable pub after_key_settling : ChipsState → ChipsState
after_key_settling s = after_settling (record s { keyboard = keys.after_settling s.keyboard (lines_b s.ppi) })

-- the processor acknowledges a request; if no level may be taken, nothing changes
unfoldable pub after_acknowledge : ChipsState → ChipsState
after_acknowledge s = record s { pic = pic.after_acknowledge s.pic }
