-- The 8255A Programmable Peripheral Interface as the board wires it, in mode 0 (Intel 8255A data sheet, "Mode
-- Selection", "Single Bit Set/Reset Feature", "Operating Modes: Mode 0"; IBM PC Technical Reference, "System
-- Board I/O": the bits of ports 60h to 63h).
-- To be believed: the headline rests on it.
use Rattle.std.specs.Prelude.{ℕ, ◌+◌, ◌-◌, ◌*◌, ◌/◌, ◌%◌, ◌^◌, ◌==◌, Bool, if◌then◌else◌, unwrap_or}
use Rattle.std.specs.Int.{bit_at}
use Rattle.std.specs.Int.Bits.{bit_and, bit_or}
use Rattle.board_types.specs.Bits.{has_bit}
use Rattle.board_types.specs.LineLevel.{is_high}
use Rattle.ppi8255.specs.declared.ppi.Direction.{Direction}
use Rattle.ppi8255.specs.declared.ppi.Direction.TheVariants.{Input, Output}
use Rattle.ppi8255.specs.declared.ppi.Inputs.{Inputs}

-- the two switch blocks, the direction of each group of lines, and the output latch of each port
pub record PpiState : Type 0 where
  pub sw1 : ℕ
  pub sw2 : ℕ
  pub a : Direction
  pub b : Direction
  pub c_upper : Direction
  pub c_lower : Direction
  pub a_latch : ℕ
  pub b_latch : ℕ
  pub c_latch : ℕ

-- after reset every port is an input, and the latches are clear
abbrev pub power_on : ℕ → ℕ → PpiState
power_on sw1 sw2 = record {
  sw1 = sw1;
  sw2 = sw2;
  a = Input;
  b = Input;
  c_upper = Input;
  c_lower = Input;
  a_latch = 0;
  b_latch = 0;
  c_latch = 0;
}

-- what a port shows: an output its latch, an input its pins
abbrev pub port_byte : Direction → ℕ → ℕ → ℕ
port_byte Output latch pins = latch
port_byte Input latch pins = pins

-- the eight lines of port B, which no pin of the board drives
abbrev pub lines_b : PpiState → ℕ
lines_b s = port_byte s.b s.b_latch 0

-- the pins of port A: SW1 if line 7 of port B is 1, else the keyboard's latch
abbrev pub pins_a : PpiState → Inputs → ℕ
pins_a s inputs = if has_bit (lines_b s) 7 then s.sw1 else unwrap_or inputs.latch 0

-- pins 3 to 0 of port C: the first four switches of SW2 if line 2 of port B is 1, else the fifth alone
abbrev pub switches_c : PpiState → ℕ
switches_c s = if has_bit (lines_b s) 2 then s.sw2 % 16 else bit_at s.sw2 4

-- the pins of port C: the switches, and counter 2's output on pin 5
abbrev pub pins_c : PpiState → Inputs → ℕ
pins_c s inputs = switches_c s + (if is_high inputs.out2 then 2 ^ 5 else 0)

-- port C: bits 7 to 4 go by the direction of its upper half, bits 3 to 0 by that of its lower half
abbrev pub port_c_byte : PpiState → ℕ → ℕ
port_c_byte s pins = port_byte s.c_upper s.c_latch pins / 16 * 16 + port_byte s.c_lower s.c_latch pins % 16

-- what a read gives: port 0 is A, 1 is B, 2 is C; the control register can't be read, and the bus shows FFh
unfoldable pub byte_at : PpiState → ℕ → Inputs → ℕ
byte_at s port inputs =
    if port == 0 then port_byte s.a s.a_latch (pins_a s inputs)
    else (if port == 1 then lines_b s
    else (if port == 2 then port_c_byte s (pins_c s inputs)
    else 0xFF))

-- the direction that bit k of a mode word gives: 1 stands for an input
abbrev pub direction_of : ℕ → ℕ → Direction
direction_of word k = if has_bit word k then Input else Output

-- a mode word sets the directions, and the output latches are clear as after reset; its mode bits 6, 5 and 2 are
-- ignored (this board's choice)
abbrev pub after_mode_word : PpiState → ℕ → PpiState
after_mode_word s word = record (power_on s.sw1 s.sw2) {
  a = direction_of word 4;
  b = direction_of word 1;
  c_upper = direction_of word 3;
  c_lower = direction_of word 0;
}

-- a byte whose bit k is made 1 if `set` holds, else 0
abbrev pub with_bit : ℕ → ℕ → Bool → ℕ
with_bit byte k set = if set then bit_or byte (2 ^ k) else bit_and byte (2 ^ 8 - 1 - 2 ^ k)

-- a write: a port's byte goes into its output latch, whatever its direction; a control word is a mode word if its bit 7
-- is 1, and else its bits 3 to 1 name a bit of port C, which becomes its bit 0
unfoldable pub after_write : PpiState → ℕ → ℕ → PpiState
after_write s port byte =
    if port == 0 then record s { a_latch = byte }
    else (if port == 1 then record s { b_latch = byte }
    else (if port == 2 then record s { c_latch = byte }
    else (if has_bit byte 7 then after_mode_word s byte
    else record s { c_latch = with_bit s.c_latch (byte / 2 % 8) (has_bit byte 0) })))
