-- The monochrome text adapter: 4,096 bytes of text memory, the MC6845's registers that say what is shown, the mode
-- register and the status port (Motorola MC6845 data sheet, "Address Register", "Start Address Register (R12-H,
-- R13-L)" and "Cursor Register (R14-H, R15-L)"; IBM PC Technical Reference, "IBM Monochrome Display and Parallel
-- Printer Adapter": the ports 3B4h, 3B5h, 3B8h and 3BAh).
-- To be believed: the headline rests on it.
use Rattle.std.specs.Prelude.{ℕ, ◌+◌, ◌*◌, ◌/◌, ◌%◌, ◌==◌, Bool, false, if◌then◌else◌}
use Rattle.std.specs.Prelude.{nat_le, List, replicate, slice_index, slice_set}
use Rattle.board_types.specs.Bits.{has_bit}
use Rattle.board_types.specs.Iterate.{iterate}
use Rattle.board_types.specs.LineLevel.{from_bool}
use Rattle.board_types.specs.declared.line.Line.{Line}

pub record MdaState : Type 0 where
  -- text memory: of each word the code and then the attribute
  pub bytes : List ℕ
  -- the MC6845's address register: the number of the register that port 3B5h reaches
  pub index : ℕ
  -- R12 and R13: the word that is shown first
  pub start : ℕ
  -- R14 and R15: the word that has the cursor
  pub cursor : ℕ
  -- whether the video is enabled
  pub video : Bool
  -- where the beam stands, counted in processor clocks
  pub raster : ℕ
  -- the characters that were shown at the last mark, in reading order
  pub kept : List ℕ
  -- the number of the last mark, 0 if there is none
  pub last_mark : ℕ
  -- the number that the next mark gets
  pub next_mark : ℕ

-- how many bytes text memory has
unfoldable pub text_size : ℕ
text_size = 4096

-- how many cells the screen has: 25 rows of 80
unfoldable pub cell_count : ℕ
cell_count = 2000

-- power-on: all is 0 and the video is off (this board's choice), and no mark has been made
unfoldable pub power_on : MdaState
power_on = record {
  bytes = replicate text_size 0;
  index = 0;
  start = 0;
  cursor = 0;
  video = false;
  raster = 0;
  kept = replicate cell_count 0;
  last_mark = 0;
  next_mark = 1;
}

-- the byte at an offset of text memory
unfoldable pub text_byte : MdaState → ℕ → ℕ
text_byte m offset = slice_index m.bytes offset

unfoldable pub with_text_byte : MdaState → ℕ → ℕ → MdaState
with_text_byte m offset byte = record m { bytes = slice_set m.bytes offset byte }

-- a register of 14 bits with its high part, six bits wide, replaced
abbrev pub with_high : ℕ → ℕ → ℕ
with_high word byte = byte % 64 * 256 + word % 256

-- a register of 14 bits with its low part, eight bits wide, replaced
abbrev pub with_low : ℕ → ℕ → ℕ
with_low word byte = word / 256 * 256 + byte

-- what register n gives: the cursor reads back, the others can't be read and give 0 (the latter is this board's choice)
abbrev pub register_byte : MdaState → ℕ → ℕ
register_byte m n = if n == 14 then m.cursor / 256 else (if n == 15 then m.cursor % 256 else 0)

-- the adapter after a write to register n; registers that change nothing of the screen's text aren't kept
abbrev pub with_register : MdaState → ℕ → ℕ → MdaState
with_register m n byte =
    if n == 12 then record m { start = with_high m.start byte }
    else (if n == 13 then record m { start = with_low m.start byte }
    else (if n == 14 then record m { cursor = with_high m.cursor byte }
    else (if n == 15 then record m { cursor = with_low m.cursor byte }
    else m)))

-- the status port: bit 0 is 1 in the last 40 of each 259 clocks, as the beam goes back, and the other bits are 1111000
-- (this board's choice)
abbrev pub status : MdaState → ℕ
status m = if nat_le 219 (m.raster % 259) then 0xF1 else 0xF0

-- the level of the status port's bit 0: high as the beam goes back
abbrev pub retrace : MdaState → Line
retrace m = from_bool (has_bit (status m) 0)

-- the byte that a read of a port gives; a read changes nothing, and FFh is read if nothing answers
unfoldable pub byte_at : MdaState → ℕ → ℕ
byte_at m port = if port == 0x3B5 then register_byte m m.index else (if port == 0x3BA then status m else 0xFF)

-- a byte written to a port: bit 3 of the mode register enables the video
unfoldable pub after_write : MdaState → ℕ → ℕ → MdaState
after_write m port byte =
    if port == 0x3B4 then record m { index = byte % 32 }
    else (if port == 0x3B5 then with_register m m.index byte
    else (if port == 0x3B8 then record m { video = has_bit byte 3 }
    else m))

-- one processor clock: the beam is back where it was after 259 (this board's choice)
abbrev pub after_clock : MdaState → MdaState
after_clock m = record m { raster = (m.raster + 1) % 259 }

abbrev pub after_clocks : MdaState → ℕ → MdaState
after_clocks m n = iterate after_clock n m
