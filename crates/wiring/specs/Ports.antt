-- The addresses and the ports of the chips (IBM PC Technical Reference, "System Memory Map" and "I/O Address Map").
-- That FFh is read and a write is lost if nothing answers is this board's choice.
-- To be believed: the headline rests on it.
use Rattle.std.specs.Prelude.{ℕ, ◌-◌, ◌==◌, Bool, true, false, ◌&&◌, ◌||◌, if◌then◌else◌, nat_le, nat_lt, length}
use Rattle.bus.specs.Bus.{BusMeaning}
use Rattle.memory.specs.Regions.{is_text_address}
use Rattle.memory.specs.Map as map
use Rattle.pic8259.specs.Pic as pic
use Rattle.pit8253.specs.Pit as pit
use Rattle.ppi8255.specs.Ppi as ppi
use Rattle.mda_text.specs.Mda as mda
use Rattle.wiring.specs.declared.port.Port.{Port}
use Rattle.wiring.specs.declared.port.Port.TheVariants.{Controller, Timer, Parallel, Adapter, Nothing}
use Rattle.wiring.specs.Chips.{ChipsState}
use Rattle.wiring.specs.Wires.{after_settling}

-- the byte at an address: text memory is the adapter's
unfoldable pub byte_at : ChipsState → ℕ → ℕ
byte_at s address =
    if is_text_address address then mda.text_byte s.mda (address - 0xB0000) else map.byte_at s.memory address

-- a write changes the byte of a RAM or text address, and no other
unfoldable pub with_byte : ChipsState → ℕ → ℕ → ChipsState
with_byte s address byte =
    if is_text_address address then record s { mda = mda.with_text_byte s.mda (address - 0xB0000) byte }
    else record s { memory = map.with_byte s.memory address byte }

-- RAM and text memory take bytes
unfoldable pub is_writable : ChipsState → ℕ → Bool
is_writable s address =
    if is_text_address address then nat_lt (address - 0xB0000) (length s.mda.bytes)
    else map.is_writable s.memory address

-- what answers at a port: the interrupt controller at 20h and 21h, which are its A0 = 0 and 1, the timer at 40h to
-- 43h, the parallel port at 60h to 63h, the text adapter at 3B4h, 3B5h, 3B8h and 3BAh. That they don't answer at
-- further ports too is this board's choice
unfoldable pub port_at : ℕ → Port
port_at n =
    if n == 0x20 then Controller false
    else if n == 0x21 then Controller true
    else if nat_le 0x40 n && nat_le n 0x43 then Timer (n - 0x40)
    else if nat_le 0x60 n && nat_le n 0x63 then Parallel (n - 0x60)
    else if (n == 0x3B4) || (n == 0x3B5) || (n == 0x3B8) || (n == 0x3BA) then Adapter n
    else Nothing

-- the byte that a read of a chip's port gives
abbrev pub port_byte : ChipsState → Port → ℕ
port_byte s (Controller a0) = pic.byte_at s.pic a0
port_byte s (Timer n) = pit.byte_at s.pit n
port_byte s (Parallel n) = ppi.byte_at s.ppi n (record { latch = s.keyboard.latch; out2 = s.pit.counter_2.out })
port_byte s (Adapter n) = mda.byte_at s.mda n
port_byte s Nothing = 0xFF

-- the chips after a read of a chip's port, before the wires settle
abbrev pub after_port_read : ChipsState → Port → ChipsState
after_port_read s (Controller a0) = record s { pic = pic.after_read s.pic }
after_port_read s (Timer n) = record s { pit = pit.after_read s.pit n }
after_port_read s _ = s

-- the chips after a write to a chip's port, before the wires settle
abbrev pub after_port_write : ChipsState → Port → ℕ → ChipsState
after_port_write s (Controller a0) byte = record s { pic = pic.after_write s.pic a0 byte }
after_port_write s (Timer n) byte = record s { pit = pit.after_write s.pit n byte }
after_port_write s (Parallel n) byte = record s { ppi = ppi.after_write s.ppi n byte }
after_port_write s (Adapter n) byte = record s { mda = mda.after_write s.mda n byte }
after_port_write s Nothing byte = s

-- the byte that the port with this number gives
unfoldable pub input : ChipsState → ℕ → ℕ
input s port = port_byte s (port_at port)

-- the chips after a port is read, and after one is written: the wires settle after each access (this board's choice)
unfoldable pub after_input : ChipsState → ℕ → ChipsState
after_input s port = after_settling (after_port_read s (port_at port))

unfoldable pub after_output : ChipsState → ℕ → ℕ → ChipsState
after_output s port byte = after_settling (after_port_write s (port_at port) byte)

-- the bus of the system board
abbrev pub chips_bus : BusMeaning ChipsState
chips_bus = record {
  byte_at = byte_at;
  after_write = with_byte;
  is_writable = is_writable;
  input = input;
  after_input = after_input;
  after_output = after_output;
}
