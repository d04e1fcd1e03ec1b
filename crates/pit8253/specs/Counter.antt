-- One counter of the timer: its state, what a tick makes of it, and what the processor and the gate do to it
-- (Intel 8253 data sheet, "Mode Definition" and "Programming the 8253"; Intel 8254 data sheet, "Read-Back Command" with
-- "Status Byte" and "Null Count Operation", and "Mode 3: Square Wave Mode").
-- To be believed: the headline rests on it.
use Rattle.std.specs.Prelude.{ℕ, ◌+◌, ◌-◌, ◌*◌, ◌/◌, ◌%◌, ◌==◌, Bool, true, false, not, ◌&&◌, ◌||◌}
use Rattle.std.specs.Prelude.{if◌then◌else◌, Option, None, Some, unwrap_or, is_none, is_some}
use Rattle.board_types.specs.Iterate.{iterate}
use Rattle.board_types.specs.declared.choice.TimerKind.{TimerKind}
use Rattle.board_types.specs.declared.choice.TimerKind.TheVariants.{I8253, I8254}
use Rattle.board_types.specs.declared.line.Line.{Line}
use Rattle.board_types.specs.declared.line.Line.TheVariants.{Low, High}
use Rattle.pit8253.specs.declared.program.Mode.{Mode}
use Rattle.pit8253.specs.declared.program.Mode.TheVariants.{TerminalCount, OneShot, RateGenerator}
use Rattle.pit8253.specs.declared.program.Mode.TheVariants.{SquareWave, SoftwareStrobe, HardwareStrobe}
use Rattle.pit8253.specs.declared.program.Access.{Access}
use Rattle.pit8253.specs.declared.program.Access.TheVariants.{LowByte, HighByte, LowThenHigh}
use Rattle.pit8253.specs.declared.program.Radix.{Radix}
use Rattle.pit8253.specs.declared.program.Radix.TheVariants.{Binary}
use Rattle.pit8253.specs.declared.program.Progress.{Progress}
use Rattle.pit8253.specs.declared.program.Progress.TheVariants.{Awaited, Written, Loaded}
use Rattle.board_types.specs.LineLevel.{is_high, opposite}
use Rattle.pit8253.specs.Program.{mode_of, access_of, radix_of, mode_number, access_number}
use Rattle.pit8253.specs.Program.{radix_number, count_of, digits_of, count_minus}

pub record CounterState : Type 0 where
  pub kind : TimerKind
  pub mode : Mode
  pub access : Access
  -- the radix of the control word, in which counts are written
  pub radix : Radix
  -- the low byte of a count of two bytes whose high byte is still to come
  pub first_byte : Option ℕ
  -- the newest full count since the control word
  pub newest : ℕ
  pub progress : Progress
  -- whether the next tick loads the newest count: a write or a trigger asked for it
  pub load_due : Bool
  -- the running count, and the radix that it was loaded in: a control word doesn't change how it is read (this
  -- board's choice)
  pub count : ℕ
  pub count_radix : Radix
  -- whether the loaded count's strobe is still to come
  pub strobe_due : Bool
  -- the null count, which the 8254 shows: whether nothing was loaded since power-on, the last control word or the last
  -- full count
  pub is_null : Bool
  -- mode 3 of the 8254: whether the running half is the high one of an odd count, which keeps its fall to 0 for a tick
  pub keeps_zero : Bool
  -- the latched count, as it is read, if there is one
  pub latch : Option ℕ
  -- the latched status of an 8254, if there is one
  pub status : Option ℕ
  -- whether the high byte is the next to be read of two: reading and writing keep byte orders of their own (this
  -- board's choice)
  pub high_next : Bool
  pub gate : Line
  pub out : Line

abbrev pub is_8254 : TimerKind → Bool
is_8254 I8253 = false
is_8254 I8254 = true

-- power-on: mode 0, two bytes, binary, no count, OUT low (this board's choice)
abbrev pub power_on : TimerKind → Line → CounterState
power_on kind gate = record {
  kind = kind;
  mode = TerminalCount;
  access = LowThenHigh;
  radix = Binary;
  first_byte = None;
  newest = 0;
  progress = Awaited;
  load_due = false;
  count = 0;
  count_radix = Binary;
  strobe_due = false;
  is_null = true;
  keeps_zero = false;
  latch = None;
  status = None;
  high_next = false;
  gate = gate;
  out = Low;
}

abbrev pub is_awaited : Progress → Bool
is_awaited Awaited = true
is_awaited _ = false

abbrev pub is_loaded : Progress → Bool
is_loaded Loaded = true
is_loaded _ = false

-- The tick.

-- OUT after a load that a write or a trigger asked for
abbrev pub out_at_load : Mode → Line → Line
out_at_load TerminalCount out = out
out_at_load OneShot out = Low
out_at_load _ out = High

-- the newest count becomes the running count
abbrev pub after_load : CounterState → Line → CounterState
after_load c out = record c {
  count = c.newest;
  count_radix = c.radix;
  progress = Loaded;
  load_due = false;
  strobe_due = true;
  is_null = false;
  keeps_zero = false;
  out = out;
}

-- mode 3 of an 8254 loads an odd count above 1 less 1
abbrev pub loads_less : CounterState → Bool
loads_less c = is_8254 c.kind && (c.newest % 2 == 1) && not (c.newest == 1)

-- mode 3: a load of the newest count; if it is 1 less, the high half keeps its fall to 0 for a tick
abbrev pub after_square_load : CounterState → Line → CounterState
after_square_load c out = record (after_load c out) {
  count = (if loads_less c then c.newest - 1 else c.newest);
  keeps_zero = loads_less c && is_high out;
}

-- the load that a write or a trigger asked for
abbrev pub after_due_load : CounterState → Mode → CounterState
after_due_load c SquareWave = after_square_load c (out_at_load SquareWave c.out)
after_due_load c mode = after_load c (out_at_load mode c.out)

-- modes 0 and 1: the count falls by 1, and at 0 OUT goes high
abbrev pub after_decrement : CounterState → CounterState
after_decrement c =
    let count : ℕ = count_minus c.count_radix c.count 1 in
    record c { count = count; out = (if count == 0 then High else c.out) }

-- mode 2: at 1 the newest count is loaded with OUT high; else the count falls by 1, and at 1 OUT goes low
abbrev pub after_rate_count : CounterState → CounterState
after_rate_count c =
    let count : ℕ = count_minus c.count_radix c.count 1 in
    if c.count == 1 then after_load c High else record c { count = count; out = (if count == 1 then Low else c.out) }

-- mode 3: by how much a count falls. An odd one, which was loaded just before, falls by 1 in the high half
-- and by 3 in the low one. The half is the one that OUT shows, also after a change of the gate (this board's
-- choice).
abbrev pub half_step : ℕ → Line → ℕ
half_step count out = if count % 2 == 0 then 2 else (if is_high out then 1 else 3)

-- mode 3: a fall to 0, or the tick after one that is kept, loads the newest count instead and turns OUT; a loaded 1
-- leaves OUT high, and the next tick loads again with OUT high (this board's choice)
abbrev pub after_square_count : CounterState → CounterState
after_square_count c =
    let count : ℕ = count_minus c.count_radix c.count (half_step c.count c.out) in
    if c.count == 1 then after_square_load c High else (
    if (if c.keeps_zero then c.count else count) == 0 then
    after_square_load c (if c.newest == 1 then High else opposite c.out)
    else record c { count = count })

-- modes 4 and 5: the count falls by 1; at 0, once for each load, OUT goes low for one tick (once: this board's
-- choice)
abbrev pub after_strobe_count : CounterState → CounterState
after_strobe_count c =
    let count : ℕ = count_minus c.count_radix c.count 1 in
    let strobes : Bool = (count == 0) && c.strobe_due in
    record c { count = count; strobe_due = c.strobe_due && not strobes; out = (if strobes then Low else High) }

-- modes 4 and 5: a tick that doesn't count ends a strobe too (this board's choice)
abbrev pub after_rest : CounterState → CounterState
after_rest c = record c { out = High }

-- a tick that loads nothing. Nothing counts before the first load; the gate stops counting in modes 0, 2, 3
-- and 4, and in mode 0 the first byte of two does.
abbrev pub after_count : CounterState → Mode → CounterState
after_count c TerminalCount =
    if is_loaded c.progress && is_high c.gate && is_none c.first_byte then after_decrement c else c
after_count c OneShot = if is_loaded c.progress then after_decrement c else c
after_count c RateGenerator = if is_loaded c.progress && is_high c.gate then after_rate_count c else c
after_count c SquareWave = if is_loaded c.progress && is_high c.gate then after_square_count c else c
after_count c SoftwareStrobe = if is_loaded c.progress && is_high c.gate then after_strobe_count c else after_rest c
after_count c HardwareStrobe = if is_loaded c.progress then after_strobe_count c else after_rest c

-- one tick: a falling edge of CLK. A tick that loads doesn't count.
unfoldable pub after_tick : CounterState → CounterState
after_tick c = if c.load_due then after_due_load c c.mode else after_count c c.mode

-- n ticks, one after another
abbrev pub after_ticks : CounterState → ℕ → CounterState
after_ticks c n = iterate after_tick n c

-- the level of OUT
abbrev pub out_of : CounterState → Line
out_of c = c.out

-- The control word.

-- OUT after a control word
abbrev pub out_at_control : Mode → Line
out_at_control TerminalCount = Low
out_at_control _ = High

-- what the counter shows: the latch, or else the running count in the radix that it was loaded in
abbrev pub reading : CounterState → ℕ
reading c = unwrap_or c.latch (digits_of c.count_radix c.count)

-- a latch of the count holds what the counter shows: what was latched before and isn't read yet stays (this board's
-- choice)
unfoldable pub after_latch : CounterState → CounterState
after_latch c = record c { latch = Some (reading c) }

-- a control word that programs: the mode, the access and the radix are new, OUT takes the mode's first level, and all
-- else is as at power-on; but the count, which runs no more, stays to be read
abbrev pub after_program : CounterState → Mode → Access → Radix → CounterState
after_program c mode access radix = record (power_on c.kind c.gate) {
  mode = mode;
  access = access;
  radix = radix;
  count = c.count;
  count_radix = c.count_radix;
  out = out_at_control mode;
}

-- bits 5 to 0 of a control word: access 00 latches, any other programs
unfoldable pub after_control_word : CounterState → ℕ → CounterState
after_control_word c word =
    if word / 16 % 4 == 0 then after_latch c else
    after_program c (mode_of (word / 2 % 8)) (access_of (word / 16 % 4)) (radix_of (word % 2))

-- Writing a count.

-- whether a full count is loaded at the next tick: always in modes 0 and 4, in modes 2 and 3 the first
abbrev pub loads_when_written : Mode → Progress → Bool
loads_when_written TerminalCount progress = true
loads_when_written SoftwareStrobe progress = true
loads_when_written RateGenerator progress = is_awaited progress
loads_when_written SquareWave progress = is_awaited progress
loads_when_written _ progress = false

-- in mode 0 a full count, or the first of two bytes, sets OUT low
abbrev pub out_at_write : Mode → Line → Line
out_at_write TerminalCount out = Low
out_at_write _ out = out

-- a full count of sixteen bits takes the place of the one before, even if that isn't loaded yet
abbrev pub after_full_count : CounterState → ℕ → CounterState
after_full_count c word = record c {
  first_byte = None;
  newest = count_of c.radix word;
  progress = (if is_loaded c.progress then Loaded else Written);
  load_due = c.load_due || loads_when_written c.mode c.progress;
  is_null = true;
  out = out_at_write c.mode c.out;
}

-- one of two bytes, by what was written before it: the low byte waits for the high one
abbrev pub after_byte_of_two : CounterState → Option ℕ → ℕ → CounterState
after_byte_of_two c None byte = record c { first_byte = Some byte; out = out_at_write c.mode c.out }
after_byte_of_two c (Some low) byte = after_full_count c (low + 256 * byte)

abbrev pub after_write_by : CounterState → Access → ℕ → CounterState
after_write_by c LowByte byte = after_full_count c byte
after_write_by c HighByte byte = after_full_count c (256 * byte)
after_write_by c LowThenHigh byte = after_byte_of_two c c.first_byte byte

-- a byte written to the counter: with one-byte access the other byte is 0 (this board's choice)
unfoldable pub after_write : CounterState → ℕ → CounterState
after_write c byte = after_write_by c c.access byte

-- Reading the counter.

-- whether a read gives the high byte
abbrev pub reads_high : Access → Bool → Bool
reads_high LowByte high_next = false
reads_high HighByte high_next = true
reads_high LowThenHigh high_next = high_next

-- the byte that a read gives: a latched status before all else
unfoldable pub next_byte : CounterState → ℕ
next_byte c = unwrap_or c.status (if reads_high c.access c.high_next then reading c / 256 else reading c % 256)

-- a read ends the latch with its last byte, and turns the order of two bytes
abbrev pub after_read_by : CounterState → Access → CounterState
after_read_by c LowThenHigh =
    if c.high_next then record c { latch = None; high_next = false } else record c { high_next = true }
after_read_by c _ = record c { latch = None }

-- a read of a latched status ends it, and leaves the order of two bytes as it is
unfoldable pub after_read : CounterState → CounterState
after_read c = if is_some c.status then record c { status = None } else after_read_by c c.access

-- Reading the 8254 back.

-- the status byte: OUT, the null count, and the access, the mode and the radix of the control word. Modes x10 and x11
-- show as 2 and 3 (this board's choice).
abbrev pub status_of : CounterState → ℕ
status_of c =
    128 * (if is_high c.out then 1 else 0) + 64 * (if c.is_null then 1 else 0) + 16 * access_number c.access
    + 2 * mode_number c.mode + radix_number c.radix

-- a latch of the status: what was latched before and isn't read yet stays
unfoldable pub after_status_latch : CounterState → CounterState
after_status_latch c = record c { status = Some (unwrap_or c.status (status_of c)) }

-- a read-back that names the counter latches the count if bit 5 is 0, and the status if bit 4 is 0. The 8253 has none.
unfoldable pub after_read_back : CounterState → ℕ → CounterState
after_read_back c word =
    let counted : CounterState = if word / 32 % 2 == 0 then after_latch c else c in
    if is_8254 c.kind then (if word / 16 % 2 == 0 then after_status_latch counted else counted) else c

-- The gate.

abbrev pub rises : Line → Line → Bool
rises before after = not (is_high before) && is_high after

-- whether a rise of the gate loads
abbrev pub is_triggered : Mode → Bool
is_triggered TerminalCount = false
is_triggered SoftwareStrobe = false
is_triggered _ = true

-- in modes 2 and 3 a low gate sets OUT high at once
abbrev pub out_at_gate : Mode → Line → Line → Line
out_at_gate RateGenerator gate out = if is_high gate then out else High
out_at_gate SquareWave gate out = if is_high gate then out else High
out_at_gate _ gate out = out

-- the gate takes a level; in modes 1, 2, 3 and 5 its rise after a full count is a trigger, which no later fall
-- takes back (this board's choice)
unfoldable pub after_gate : CounterState → Line → CounterState
after_gate c gate = record c {
  gate = gate;
  load_due = c.load_due || (rises c.gate gate && is_triggered c.mode && not (is_awaited c.progress));
  out = out_at_gate c.mode gate c.out;
}
