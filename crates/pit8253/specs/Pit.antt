-- The timer: three counters, reached through four ports (Intel 8253 data sheet, "Block Diagram" and "Programming the
-- 8253"; Intel 8254 data sheet, "Read-Back Command").
-- To be believed: the headline rests on it.
use Rattle.std.specs.Prelude.{ℕ, ◌/◌, ◌%◌, ◌==◌, if◌then◌else◌}
use Rattle.board_types.specs.Iterate.{iterate}
use Rattle.board_types.specs.declared.choice.TimerKind.{TimerKind}
use Rattle.board_types.specs.declared.line.Line.{Line}
use Rattle.board_types.specs.declared.line.Line.TheVariants.{Low, High}
use Rattle.pit8253.specs.Counter as one
use Rattle.pit8253.specs.Counter.{CounterState}

pub record PitState : Type 0 where
  pub counter_0 : CounterState
  pub counter_1 : CounterState
  pub counter_2 : CounterState

-- gates 0 and 1 are high and gate 2 is low, as this board wires them
unfoldable pub power_on : TimerKind → PitState
power_on kind = record {
  counter_0 = one.power_on kind High;
  counter_1 = one.power_on kind High;
  counter_2 = one.power_on kind Low;
}

-- counter n, n below 3
abbrev pub counter : PitState → ℕ → CounterState
counter p n = if n == 0 then p.counter_0 else (if n == 1 then p.counter_1 else p.counter_2)

-- the timer with another state of counter n; nothing changes if n is 3 or more
abbrev pub with_counter : PitState → ℕ → CounterState → PitState
with_counter p n c =
    if n == 0 then record p { counter_0 = c } else (
    if n == 1 then record p { counter_1 = c } else (
    if n == 2 then record p { counter_2 = c } else p))

-- one tick of the three counters
unfoldable pub after_tick : PitState → PitState
after_tick p = record {
  counter_0 = one.after_tick p.counter_0;
  counter_1 = one.after_tick p.counter_1;
  counter_2 = one.after_tick p.counter_2;
}

-- n ticks of the three counters, one after another
abbrev pub after_ticks : PitState → ℕ → PitState
after_ticks p n = iterate after_tick n p

-- a read-back reaches counters 0, 1 and 2 if bits 1, 2 and 3, which name them, are 1; bit 0 names none (this board's
-- choice)
abbrev pub after_read_back : PitState → ℕ → PitState
after_read_back p word = record {
  counter_0 = if word / 2 % 2 == 1 then one.after_read_back p.counter_0 word else p.counter_0;
  counter_1 = if word / 4 % 2 == 1 then one.after_read_back p.counter_1 word else p.counter_1;
  counter_2 = if word / 8 % 2 == 1 then one.after_read_back p.counter_2 word else p.counter_2;
}

-- a control word goes to the counter that its bits 7 and 6 name; 11 is a read-back, which an 8253 ignores (this board's
-- choice)
abbrev pub after_control_word : PitState → ℕ → PitState
after_control_word p word =
    if word / 64 == 3 then after_read_back p word
    else with_counter p (word / 64) (one.after_control_word (counter p (word / 64)) word)

-- a byte written to port 0, 1 or 2 goes to that counter, one written to port 3 is a control word
unfoldable pub after_write : PitState → ℕ → ℕ → PitState
after_write p port byte =
    if port == 3 then after_control_word p byte else with_counter p port (one.after_write (counter p port) byte)

-- the byte read at a port: port 3 gives FFh, as the board's bus does if nothing answers
unfoldable pub byte_at : PitState → ℕ → ℕ
byte_at p port = if port == 3 then 0xFF else one.next_byte (counter p port)

unfoldable pub after_read : PitState → ℕ → PitState
after_read p port = with_counter p port (one.after_read (counter p port))

-- gate n takes a level
unfoldable pub after_gate : PitState → ℕ → Line → PitState
after_gate p n line = with_counter p n (one.after_gate (counter p n) line)
