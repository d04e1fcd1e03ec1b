-- A timer as plain numbers, for callers that know no enums: what each number stands for. All numbers stand for
-- something, so any bytes are some timer.
-- To be believed by callers of this crate: the headline does not rest on it.
use Rattle.std.specs.Prelude.{ℕ, ◌%◌, ◌==◌, ◌<◌, Bool, true, false, if◌then◌else◌, Option, None, Some}
use Rattle.board_types.specs.declared.choice.TimerKind.{TimerKind}
use Rattle.board_types.specs.declared.choice.TimerKind.TheVariants.{I8253, I8254}
use Rattle.board_types.specs.declared.line.Line.{Line}
use Rattle.board_types.specs.declared.line.Line.TheVariants.{Low, High}
use Rattle.pit8253.specs.declared.program.Progress.{Progress}
use Rattle.pit8253.specs.declared.program.Progress.TheVariants.{Awaited, Written, Loaded}
use Rattle.pit8253.specs.declared.image.CounterImage.{CounterImage}
use Rattle.pit8253.specs.declared.image.PitImage.{PitImage}
use Rattle.pit8253.specs.Program.{mode_of, access_of, radix_of, modulus}
use Rattle.pit8253.specs.Counter.{CounterState}
use Rattle.pit8253.specs.Pit.{PitState}

-- false for 0, and true for any other number
abbrev pub flag_of : ℕ → Bool
flag_of n = if n == 0 then false else true

-- a low wire for 0, and a high one for any other number
abbrev pub line_of : ℕ → Line
line_of n = if n == 0 then Low else High

-- the number, or none if `is_there` is 0
abbrev pub option_of : ℕ → ℕ → Option ℕ
option_of is_there n = if is_there == 0 then None else Some n

-- 0 is no full count yet, 1 one that waits to be loaded, any other number a loaded one
abbrev pub progress_of : ℕ → Progress
progress_of n = if n == 0 then Awaited else (if n == 1 then Written else Loaded)

-- 0 is an 8253, and any other number an 8254
abbrev pub kind_of : ℕ → TimerKind
kind_of n = if n == 0 then I8253 else I8254

-- mode, access and radix are spelled as a control word's fields, their upper bits left out; a count past its radix
-- counts modulo it
unfoldable pub counter_of : CounterImage → CounterState
counter_of i = record {
  kind = kind_of i.kind;
  mode = mode_of (i.mode % 8);
  access = access_of (i.access % 4);
  radix = radix_of i.radix;
  first_byte = option_of i.has_first_byte i.first_byte;
  newest = i.newest % modulus (radix_of i.radix);
  progress = progress_of i.progress;
  load_due = flag_of i.load_due;
  count = i.count % modulus (radix_of i.count_radix);
  count_radix = radix_of i.count_radix;
  strobe_due = flag_of i.strobe_due;
  is_null = flag_of i.is_null;
  keeps_zero = flag_of i.keeps_zero;
  latch = option_of i.has_latch i.latch;
  status = option_of i.has_status i.status;
  high_next = flag_of i.high_next;
  gate = line_of i.gate;
  out = line_of i.out;
}

unfoldable pub pit_of : PitImage → PitState
pit_of i = record {
  counter_0 = counter_of i.counter_0;
  counter_1 = counter_of i.counter_1;
  counter_2 = counter_of i.counter_2;
}

-- what is true of every counter: its counts are below its radix's number of counts
abbrev pub IsCounter : CounterState → Type 0
IsCounter c = (c.newest < modulus c.radix) × (c.count < modulus c.count_radix)

-- any numbers give a timer each of whose counts is below its radix's number of counts
abbrev pub AnyNumbersAreATimer : Type 0
AnyNumbersAreATimer =
    (i : PitImage)
    → IsCounter (pit_of i).counter_0 × IsCounter (pit_of i).counter_1 × IsCounter (pit_of i).counter_2
