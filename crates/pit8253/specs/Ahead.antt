-- A counter any number of ticks ahead, in closed form, and how long its output stays: time is cut at the next load or
-- turn, whole periods go by remainder, and the rest is one fall.
-- For proofs alone: no public contract rests on it.
use Rattle.std.specs.Prelude.{ℕ, ◌+◌, ◌-◌, ◌/◌, ◌%◌, ◌==◌, nat_lt, Bool, true, false}
use Rattle.std.specs.Prelude.{◌&&◌, ◌||◌, if◌then◌else◌, Option, None, Some, is_none}
use Rattle.board_types.specs.LineLevel.{is_high, opposite}
use Rattle.board_types.specs.declared.line.Line.{Line}
use Rattle.board_types.specs.declared.line.Line.TheVariants.{Low, High}
use Rattle.pit8253.specs.declared.program.Mode.{Mode}
use Rattle.pit8253.specs.declared.program.Mode.TheVariants.{TerminalCount, OneShot, RateGenerator}
use Rattle.pit8253.specs.declared.program.Mode.TheVariants.{SquareWave, SoftwareStrobe, HardwareStrobe}
use Rattle.pit8253.specs.Counter.{CounterState, is_loaded, after_load, after_square_load, after_rest}
use Rattle.pit8253.specs.PitLaws.{size, ticks_left, after_fall, after_strobe_fall}
use Rattle.pit8253.specs.PitLaws.{after_rate_fall, half_left, after_half_fall}

-- whether a tick that loads nothing counts
abbrev pub is_counting : CounterState → Mode → Bool
is_counting c TerminalCount = is_loaded c.progress && is_high c.gate && is_none c.first_byte
is_counting c OneShot = is_loaded c.progress
is_counting c RateGenerator = is_loaded c.progress && is_high c.gate
is_counting c SquareWave = is_loaded c.progress && is_high c.gate
is_counting c SoftwareStrobe = is_loaded c.progress && is_high c.gate
is_counting c HardwareStrobe = is_loaded c.progress

-- n ticks that load nothing and don't count: a strobe ends all the same
abbrev pub after_rests : CounterState → Mode → ℕ → CounterState
after_rests c TerminalCount n = c
after_rests c OneShot n = c
after_rests c RateGenerator n = c
after_rests c SquareWave n = c
after_rests c SoftwareStrobe n = if n == 0 then c else after_rest c
after_rests c HardwareStrobe n = if n == 0 then c else after_rest c

-- mode 2, n ticks on: up to the load, and then the remainder of its periods
unfoldable pub after_rate : CounterState → ℕ → CounterState
after_rate c n =
    if nat_lt n (ticks_left c) then after_rate_fall c n
    else after_rate_fall (after_load c High) ((n - ticks_left c) % size c)

-- mode 3: the ticks up to the next load
abbrev pub half_ticks : CounterState → ℕ
half_ticks c = if c.count == 1 then 1 else half_left c

-- mode 3: the next load, which turns OUT; but after a count of 1, and with a newest count of 1, OUT is high
unfoldable pub after_turn : CounterState → CounterState
after_turn c = after_square_load c (if (c.count == 1) || (c.newest == 1) then High else opposite c.out)

-- mode 3, n ticks on, with at most one turn
unfoldable pub after_halves : CounterState → ℕ → CounterState
after_halves c n =
    if nat_lt n (half_ticks c) then after_half_fall c n else after_half_fall (after_turn c) (n - half_ticks c)

-- mode 3, n ticks on: up to the load, and then the remainder of its periods
unfoldable pub after_square : CounterState → ℕ → CounterState
after_square c n =
    if nat_lt n (half_ticks c) then after_half_fall c n else after_halves (after_turn c) ((n - half_ticks c) % size c)

abbrev pub after_counting : CounterState → Mode → ℕ → CounterState
after_counting c TerminalCount n = after_fall c n
after_counting c OneShot n = after_fall c n
after_counting c RateGenerator n = after_rate c n
after_counting c SquareWave n = after_square c n
after_counting c SoftwareStrobe n = after_strobe_fall c n
after_counting c HardwareStrobe n = after_strobe_fall c n

-- n ticks of which none loads what a write or a trigger asked for
unfoldable pub after_run : CounterState → ℕ → CounterState
after_run c n = if is_counting c c.mode then after_counting c c.mode n else after_rests c c.mode n

-- The ticks up to the first change of OUT, if no load is due.

-- modes 0 and 1: the end of the count
abbrev pub until_end : CounterState → Option ℕ
until_end c = if is_high c.out then None else Some (ticks_left c)

-- mode 2: the last tick of the period, or the load after it
abbrev pub until_pulse : CounterState → Option ℕ
until_pulse c =
    if is_high c.out then (
    if ticks_left c == 1 then (if size c == 1 then None else Some (size c)) else Some (ticks_left c - 1))
    else Some (ticks_left c)

-- mode 3: the end of the half, or of the one after it
abbrev pub until_half : CounterState → Option ℕ
until_half c =
    if is_high c.out && (c.newest == 1) then None else (
    if is_high c.out && (c.count == 1) then Some (1 + (size c + 1) / 2) else Some (half_ticks c))

-- modes 4 and 5: the strobe, or its end
abbrev pub until_strobe : CounterState → Option ℕ
until_strobe c =
    if is_high c.out then (if c.strobe_due then Some (ticks_left c) else None)
    else (if (ticks_left c == 1) && c.strobe_due then Some 2 else Some 1)

abbrev pub until_counting : CounterState → Mode → Option ℕ
until_counting c TerminalCount = until_end c
until_counting c OneShot = until_end c
until_counting c RateGenerator = until_pulse c
until_counting c SquareWave = until_half c
until_counting c SoftwareStrobe = until_strobe c
until_counting c HardwareStrobe = until_strobe c

-- if no tick counts: the end of a strobe
abbrev pub until_rest : CounterState → Mode → Option ℕ
until_rest c TerminalCount = None
until_rest c OneShot = None
until_rest c RateGenerator = None
until_rest c SquareWave = None
until_rest c SoftwareStrobe = if is_high c.out then None else Some 1
until_rest c HardwareStrobe = if is_high c.out then None else Some 1

unfoldable pub until_turn : CounterState → Option ℕ
until_turn c = if is_counting c c.mode then until_counting c c.mode else until_rest c c.mode

-- The ticks up to the first change of OUT if a load is due, which takes a tick.

abbrev pub a_tick_later : Option ℕ → Option ℕ
a_tick_later None = None
a_tick_later (Some n) = Some (1 + n)

-- whether OUT turns at a load
abbrev pub differ : Line → Line → Bool
differ Low Low = false
differ Low High = true
differ High Low = true
differ High High = false
