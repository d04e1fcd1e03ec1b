-- What the definition of a counter means over time, in the data sheet's terms: the count and the level of OUT any
-- number of ticks later ("Mode Definition" and its timing diagrams), and what a latch shows.
-- Laws: claims above the definitions, each proved as the contract of a function.
use Rattle.std.specs.Prelude.{◌≡◌, ◌≢◌, ℕ, ◌+◌, ◌-◌, ◌*◌, ◌/◌, ◌%◌, ◌<◌, ◌==◌, false}
use Rattle.std.specs.Prelude.{nat_lt, if◌then◌else◌, ◌⊎◌, ◌||◌, ◌&&◌, Bool, None, Some}
use Rattle.board_types.specs.LineLevel.{is_high, opposite}
use Rattle.board_types.specs.declared.line.Line.TheVariants.{Low, High}
use Rattle.pit8253.specs.declared.program.Mode.TheVariants.{TerminalCount, OneShot, RateGenerator}
use Rattle.pit8253.specs.declared.program.Mode.TheVariants.{SquareWave, SoftwareStrobe, HardwareStrobe}
use Rattle.pit8253.specs.declared.program.Access.TheVariants.{LowThenHigh}
use Rattle.pit8253.specs.declared.program.Radix.{Radix}
use Rattle.pit8253.specs.declared.program.Radix.TheVariants.{Binary, Decimal}
use Rattle.pit8253.specs.declared.program.Progress.TheVariants.{Loaded}
use Rattle.pit8253.specs.Program.{modulus, count_of, digits_of, count_minus}
use Rattle.pit8253.specs.Counter.{CounterState, is_awaited, is_loaded, after_load, after_square_load}
use Rattle.pit8253.specs.Counter.{half_step, after_tick, after_ticks, reading, after_latch, after_control_word}
use Rattle.pit8253.specs.Counter.{after_full_count, after_write, next_byte, after_read, after_gate}
use Rattle.pit8253.specs.Pit as pit
use Rattle.pit8253.specs.Pit.{PitState}

-- how many ticks a count stands for: 0 is the largest count, 65,536 or 10,000
abbrev pub length_of : Radix → ℕ → ℕ
length_of radix count = if count == 0 then modulus radix else count

-- the newest count's length
abbrev pub size : CounterState → ℕ
size c = length_of c.radix c.newest

-- how many ticks bring the running count to 0
abbrev pub ticks_left : CounterState → ℕ
ticks_left c = length_of c.count_radix c.count

-- k ticks and then m ticks are k + m ticks
abbrev pub TicksAdd : Type 0
TicksAdd = (k m : ℕ) (c : CounterState) → after_ticks (after_ticks c k) m ≡ after_ticks c (k + m)

-- a counter that has loaded its count and has no load due
pub record Runs (c : CounterState) : Type 0 where
  pub loaded : c.progress ≡ Loaded
  pub none_due : c.load_due ≡ false
  pub within : c.count < modulus c.count_radix

-- a count that falls by 1 at each of n ticks, and goes on from FFFFh or 9999 below 0
abbrev pub count_after : Radix → ℕ → ℕ → ℕ
count_after radix count n = (count + modulus radix - n % modulus radix) % modulus radix

-- modes 0 and 1, n ticks on: OUT is high from the end of the count
abbrev pub after_fall : CounterState → ℕ → CounterState
after_fall c n = record c {
  count = count_after c.count_radix c.count n;
  out = (if nat_lt n (ticks_left c) then c.out else High);
}

-- modes 4 and 5, n ticks on: OUT is low only at the end of the count, if a strobe is due
abbrev pub after_strobe_fall : CounterState → ℕ → CounterState
after_strobe_fall c n = record c {
  count = count_after c.count_radix c.count n;
  strobe_due = c.strobe_due && nat_lt n (ticks_left c);
  out = (if n == 0 then c.out else (if (n == ticks_left c) && c.strobe_due then Low else High));
}

-- mode 2, n ticks on in the same period: OUT goes low for its last tick
abbrev pub after_rate_fall : CounterState → ℕ → CounterState
after_rate_fall c n = record c {
  count = count_after c.count_radix c.count n;
  out = (if n == 0 then c.out else (if n + 1 == ticks_left c then Low else c.out));
}

-- mode 3: the falls that bring the count to 0; an odd count has one more in the high half. If a 0 is kept, a
-- count of 0 has no fall left.
abbrev pub falls_left : CounterState → ℕ
falls_left c =
    let count : ℕ = if c.keeps_zero then c.count else ticks_left c in
    if is_high c.out then (count + 1) / 2 else count / 2

-- mode 3: the ticks to the end of the half. A 0 that is kept has a tick of its own.
abbrev pub half_left : CounterState → ℕ
half_left c = falls_left c + (if c.keeps_zero then 1 else 0)

-- mode 3, n ticks on in the same half: the count is twice the number of falls that are left. An odd count therefore
-- falls by 1 first while OUT is high and by 3 first while it is low, and then by 2.
abbrev pub after_half_fall : CounterState → ℕ → CounterState
after_half_fall c n = record c { count = (if n == 0 then c.count else 2 * (falls_left c - n)) }

-- modes 0 and 1 count down, from any count and for any number of ticks
abbrev pub CountsDown : Type 0
CountsDown =
    (c : CounterState) → Runs c
    → ((c.mode ≡ TerminalCount) × (c.gate ≡ High) × (c.first_byte ≡ None)) ⊎ (c.mode ≡ OneShot) → (n : ℕ)
    → after_ticks c n ≡ after_fall c n

-- modes 4 and 5 count down and strobe at the end, from any count and for any number of ticks
abbrev pub CountsToStrobe : Type 0
CountsToStrobe =
    (c : CounterState) → Runs c → ((c.mode ≡ SoftwareStrobe) × (c.gate ≡ High)) ⊎ (c.mode ≡ HardwareStrobe) → (n : ℕ)
    → after_ticks c n ≡ after_strobe_fall c n

-- mode 2 counts down to the end of the period, which loads the newest count with OUT high
abbrev pub CountsPeriod : Type 0
CountsPeriod =
    (c : CounterState) → Runs c → c.mode ≡ RateGenerator → c.gate ≡ High
    → ((n : ℕ) → n < ticks_left c → after_ticks c n ≡ after_rate_fall c n)
    × (after_ticks c (ticks_left c) ≡ after_load c High)

-- mode 3 counts down to the end of the half, which loads the newest count and turns OUT, except that a newest count of
-- 1 leaves it high
abbrev pub CountsHalf : Type 0
CountsHalf =
    (c : CounterState) → Runs c → c.mode ≡ SquareWave → c.gate ≡ High → c.count ≢ 1
    → ((n : ℕ) → n < half_left c → after_ticks c n ≡ after_half_fall c n)
    × (after_ticks c (half_left c) ≡ after_square_load c (if c.newest == 1 then High else opposite c.out))

-- mode 3: at a count of 1 the next tick loads the newest count with OUT high
abbrev pub ReloadsAtOne : Type 0
ReloadsAtOne =
    (c : CounterState) → Runs c → c.mode ≡ SquareWave → c.gate ≡ High → c.count ≡ 1
    → after_tick c ≡ after_square_load c High

-- mode 2: after a load the count goes round its periods
abbrev pub CountsPeriods : Type 0
CountsPeriods =
    (c : CounterState) → c.mode ≡ RateGenerator → c.gate ≡ High → c.newest < modulus c.radix → (n : ℕ)
    → after_ticks (after_load c High) n ≡ after_rate_fall (after_load c High) (n % size c)

-- mode 3, k ticks into a period
abbrev pub after_square_fall : CounterState → ℕ → CounterState
after_square_fall c k =
    let high : ℕ = (size c + 1) / 2 in
    if nat_lt k high then after_half_fall (after_square_load c High) k
    else after_half_fall (after_square_load c Low) (k - high)

-- mode 3: after a load the count goes round its two halves
abbrev pub CountsHalves : Type 0
CountsHalves =
    (c : CounterState) → c.mode ≡ SquareWave → c.gate ≡ High → c.newest < modulus c.radix → c.newest ≢ 1 → (n : ℕ)
    → after_ticks (after_square_load c High) n ≡ after_square_fall c (n % size c)

-- modes 2 and 3: a count of 1 is loaded again at each tick, and OUT stays high
abbrev pub StaysHigh : Type 0
StaysHigh =
    (c : CounterState) → (c.mode ≡ RateGenerator) ⊎ (c.mode ≡ SquareWave) → c.newest ≡ 1 → (n : ℕ)
    → after_ticks (after_load c High) n ≡ after_load c High

-- mode 0: n ticks after the load OUT is low below the count, and high from then on
abbrev pub CountsOut : Type 0
CountsOut =
    (c : CounterState) → c.mode ≡ TerminalCount → c.gate ≡ High → c.first_byte ≡ None
    → c.newest < modulus c.radix → (n : ℕ)
    → (after_ticks (after_load c Low) n).out ≡ (if nat_lt n (size c) then Low else High)

-- mode 1: n ticks after the load OUT is low below the count, and high from then on, whatever the gate
abbrev pub ShootsOnce : Type 0
ShootsOnce =
    (c : CounterState) → c.mode ≡ OneShot → c.newest < modulus c.radix → (n : ℕ)
    → (after_ticks (after_load c Low) n).out ≡ (if nat_lt n (size c) then Low else High)

-- mode 2: OUT is low for the last tick of each period, whose length is the count
abbrev pub Divides : Type 0
Divides =
    (c : CounterState) → c.mode ≡ RateGenerator → c.gate ≡ High → c.newest < modulus c.radix → c.newest ≢ 1 → (n : ℕ)
    → (after_ticks (after_load c High) n).out ≡ (if n % size c + 1 == size c then Low else High)

-- mode 3: each period is high for the first half of the count and low for the second. Of an odd count N the
-- halves are (N + 1) / 2 and (N - 1) / 2.
abbrev pub MakesSquares : Type 0
MakesSquares =
    (c : CounterState) → c.mode ≡ SquareWave → c.gate ≡ High → c.newest < modulus c.radix → c.newest ≢ 1 → (n : ℕ)
    → (after_ticks (after_square_load c High) n).out ≡ (if nat_lt (n % size c) ((size c + 1) / 2) then High else Low)

-- mode 4: OUT is low for one tick, the one that ends the count, and never again
abbrev pub StrobesOnce : Type 0
StrobesOnce =
    (c : CounterState) → c.mode ≡ SoftwareStrobe → c.gate ≡ High → c.newest < modulus c.radix → (n : ℕ)
    → (after_ticks (after_load c High) n).out ≡ (if n == size c then Low else High)

-- mode 5: OUT is low for one tick, the one that ends the count, and never again, whatever the gate
abbrev pub StrobesOnTrigger : Type 0
StrobesOnTrigger =
    (c : CounterState) → c.mode ≡ HardwareStrobe → c.newest < modulus c.radix → (n : ℕ)
    → (after_ticks (after_load c High) n).out ≡ (if n == size c then Low else High)

-- modes 2 and 3: a low gate sets OUT high at once, and leaves all else as it is
abbrev pub GateSetsHigh : Type 0
GateSetsHigh =
    (c : CounterState) → (c.mode ≡ RateGenerator) ⊎ (c.mode ≡ SquareWave)
    → after_gate c Low ≡ record c { gate = Low; out = High }

-- modes 2 and 3: a rise of the gate after a full count reloads: the next tick loads the newest count with OUT high
abbrev pub RiseReloads : Type 0
RiseReloads =
    (c : CounterState) → c.gate ≡ Low → is_awaited c.progress ≡ false
    → (c.mode ≡ RateGenerator → after_tick (after_gate c High) ≡ after_load (record c { gate = High }) High)
    × (c.mode ≡ SquareWave → after_tick (after_gate c High) ≡ after_square_load (record c { gate = High }) High)

-- two reads of a running count, with no latch and no tick between, give its low byte and then its high one
abbrev pub ReadsBoth : Type 0
ReadsBoth =
    (c : CounterState) → c.access ≡ LowThenHigh → c.high_next ≡ false → c.latch ≡ None → c.status ≡ None
    → (next_byte c ≡ digits_of c.count_radix c.count % 256)
    × (next_byte (after_read c) ≡ digits_of c.count_radix c.count / 256)
    × (after_read (after_read c) ≡ c)

-- a read after a latch and any ticks gives the byte that a read at the latch would have given
abbrev pub LatchHolds : Type 0
LatchHolds = (c : CounterState) (k : ℕ) → next_byte (after_ticks (after_latch c) k) ≡ next_byte c

-- two bytes of one latch, read low then high with any ticks between, are those of one count; then the latch ends
abbrev pub LatchHoldsBoth : Type 0
LatchHoldsBoth =
    (c : CounterState) → c.access ≡ LowThenHigh → c.high_next ≡ false → c.latch ≡ None → c.status ≡ None → (k m : ℕ)
    → (next_byte (after_ticks (after_latch c) k) ≡ digits_of c.count_radix c.count % 256)
    × (next_byte (after_ticks (after_read (after_ticks (after_latch c) k)) m) ≡ digits_of c.count_radix c.count / 256)
    × ((after_read (after_ticks (after_read (after_ticks (after_latch c) k)) m)).latch ≡ None)

-- a second latch before the first is read changes nothing
abbrev pub LatchIsHeld : Type 0
LatchIsHeld = (c : CounterState) (k : ℕ) → after_latch (after_ticks (after_latch c) k) ≡ after_ticks (after_latch c) k

-- four decimal digits count by their weights, and are shown as they were written
abbrev pub CountsInDecimal : Type 0
CountsInDecimal =
    (a b c d : ℕ) → a < 10 → b < 10 → c < 10 → d < 10
    → (count_of Decimal (4096 * a + 256 * b + 16 * c + d) ≡ 1000 * a + 100 * b + 10 * c + d)
    × (digits_of Decimal (1000 * a + 100 * b + 10 * c + d) ≡ 4096 * a + 256 * b + 16 * c + d)

-- the low gate stops counting in modes 0, 2 and 3: with no load due, ticks change nothing
abbrev pub GateStops : Type 0
GateStops =
    (c : CounterState) → c.load_due ≡ false → c.gate ≡ Low
    → (c.mode ≡ TerminalCount) ⊎ ((c.mode ≡ RateGenerator) ⊎ (c.mode ≡ SquareWave)) → (n : ℕ) → after_ticks c n ≡ c

-- mode 4: the low gate stops counting: with no load due, ticks leave the count as it is
abbrev pub GateStopsStrobe : Type 0
GateStopsStrobe =
    (c : CounterState) → c.load_due ≡ false → c.gate ≡ Low → c.mode ≡ SoftwareStrobe → (n : ℕ)
    → (after_ticks c n).count ≡ c.count

-- the first byte of two stops counting in mode 0
abbrev pub FirstByteStops : Type 0
FirstByteStops =
    (c : CounterState) (byte : ℕ) → c.load_due ≡ false → c.mode ≡ TerminalCount → c.first_byte ≡ Some byte → (n : ℕ)
    → after_ticks c n ≡ c

-- mode 3: whether the next tick that counts ends the half
abbrev pub ends_half : CounterState → Bool
ends_half c =
    let count : ℕ = count_minus c.count_radix c.count (half_step c.count c.out) in
    (c.count == 1) || ((if c.keeps_zero then c.count else count) == 0)

-- modes 2 and 3: a new count waits for the end of the period, or of the half. Before that, to write it and to
-- tick is to tick and to write it.
abbrev pub NewCountWaits : Type 0
NewCountWaits =
    (c : CounterState) (word : ℕ) → c.load_due ≡ false → c.progress ≡ Loaded
    → ((c.mode ≡ RateGenerator) × (c.count ≢ 1)) ⊎ ((c.mode ≡ SquareWave) × (ends_half c ≡ false))
    → after_tick (after_full_count c word) ≡ after_full_count (after_tick c) word

-- nothing counts before the first load: with none due, the count is shown as it was, whatever ticks follow
abbrev pub WaitsForLoad : Type 0
WaitsForLoad =
    (c : CounterState) → c.load_due ≡ false → is_loaded c.progress ≡ false → (n : ℕ)
    → reading (after_ticks c n) ≡ reading c

-- how many ticks two bytes stand for, in binary
abbrev pub ticks_of : ℕ → ℕ → ℕ
ticks_of low high = length_of Binary (low + 256 * high)

-- a counter after a control word, which chooses two-byte access and a mode, and then the two bytes
abbrev pub after_setup : CounterState → ℕ → ℕ → ℕ → CounterState
after_setup c word low high = after_write (after_write (after_control_word c word) low) high

-- a counter after a control word and the two bytes, and then a trigger: its gate falls and rises
abbrev pub after_trigger : CounterState → ℕ → ℕ → ℕ → CounterState
after_trigger c word low high = after_gate (after_gate (after_setup c word low high) Low) High

-- mode 0 as a program sets it up: the first tick loads; then OUT is low for the count's ticks
abbrev pub CountsOutAsTold : Type 0
CountsOutAsTold =
    (c : CounterState) → c.gate ≡ High → (low high : ℕ) → low < 256 → high < 256 → (n : ℕ)
    → (after_ticks (after_setup c 0x30 low high) (1 + n)).out ≡ (if nat_lt n (ticks_of low high) then Low else High)

-- mode 1: the first tick after the trigger loads; then OUT is low for the count's ticks
abbrev pub ShootsAsTriggered : Type 0
ShootsAsTriggered =
    (c : CounterState) → (low high : ℕ) → low < 256 → high < 256 → (n : ℕ)
    → (after_ticks (after_trigger c 0x32 low high) (1 + n)).out ≡ (if nat_lt n (ticks_of low high) then Low else High)

-- mode 2 as a program sets it up: the first tick loads; then OUT is low for the last tick of each period
abbrev pub DividesAsTold : Type 0
DividesAsTold =
    (c : CounterState) → c.gate ≡ High → (low high : ℕ) → low < 256 → high < 256 → ticks_of low high ≢ 1 → (n : ℕ)
    → (after_ticks (after_setup c 0x34 low high) (1 + n)).out
    ≡ (if n % ticks_of low high + 1 == ticks_of low high then Low else High)

-- mode 3 as a program sets it up: the first tick loads; then OUT is high for the first half of each period
abbrev pub MakesSquaresAsTold : Type 0
MakesSquaresAsTold =
    (c : CounterState) → c.gate ≡ High → (low high : ℕ) → low < 256 → high < 256 → ticks_of low high ≢ 1 → (n : ℕ)
    → (after_ticks (after_setup c 0x36 low high) (1 + n)).out
    ≡ (if nat_lt (n % ticks_of low high) ((ticks_of low high + 1) / 2) then High else Low)

-- mode 4 as a program sets it up: the first tick loads; then OUT is low for the one tick that ends the count
abbrev pub StrobesAsTold : Type 0
StrobesAsTold =
    (c : CounterState) → c.gate ≡ High → (low high : ℕ) → low < 256 → high < 256 → (n : ℕ)
    → (after_ticks (after_setup c 0x38 low high) (1 + n)).out ≡ (if n == ticks_of low high then Low else High)

-- mode 5: the first tick after the trigger loads; then OUT is low for the one tick that ends the count
abbrev pub StrobesAsTriggered : Type 0
StrobesAsTriggered =
    (c : CounterState) → (low high : ℕ) → low < 256 → high < 256 → (n : ℕ)
    → (after_ticks (after_trigger c 0x3A low high) (1 + n)).out ≡ (if n == ticks_of low high then Low else High)

-- n ticks of the timer are n ticks of each counter
abbrev pub CountersTickAlike : Type 0
CountersTickAlike =
    (n : ℕ) (p : PitState)
    → pit.after_ticks p n ≡ record {
      counter_0 = after_ticks p.counter_0 n;
      counter_1 = after_ticks p.counter_1 n;
      counter_2 = after_ticks p.counter_2 n;
    }
