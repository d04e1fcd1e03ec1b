-- What the 8254 does differently from the 8253, over time (Intel 8254 data sheet, "Read-Back Command" with "Null Count
-- Operation", and "Mode 3: Square Wave Mode").
-- Laws: claims above the definitions, each proved as the contract of a function.
use Rattle.std.specs.Prelude.{◌≡◌, ◌≢◌, ℕ, ◌-◌, ◌*◌, ◌+◌, ◌/◌, ◌%◌, ◌<◌, ◌≤◌, ◌==◌, true}
use Rattle.std.specs.Prelude.{false, not, if◌then◌else◌, ◌||◌, ◌&&◌, Bool, None, unwrap_or}
use Rattle.board_types.specs.declared.choice.TimerKind.TheVariants.{I8253, I8254}
use Rattle.board_types.specs.LineLevel.{is_high}
use Rattle.board_types.specs.declared.line.Line.{Line}
use Rattle.board_types.specs.declared.line.Line.TheVariants.{High}
use Rattle.pit8253.specs.declared.program.Mode.{Mode}
use Rattle.pit8253.specs.declared.program.Mode.TheVariants.{TerminalCount, OneShot, RateGenerator}
use Rattle.pit8253.specs.declared.program.Mode.TheVariants.{SquareWave, SoftwareStrobe, HardwareStrobe}
use Rattle.pit8253.specs.declared.program.Access.TheVariants.{LowThenHigh}
use Rattle.pit8253.specs.Program.{modulus, digits_of}
use Rattle.pit8253.specs.Counter.{CounterState, is_loaded, after_square_load, after_tick}
use Rattle.pit8253.specs.Counter.{after_ticks, after_latch, after_control_word, after_full_count}
use Rattle.pit8253.specs.Counter.{next_byte, after_read, status_of, after_read_back}
use Rattle.pit8253.specs.PitLaws.{ends_half}
use Rattle.pit8253.specs.Pit as pit
use Rattle.pit8253.specs.Pit.{PitState}

-- a read-back of the status and the count, and then three reads with any ticks between: the status as it was, and the
-- two bytes of the count as it was; then both latches have ended
abbrev pub ReadsBack : Type 0
ReadsBack =
    (c : CounterState) → c.kind ≡ I8254 → c.access ≡ LowThenHigh
    → c.high_next ≡ false → c.latch ≡ None → c.status ≡ None
    → (word : ℕ) → word / 32 % 2 ≡ 0 → word / 16 % 2 ≡ 0 → (k l m : ℕ)
    → let first : CounterState = after_ticks (after_read_back c word) k in
    let second : CounterState = after_ticks (after_read first) l in
    let third : CounterState = after_ticks (after_read second) m in
    (next_byte first ≡ status_of c)
    × (next_byte second ≡ digits_of c.count_radix c.count % 256)
    × (next_byte third ≡ digits_of c.count_radix c.count / 256)
    × ((after_read third).status ≡ None)
    × ((after_read third).latch ≡ None)

-- a status that is latched, after a count or before it, is read first; its read leaves the latched count and the order
-- of two bytes as they were
abbrev pub StatusComesFirst : Type 0
StatusComesFirst =
    (c : CounterState) → c.kind ≡ I8254 → (word : ℕ) → word / 16 % 2 ≡ 0
    → (next_byte (after_read_back c word) ≡ unwrap_or c.status (status_of c))
    × (after_read (after_read_back c word) ≡ record (if word / 32 % 2 == 0 then after_latch c else c) { status = None })

-- a control word that programs ends both latches, and sets the null count
abbrev pub ProgramEndsLatches : Type 0
ProgramEndsLatches =
    (c : CounterState) (word : ℕ) → word / 16 % 4 ≢ 0
    → ((after_control_word c word).latch ≡ None)
    × ((after_control_word c word).status ≡ None)
    × ((after_control_word c word).is_null ≡ true)

-- a second read-back before any read changes nothing
abbrev pub ReadBackIsHeld : Type 0
ReadBackIsHeld =
    (c : CounterState) (word k : ℕ)
    → after_read_back (after_ticks (after_read_back c word) k) word ≡ after_ticks (after_read_back c word) k

-- whether the next tick loads: if a write or a trigger asked for it, and at the end of a period or of a half
abbrev pub ends_in : CounterState → Mode → Bool
ends_in c TerminalCount = false
ends_in c OneShot = false
ends_in c RateGenerator = c.count == 1
ends_in c SquareWave = ends_half c
ends_in c SoftwareStrobe = false
ends_in c HardwareStrobe = false

abbrev pub loads_next : CounterState → Bool
loads_next c = c.load_due || (is_loaded c.progress && is_high c.gate && ends_in c c.mode)

-- a full count sets the null count, and a tick clears it exactly if it loads
abbrev pub NullTillLoaded : Type 0
NullTillLoaded =
    (c : CounterState) (word : ℕ)
    → ((after_full_count c word).is_null ≡ true) × ((after_tick c).is_null ≡ (c.is_null && not (loads_next c)))

-- mode 3 of an 8254 counts an odd N above 1 from N - 1 by 2, in either half
abbrev pub CountsEven : Type 0
CountsEven =
    (c : CounterState) → c.kind ≡ I8254 → c.mode ≡ SquareWave → c.gate ≡ High → c.newest < modulus c.radix
    → c.newest % 2 ≡ 1 → c.newest ≢ 1 → (out : Line) (k : ℕ)
    → k < (if is_high out then (c.newest + 1) / 2 else c.newest / 2)
    → (after_ticks (after_square_load c out) k).count ≡ c.newest - 1 - 2 * k

-- an 8253 ignores the read-back
abbrev pub KnowsNoReadBack : Type 0
KnowsNoReadBack =
    (p : PitState) → p.counter_0.kind ≡ I8253 → p.counter_1.kind ≡ I8253 → p.counter_2.kind ≡ I8253
    → (word : ℕ) → 192 ≤ word → word < 256 → pit.after_write p 3 word ≡ p

-- from a load on, OUT of an 8254 is that of an 8253, in each mode
abbrev pub MakesTheSameWave : Type 0
MakesTheSameWave =
    (c : CounterState) → c.load_due ≡ true → c.newest < modulus c.radix → c.count < modulus c.count_radix → (n : ℕ)
    → (after_ticks (record c { kind = I8254 }) n).out ≡ (after_ticks (record c { kind = I8253 }) n).out
