-- Clocks in which nothing happens but that the beam moves, the counters tick and the processor is busy or idle: how
-- many there are at least, and what a board is after them.
-- For proofs alone: no public contract rests on it.
use Rattle.wiring.specs.Chips.{ChipsState}
use Rattle.wiring.specs.EachWire.{is_requested}
use Rattle.std.specs.Prelude.{ℕ, ◌≡◌, ◌≢◌, ◌+◌, ◌-◌, ◌<◌, ◌≤◌, ◌^◌, ◌⊎◌, [], Bool, true, false, min, Option, None, Some}
use Rattle.board_types.specs.Timed.{IsSteady}
use Rattle.cached_chips.specs.QuietChips.{IsQuiet}
use Rattle.execute_meaning.specs.Boundaries.{boundary_of}
use Rattle.execute_meaning.specs.Cpu.{CpuState}
use Rattle.execute_meaning.specs.declared.boundary.Boundary.{Boundary}
use Rattle.execute_meaning.specs.declared.boundary.Boundary.TheVariants as boundaries
use Rattle.pit8253.specs.Counter.{after_ticks, out_of}
use Rattle.scheduler.specs.declared.deadlines.Source.{Source}
use Rattle.scheduler.specs.declared.deadlines.Source.TheVariants.{Counter0, Counter2, Keys, Processor, End}
use Rattle.scheduler.specs.Deadlines.{DeadlinesState, IsNext}
use Rattle.wiring.specs.Edges.{ticks_between, IsEdgeOf}
use Rattle.wiring.specs.Speaker.{is_speaker_high_after}
use Rattle.wiring.specs.Leap as wires
use Rattle.board_plain.specs.declared.act.Act.{Act}
use Rattle.board_plain.specs.declared.act.Act.TheVariants.{Nothing}
use Rattle.board.specs.Arrivals.{IsNextStamp}
use Rattle.board_plain.specs.BoardLaws.{NoKeyComes, WiresHold, writes_of}
use Rattle.board_plain.specs.Plain.{Plain, clock_of, next_act}
use Rattle.board.specs.LongLeaps.{IsMaximalTo}

-- an act that does nothing
abbrev pub is_idle : Act → Bool
is_idle Nothing = true
is_idle _ = false

-- the processor does nothing for n clocks: it is busy in them, or it is free and stays idle
abbrev pub StaysIdle : Plain → ℕ → Type 0
StaysIdle s n = (n ≤ s.busy) ⊎ ((s.busy ≡ 0) × (boundary_of s.cpu (is_requested s.chips) ≡ boundaries.Nothing))

pub record AreUneventful (s : Plain) (n : ℕ) : Type 0 where
  pub idle : StaysIdle s n
  pub no_key : NoKeyComes s n
  pub out_0 : IsSteady after_ticks out_of s.chips.pit.counter_0 (ticks_between s.chips.clock (s.chips.clock + n))
  pub out_2 : IsSteady after_ticks out_of s.chips.pit.counter_2 (ticks_between s.chips.clock (s.chips.clock + n))

-- a stamp, if there is one, is later than a clock
abbrev pub ComesAfter : ℕ → Option ℕ → Type 0
ComesAfter clock None = Unit {0}
ComesAfter clock (Some at) = clock < at

-- the processor is at a free boundary of this case, and the chips are quiet up to the next clock
pub record IsQuietBoundary (s : Plain) (boundary : Boundary) : Type 0 where
  pub free : s.busy ≡ 0
  pub at : boundary ≡ boundary_of s.cpu (is_requested s.chips)
  pub quiet : IsQuiet s.chips (s.chips.clock + 1)
  pub wires : WiresHold s.chips

-- an act that isn't `Nothing` and by which no port changes the speaker's level
pub record IsSilentAct (cpu : CpuState) (chips : ChipsState) (act : Act) : Type 0 where
  pub some : is_idle act ≡ false
  pub level : is_speaker_high_after chips (writes_of cpu act) ≡ is_speaker_high_after chips []

-- the processor makes an act that leaves the speaker's level, and the chips are quiet up to the next clock
pub record ActsQuietly (s : Plain) : Type 0 where
  pub act : IsSilentAct s.cpu s.chips (next_act s)
  pub quiet : IsQuiet s.chips (s.chips.clock + 1)
  pub wires : WiresHold s.chips

-- n idle and quiet clocks at once
unfoldable pub after_leap : Plain → ℕ → Plain
after_leap s n = record s { busy = s.busy - n; chips = wires.after_leap s.chips n }

-- n clocks that are leapt over at once can't be more
abbrev pub IsMaximal : ℕ → Plain → ℕ → Type 0
IsMaximal limit s n = IsMaximalTo limit s n (after_leap s n)

-- the clock at which a busy processor becomes free, unless it is later than 2^40
abbrev pub IsFreeClock : Plain → Option ℕ → Type 0
IsFreeClock s None = (s.busy ≡ 0) ⊎ (2 ^ 40 < s.chips.clock + s.busy)
IsFreeClock s (Some at) = (1 ≤ s.busy) × (at ≡ s.chips.clock + s.busy)

-- the clock at which a busy processor becomes free, at most `end`; `end` of a free one
abbrev pub IsFreeBy : ℕ → Plain → ℕ → Type 0
IsFreeBy end s free = ((s.busy ≡ 0) × (free ≡ end)) ⊎ ((1 ≤ s.busy) × (free ≡ min end (clock_of s + s.busy)))

-- when the parts of a board are due next, if its processor does nothing now
pub record AreDeadlines (s : Plain) (until : ℕ) (d : DeadlinesState) : Type 0 where
  pub counter_0 : IsEdgeOf s.chips.pit.counter_0 s.chips.clock d.counter_0
  pub counter_2 : IsEdgeOf s.chips.pit.counter_2 s.chips.clock d.counter_2
  pub keys : IsNextStamp s.chips.clock s.keys d.keys
  pub processor : IsFreeClock s d.processor
  pub end : d.end ≡ Some until

-- some source is due
abbrev pub IsSomethingDue : DeadlinesState → Type 0
IsSomethingDue d = d.end ≢ None

-- whether a source that is due at a clock does something on the way to it
abbrev pub acts_before : Source → Bool
acts_before Counter0 = true
acts_before Counter2 = true
acts_before Keys = true
acts_before Processor = false
acts_before End = false

-- the last clock up to which a source does nothing
abbrev pub last_of : Bool → ℕ → ℕ
last_of true at = at - 1
last_of false at = at

-- the last clock up to which nothing is due
pub record IsLastToLeap (d : DeadlinesState) (last : ℕ) : Type 0 where
  pub source : Source
  pub at : ℕ
  pub next : IsNext d at source
  pub is : last ≡ last_of (acts_before source) at
