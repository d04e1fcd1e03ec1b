-- Clocks in which the processor does nothing and of which nothing is seen before they end, and leaps over them: no wire
-- changes in them, or the chips alone go on, and the speaker's level stays.
-- For proofs alone: no public contract rests on it.
use Rattle.wiring.specs.EachWire.{is_requested}
use Rattle.std.specs.Prelude.{ℕ, ◌≡◌, ◌+◌, ◌-◌, ◌<◌, ◌≤◌, ◌⊎◌, List, [], Bool, true, false, min, Option, None, Some}
use Rattle.board_types.specs.Bits.{has_bit}
use Rattle.board_types.specs.Timed.{IsSteady}
use Rattle.board_types.specs.declared.choice.ClockTable.{ClockTable}
use Rattle.board_types.specs.declared.keys.StampedKey.{StampedKey}
use Rattle.cached_chips.specs.QuietChips.{IsQuiet}
use Rattle.execute_meaning.specs.Boundaries.{boundary_of}
use Rattle.execute_meaning.specs.Cpu.{CpuState}
use Rattle.execute_meaning.specs.declared.boundary.Boundary.TheVariants as boundaries
use Rattle.pit8253.specs.Counter.{after_ticks, out_of}
use Rattle.ppi8255.specs.Ppi.{lines_b}
use Rattle.wiring.specs.Alone.{GoesOnAlone, IsTimerInhibited}
use Rattle.wiring.specs.Chips.{ChipsState}
use Rattle.wiring.specs.Edges.{ticks_between}
use Rattle.wiring.specs.Wires as wires
use Rattle.board_plain.specs.declared.stop.Condition.{Condition}
use Rattle.board_plain.specs.BoardLaws.{NoKeyComes, WiresHold}
use Rattle.board_plain.specs.Plain.{Plain, after_clock, after_clocks, changes_in, chips_after_clock, clock_of}
use Rattle.board_plain.specs.Stops.{holding}
use Rattle.board_plain.specs.Trail.{trail_in}
use Rattle.board_plain.specs.Work.{steps_in}
use Rattle.events.specs.Events.{unwired_next}
use Rattle.board.specs.LongLeaps.{IsMaximalTo}
use Rattle.board.specs.UneventfulClocks.{AreUneventful}
use Rattle.board.specs.OneTurn.{HaveSameWires}

-- a free processor begins nothing whatever the timer does: whether or not an interrupt is requested, or as one is or
-- isn't requested now, which the timer can't change
abbrev pub BeginsNothing : Plain → Type 0
BeginsNothing s =
    ((request : Bool) → boundary_of s.cpu request ≡ boundaries.Nothing)
    ⊎ ((boundary_of s.cpu (is_requested s.chips) ≡ boundaries.Nothing) × IsTimerInhibited s.chips)

-- the processor does nothing for n clocks, whatever the timer does in them: it is busy in them, or free and begins
-- nothing
abbrev pub StaysIdleDespiteTimer : Plain → ℕ → Type 0
StaysIdleDespiteTimer s n = (n ≤ s.busy) ⊎ ((s.busy ≡ 0) × BeginsNothing s)

-- what is enough for `StaysIdleDespiteTimer` if the processor does nothing now
abbrev pub TimerBeginsNothing : Plain → Type 0
TimerBeginsNothing s = (1 ≤ s.busy) ⊎ ((boundaries.Nothing ≡ boundary_of s.cpu true) ⊎ IsTimerInhibited s.chips)

-- for n clocks the timer leaves the speaker's level as it is: port B holds the speaker low, or OUT2 stays
abbrev pub KeepsLevel : ChipsState → ℕ → Type 0
KeepsLevel s n =
    (has_bit (lines_b s.ppi) 1 ≡ false)
    ⊎ IsSteady after_ticks out_of s.pit.counter_2 (ticks_between s.clock (s.clock + n))

-- n clocks in which the processor stays idle whatever the timer does, no key comes, and the speaker's level stays: the
-- chips alone go on
pub record IsAlone (s : Plain) (n : ℕ) : Type 0 where
  pub idle : StaysIdleDespiteTimer s n
  pub no_key : NoKeyComes s n
  pub level : KeepsLevel s.chips n

-- n unseen clocks: a leap may pass over them
abbrev pub MayLeap : Plain → ℕ → Type 0
MayLeap s n = AreUneventful s n ⊎ IsAlone s n

-- the board n unseen clocks later
unfoldable pub passed_by : Plain → ℕ → Plain
passed_by s n = record s { busy = s.busy - n; chips = wires.after_clocks s.chips n }

-- up to a clock nothing is seen of the chips: they are quiet, or they go on alone
abbrev pub GoUnseen : ChipsState → ℕ → Type 0
GoUnseen chips to = IsQuiet chips to ⊎ GoesOnAlone chips

-- a board n unseen clocks later: no change of the speaker's level and no entry is listed, no step begins, no condition
-- changes before the last of them, and nothing happens but to the wires; processor and keyboard stay
pub record IsUnseen (s : Plain) (n : ℕ) (t : Plain) : Type 0 where
  pub plain : t ≡ after_clocks s n
  pub clock : clock_of t ≡ clock_of s + n
  pub busy : t.busy ≡ s.busy - n
  pub changes : changes_in s n ≡ []
  pub entries : trail_in s n ≡ []
  pub steps : steps_in s n ≡ 0
  pub conditions : (stops : List Condition) (k : ℕ) → k < n → holding stops (after_clocks s k) ≡ holding stops s
  pub quiet : (k : ℕ) → k < n → unwired_next (after_clocks s k) ≡ []
  pub cpu : (k : ℕ) → k ≤ n → (after_clocks s k).cpu ≡ s.cpu
  pub keyboard : (k : ℕ) → k ≤ n → (after_clocks s k).chips.keyboard ≡ s.chips.keyboard

-- the clock `end`, or the last one before a stamp or an edge if that is earlier
abbrev pub last_before : Option ℕ → ℕ → ℕ
last_before None end = end
last_before (Some at) end = min end (at - 1)

-- a clock, at most `end`, up to which nothing is seen, and no later one could be known to be
pub record IsUnseenTo (end : ℕ) (s : Plain) (to : ℕ) : Type 0 where
  pub from : clock_of s ≤ to
  pub within : to ≤ end
  pub may_leap : MayLeap s (to - clock_of s)
  pub maximal : IsMaximalTo (end - clock_of s) s (to - clock_of s) (passed_by s (to - clock_of s))

-- a leap over unseen clocks, at most to the clock `end`
pub record IsLeap (end : ℕ) (s t : Plain) : Type 0 where
  pub clocks : ℕ
  pub some : 1 ≤ clocks
  pub within : clocks ≤ end - clock_of s
  pub unseen : IsUnseen s clocks t
  pub maximal : IsMaximalTo (end - clock_of s) s clocks t

-- other clocks of a step are leapt over, at most to the clock `end`, or none are
abbrev pub PassesOver : ℕ → Plain → Plain → Type 0
PassesOver end s t = (t ≡ s) ⊎ ((1 ≤ s.busy) × IsLeap end s t)

-- the chips pass the first clock of a step of `busy` clocks, or all, in a way that this relation allows between the two
-- boards, whatever the processor and the clock table
abbrev pub PassBy : (Plain → Plain → Type 0) → ℕ → ChipsState → List StampedKey → ℕ → ChipsState → Type 0
PassBy passes busy chips keys left after =
    (cpu : CpuState) (table : ClockTable) → WiresHold (chips_after_clock chips keys)
    → passes (record { cpu = cpu; busy = busy - 1; chips = chips_after_clock chips keys; keys = keys; clocks = table })
    (record { cpu = cpu; busy = left; chips = after; keys = keys; clocks = table })

abbrev pub PassOver : ℕ → ℕ → ChipsState → List StampedKey → ℕ → ChipsState → Type 0
PassOver end busy chips keys left after = PassBy (PassesOver end) busy chips keys left after

-- no wire changes on the way from one board to a later one
abbrev pub WiresStay : Plain → Plain → Type 0
WiresStay s t = (j : ℕ) → j ≤ clock_of t - clock_of s → HaveSameWires s (after_clocks s j)

-- no wire changes after the first clock on the way from one board to a later one; only a leap leads past the clock
-- `within`, and no wire changes in its first clock either
pub record WiresStayThen (within : ℕ) (s t : Plain) : Type 0 where
  pub later : (j : ℕ) → 1 ≤ j → j ≤ clock_of t - clock_of s → HaveSameWires (after_clock s) (after_clocks s j)
  pub leap : within < clock_of t → WiresStay s t
