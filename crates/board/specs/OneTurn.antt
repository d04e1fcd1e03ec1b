-- One turn of a board: what begins in it, and what stays after its first clock.
-- To be believed by callers of this crate: the headline does not rest on it.
use Rattle.std.specs.Prelude.{ℕ, ◌≡◌, ◌+◌, ◌-◌, ◌<◌, ◌≤◌, ◌⊎◌, Bool, IsTrue, List, [], map, Option, None, Some, IfSome}
use Rattle.std.specs.Option.{option_to_list}
use Rattle.board_plain.specs.declared.stop.Condition.{Condition}
use Rattle.board_plain.specs.declared.trail.TrailEntry.{TrailEntry}
use Rattle.board_plain.specs.declared.trail.TrailEvent.{TrailEvent}
use Rattle.board_plain.specs.declared.trail.TrailEvent.TheVariants.{Instruction, Entry}
use Rattle.board_plain.specs.Board.{BoardState, Ran}
use Rattle.board_plain.specs.Plain.{Plain, after_clock, after_clocks, clock_of, speaker_level}
use Rattle.board_plain.specs.Stops.{holding}
use Rattle.board_plain.specs.Trail.{trail_in}
use Rattle.board_plain.specs.Work.{work_next}
use Rattle.events.specs.Events.{unwired_next}
use Rattle.board.specs.declared.one_turn.Begun.{Begun}
use Rattle.board.specs.LongLeaps.{IsMaximalTo}

-- the type of the interrupt that was entered, or none for an instruction
abbrev pub type_of : TrailEvent → Option ℕ
type_of (Instruction instr bytes) = None
type_of (Entry kind) = Some kind

-- an entry of the trail, without an instruction's bytes
abbrev pub begun_of : TrailEntry → Begun
begun_of e = record { clock = e.clock; cs = e.cs; ip = e.ip; entered = type_of e.event }

-- what begins in n clocks
abbrev pub begun_in : Plain → ℕ → List Begun
begun_in s n = map begun_of (trail_in s n)

-- the controller, OUT0, OUT2 and the speaker's level are unchanged
pub record HaveSameWires (s t : Plain) : Type 0 where
  pub pic : t.chips.pic ≡ s.chips.pic
  pub out_0 : t.chips.pit.counter_0.out ≡ s.chips.pit.counter_0.out
  pub out_2 : t.chips.pit.counter_2.out ≡ s.chips.pit.counter_2.out
  pub speaker : speaker_level t ≡ speaker_level s

-- In the first of n clocks nothing happens but to the wires, and nothing to them either unless edges of the timer may
-- be leapt over; and what holds at the start holds at each clock before the last.
pub record StartsStill (edges : Bool) (n : ℕ) (s : Plain) : Type 0 where
  pub quiet : unwired_next s ≡ []
  pub wires : ¬ (IsTrue edges) → HaveSameWires s (after_clock s)
  pub conditions : (stops : List Condition) (j : ℕ) → j < n → holding stops (after_clocks s j) ≡ holding stops s

-- One turn, at most up to the clock `end`. What happens in it happens in its first clock; wires, too, change only there
-- unless edges of the timer may be leapt over. Only a leap leads past the clock `within`, and nothing happens in its
-- first clock either. A turn counts as one and is of use: its first clock has work, or it is a leap that is as long as
-- a leap can be there.
pub record IsOneTurn (edges : Bool) (within end : ℕ) (old new : BoardState) (begun : Option Begun) : Type 0 where
  pub passed : ℕ
  pub some : 1 ≤ passed
  pub before_end : clock_of old.plain + passed ≤ end
  pub ran : Ran passed old new
  pub begins : begun_in old.plain passed ≡ option_to_list begun
  pub clock : IfSome begun (λ b. b.clock ≡ clock_of old.plain)
  pub quiet : (j : ℕ) → 1 ≤ j → j < passed → unwired_next (after_clocks old.plain j) ≡ []
  pub cpu : new.plain.cpu ≡ (after_clock old.plain).cpu
  pub keyboard : new.plain.chips.keyboard ≡ (after_clock old.plain).chips.keyboard
  pub wires : ¬ (IsTrue edges) → (j : ℕ) → 1 ≤ j → j ≤ passed
      → HaveSameWires (after_clock old.plain) (after_clocks old.plain j)
  pub leap : within < clock_of old.plain + passed → StartsStill edges passed old.plain
  pub turns : new.turns ≡ old.turns + 1
  pub useful : (1 ≤ work_next old.plain)
      ⊎ ((new.plain.busy ≡ old.plain.busy - passed)
      × IsMaximalTo (end - clock_of old.plain) old.plain passed new.plain)
