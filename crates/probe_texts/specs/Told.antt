-- The events of a clock, by what is seen before it and after it.
-- To be believed by callers of this crate: the headline does not rest on it.
use Rattle.std.specs.Prelude.{ℕ, ◌+◌, ◌==◌, nat_lt, Bool, if◌then◌else◌, List, [], ◌∷◌, ◌++◌}
use Rattle.std.specs.Prelude.{filter, map, Option, None, Some}
use Rattle.std.specs.Bool.{beq}
use Rattle.board_plain.specs.Plain.{Plain, speaker_level}
use Rattle.board_plain.specs.declared.trail.TrailEntry.{TrailEntry}
use Rattle.board_types.specs.LineLevel.{is_high}
use Rattle.board_types.specs.declared.state.State.{State}
use Rattle.events.specs.declared.access.Access.{Access}
use Rattle.events.specs.declared.event.Event.{Event}
use Rattle.events.specs.declared.event.Event.TheVariants.{Began, Keyed, Reached, Wired}
use Rattle.events.specs.declared.event.KeyEvent.TheVariants.{Arrives, IsLost}
use Rattle.events.specs.declared.event.Wire.{Wire}
use Rattle.events.specs.declared.event.Wire.TheVariants.{Out0, Out2, Ir0, Ir1, Int, Speaker}
use Rattle.events.specs.Events.{latch_events, state_events}
use Rattle.pic8259.specs.Levels.{contains}
use Rattle.pic8259.specs.Pic.{is_requesting}
use Rattle.probe_texts.specs.declared.asked.Asked.{Asked}
use Rattle.probe_texts.specs.declared.telling.Levels.{Levels}
use Rattle.probe_texts.specs.Asked.{asks}

-- what begins, if it is asked for: an instruction, or an entry, which has a type
abbrev pub type_asked : Asked → Option ℕ → Bool
type_asked asked None = asked.starts
type_asked asked (Some type) = asked.entries

abbrev pub begun_seen : Asked → List TrailEntry → List Event
begun_seen asked entries = filter (asks asked) (map Began entries)

-- the accesses, and the new state, if those are asked for
abbrev pub accesses_seen : Bool → ℕ → List Access → List Event
accesses_seen asked clock accesses = if asked then map (Reached clock) accesses else []

abbrev pub state_seen : Bool → ℕ → State → State → List Event
state_seen asked clock before after = if asked then state_events clock before after else []

-- how many codes wait after one more arrives: it is lost if sixteen wait
abbrev pub waits_among : ℕ → ℕ
waits_among waiting = if nat_lt waiting 16 then waiting + 1 else waiting

abbrev pub arrivals_from : ℕ → ℕ → List ℕ → List Event
arrivals_from clock waiting [] = []
arrivals_from clock waiting (code ∷ codes) =
    Keyed clock (if nat_lt waiting 16 then Arrives else IsLost) code ∷ arrivals_from clock (waits_among waiting) codes

-- how many codes wait after some more arrive
abbrev pub held_from : ℕ → List ℕ → ℕ
held_from waiting [] = waiting
held_from waiting (code ∷ codes) = held_from (waits_among waiting) codes

-- a code has moved into the latch if one fewer waits
abbrev pub latched_from : ℕ → ℕ → ℕ → Option ℕ → List Event
latched_from clock held waiting latch = if waiting + 1 == held then latch_events clock latch else []

-- the event of a wire that goes from one level to another
abbrev pub change_events : ℕ → Wire → Bool → Bool → List Event
change_events clock wire before after = if beq before after then [] else Wired clock wire after ∷ []

abbrev pub wires_between : ℕ → Levels → Levels → List Event
wires_between clock before after =
    change_events clock Out0 before.out_0 after.out_0
    ++ (change_events clock Out2 before.out_2 after.out_2
    ++ (change_events clock Ir0 before.ir_0 after.ir_0
    ++ (change_events clock Ir1 before.ir_1 after.ir_1
    ++ (change_events clock Int before.int after.int
    ++ change_events clock Speaker before.speaker after.speaker))))

-- which wires are high
unfoldable pub levels_of : Plain → Levels
levels_of s = record {
  out_0 = is_high s.chips.pit.counter_0.out;
  out_2 = is_high s.chips.pit.counter_2.out;
  ir_0 = contains s.chips.pic.high 0;
  ir_1 = contains s.chips.pic.high 1;
  int = is_requesting s.chips.pic;
  speaker = is_high (speaker_level s);
}

-- the wires, if they are seen
abbrev pub wires_seen : ℕ → Option Levels → Option Levels → List Event
wires_seen clock (Some before) (Some after) = wires_between clock before after
wires_seen clock (Some before) None = []
wires_seen clock None _ = []
