-- What is seen of a board before and after a turn.
-- For proofs alone: no public contract rests on it.
use Rattle.std.specs.Prelude.{ℕ, ◌≡◌, ◌+◌, ◌<◌, ◌≤◌, ◌^◌, Bool, not, if◌then◌else◌}
use Rattle.std.specs.Prelude.{List, [], ◌++◌, filter, length, Option, None, Some}
use Rattle.board.specs.declared.one_turn.Begun.{Begun}
use Rattle.board.specs.OneTurn.{IsOneTurn}
use Rattle.board_plain.specs.Board.{BoardState}
use Rattle.board_plain.specs.Plain.{Plain, after_clocks, clock_of, state_of}
use Rattle.events.specs.Events.{events_in}
use Rattle.events.specs.declared.event.Event.{Event}
use Rattle.keyboard.specs.Keyboard.{KeyboardState}
use Rattle.probe.specs.declared.seen.Seen.{Seen}
use Rattle.probe.specs.declared.seen.Turn.{Turn}
use Rattle.probe_texts.specs.declared.asked.Asked.{Asked}
use Rattle.probe_texts.specs.declared.telling.Levels.{Levels}
use Rattle.probe_texts.specs.Asked.{asks}
use Rattle.probe_texts.specs.Told.{arrivals_from, held_from, latched_from, levels_of}

-- how many codes wait, and which wires are high, as far as it is asked for
abbrev pub waiting_seen : Bool → Plain → ℕ
waiting_seen keys s = if keys then length s.chips.keyboard.waiting else 0

abbrev pub levels_seen : Bool → Plain → Option Levels
levels_seen wires s = if wires then Some (levels_of s) else None

unfoldable pub seen_of : Asked → Plain → Seen
seen_of asked s = record {
  clock = clock_of s;
  state = state_of s;
  waiting = waiting_seen asked.keys s;
  levels = levels_seen asked.wires s;
}

-- the turn after another, in which this began, and which has led to a board
abbrev pub next_turn : Turn → Option Begun → Plain → Turn
next_turn turn begun s = record {
  asked = turn.asked;
  before = turn.after;
  begun = begun;
  after = seen_of turn.asked s;
}

-- a turn that has led to a board
pub record IsLooked (turn : Turn) (board : BoardState) : Type 0 where
  pub room : turn.before.waiting ≤ 16
  pub few : turn.after.waiting ≤ 16
  pub limit : turn.before.clock < 2 ^ 40
  pub later : turn.before.clock < clock_of board.plain

-- one turn from one board to another, with what was seen of both
pub record IsMade (turn : Turn) (old new : BoardState) : Type 0 where
  pub within : ℕ
  pub end : ℕ
  pub one : IsOneTurn (not turn.asked.wires) within end old new turn.begun
  pub before : turn.before ≡ seen_of turn.asked old.plain
  pub after : turn.after ≡ seen_of turn.asked new.plain

-- such a turn some clocks after a plain board
pub record IsMadeAfter (turn : Turn) (s : Plain) (n : ℕ) (old new : BoardState) : Type 0 where
  pub made : IsMade turn old new
  pub plain : old.plain ≡ after_clocks s n
  pub clock : clock_of old.plain ≡ clock_of s + n

-- the events of n clocks, less those for which nobody asks
abbrev pub asked_in : Asked → Plain → ℕ → List Event
asked_in asked s n = filter (asks asked) (events_in s n)

-- what becomes of a clock's codes, if keys are asked for
abbrev pub keys_told : Turn → ℕ → List ℕ → KeyboardState → List Event
keys_told turn clock codes after =
    if turn.asked.keys then arrivals_from clock turn.before.waiting codes
    ++ latched_from clock (held_from turn.before.waiting codes) turn.after.waiting after.latch
    else []
