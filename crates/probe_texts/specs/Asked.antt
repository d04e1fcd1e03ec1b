-- Which kinds of events are asked for, whatever ranges they have.
-- To be believed by callers of this crate: the headline does not rest on it.
use Rattle.std.specs.Prelude.{Bool, true, false, List, fold}
use Rattle.board_plain.specs.declared.trail.TrailEvent.{TrailEvent}
use Rattle.board_plain.specs.declared.trail.TrailEvent.TheVariants.{Instruction, Entry}
use Rattle.events.specs.declared.event.Event.{Event}
use Rattle.events.specs.declared.event.Event.TheVariants.{Began, Reached, Became, Keyed, Wired}
use Rattle.probe_texts.specs.declared.asked.Asked.{Asked}
use Rattle.probe_texts.specs.declared.kinds.Kind.{Kind}
use Rattle.probe_texts.specs.declared.kinds.Kind.TheVariants.{Starts, Entries, Writes, Ports, Keys, Wires, States}

abbrev pub nothing_asked : Asked
nothing_asked = record {
  starts = false;
  entries = false;
  accesses = false;
  keys = false;
  wires = false;
  states = false;
}

-- one kind more is asked for
abbrev pub with_kind : Asked → Kind → Asked
with_kind asked Starts = record asked { starts = true }
with_kind asked Entries = record asked { entries = true }
with_kind asked (Writes _ _) = record asked { accesses = true }
with_kind asked (Ports _ _) = record asked { accesses = true }
with_kind asked Keys = record asked { keys = true }
with_kind asked Wires = record asked { wires = true }
with_kind asked States = record asked { states = true }

abbrev pub asked_with : Asked → List Kind → Asked
asked_with asked kinds = fold with_kind asked kinds

-- whether what begins is asked for, and any other event
abbrev pub asks_begun : Asked → TrailEvent → Bool
asks_begun asked (Instruction _ _) = asked.starts
asks_begun asked (Entry _) = asked.entries

abbrev pub asks : Asked → Event → Bool
asks asked (Began entry) = asks_begun asked entry.event
asks asked (Reached _ _) = asked.accesses
asks asked (Became _ _) = asked.states
asks asked (Keyed _ _ _) = asked.keys
asks asked (Wired _ _ _) = asked.wires
