-- The wires of a board over time: each change of a level, with its clock (IBM PC Technical Reference, "System Board":
-- the outputs of counters 0 and 2, request lines 0 and 1, the controller's output, and the speaker).
-- To be believed by callers of this crate: the headline does not rest on it.
use Rattle.std.specs.Prelude.{ℕ, ◌+◌, List, [], ◌++◌, codes}
use Rattle.std.specs.Fmt.{decimal}
use Rattle.std.specs.List.{flat_map}
use Rattle.board_plain.specs.Plain.{Plain, clock_of}
use Rattle.events.specs.declared.event.Event.{Event}
use Rattle.events.specs.declared.event.Event.TheVariants.{Wired}
use Rattle.events.specs.Events.{events_in}
use Rattle.probe_texts.specs.Listed.{level_digit, line_of, wire_name}

-- the line of a change, with the clock that brings it: `96 OUT0 1`
abbrev pub signal_line : Event → List ℕ
signal_line (Wired clock wire level) = line_of clock (wire_name wire ++ (codes " " ++ level_digit level))
signal_line _ = []

-- the changes of n clocks, and the clock that is reached
unfoldable pub signals_text : Plain → ℕ → List ℕ
signals_text s n = flat_map signal_line (events_in s n) ++ (codes "clock " ++ (decimal (clock_of s + n) ++ codes "\n"))
