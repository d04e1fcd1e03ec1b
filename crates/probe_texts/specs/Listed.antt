-- Which events are listed, and their lines.
-- To be believed by callers of this crate: the headline does not rest on it.
use Rattle.std.specs.Prelude.{ℕ, ◌+◌, Bool, true, false, ◌&&◌, nat_le, if◌then◌else◌, List, ◌++◌, codes, filter}
use Rattle.std.specs.Fmt.{decimal}
use Rattle.std.specs.List.{flat_map, list_any}
use Rattle.board_types.specs.Digits.{hex_byte_text, hex_word}
use Rattle.board_types.specs.declared.state.State.{State}
use Rattle.board_types.specs.declared.state.State.TheVariants.{Running, Halted, Jammed}
use Rattle.board_plain.specs.Plain.{Plain, clock_of}
use Rattle.debugger_meaning.specs.Dump.{address_text}
use Rattle.board_plain.specs.declared.trail.TrailEntry.{TrailEntry}
use Rattle.board_plain.specs.declared.trail.TrailEvent.{TrailEvent}
use Rattle.board_plain.specs.declared.trail.TrailEvent.TheVariants.{Instruction, Entry}
use Rattle.events.specs.declared.access.Access.{Access}
use Rattle.events.specs.declared.access.Access.TheVariants.{Write, In, Out}
use Rattle.events.specs.declared.event.Event.{Event}
use Rattle.events.specs.declared.event.Event.TheVariants.{Began, Reached, Became, Keyed, Wired}
use Rattle.events.specs.declared.event.KeyEvent.{KeyEvent}
use Rattle.events.specs.declared.event.KeyEvent.TheVariants.{Arrives, IsLost, IsLatched}
use Rattle.probe_texts.specs.declared.kinds.Kind.{Kind}
use Rattle.probe_texts.specs.declared.kinds.Kind.TheVariants.{Starts, Entries, Writes, Ports, Keys, Wires, States}
use Rattle.events.specs.declared.event.Wire.{Wire}
use Rattle.events.specs.declared.event.Wire.TheVariants.{Out0, Out2, Ir0, Ir1, Int, Speaker}
use Rattle.events.specs.Events.{events_in}

abbrev pub is_within : ℕ → ℕ → ℕ → Bool
is_within first last n = nat_le first n && nat_le n last

-- what a kind lists of what begins, of accesses, and of all events
abbrev pub lists_begun : Kind → TrailEvent → Bool
lists_begun Starts (Instruction _ _) = true
lists_begun Entries (Entry _) = true
lists_begun _ _ = false

abbrev pub lists_access : Kind → Access → Bool
lists_access (Writes first last) (Write address _) = is_within first last address
lists_access (Ports first last) (In port _) = is_within first last port
lists_access (Ports first last) (Out port _) = is_within first last port
lists_access _ _ = false

abbrev pub lists : Event → Kind → Bool
lists (Began entry) kind = lists_begun kind entry.event
lists (Reached _ access) kind = lists_access kind access
lists (Became _ _) States = true
lists (Keyed _ _ _) Keys = true
lists (Wired _ _ _) Wires = true
lists _ _ = false

-- whether one of some kinds lists an event
abbrev pub is_listed : List Kind → Event → Bool
is_listed kinds event = list_any (lists event) kinds

-- the words of an event after its clock
abbrev pub begun_text : TrailEntry → TrailEvent → List ℕ
begun_text e (Instruction instr bytes) =
    codes "start "
    ++ (hex_word e.cs ++ (codes ":" ++ (hex_word e.ip ++ (codes " " ++ flat_map hex_byte_text bytes.items))))
begun_text e (Entry kind) = codes "entry " ++ hex_byte_text kind

abbrev pub access_text : Access → List ℕ
access_text (Write address byte) = codes "write " ++ (address_text address ++ (codes " " ++ hex_byte_text byte))
access_text (In port byte) = codes "in " ++ (hex_word port ++ (codes " " ++ hex_byte_text byte))
access_text (Out port byte) = codes "out " ++ (hex_word port ++ (codes " " ++ hex_byte_text byte))

abbrev pub state_word : State → List ℕ
state_word Running = codes "woken"
state_word Halted = codes "halted"
state_word Jammed = codes "jammed"

abbrev pub key_word : KeyEvent → List ℕ
key_word Arrives = codes "arrives"
key_word IsLost = codes "lost"
key_word IsLatched = codes "latched"

abbrev pub wire_name : Wire → List ℕ
wire_name Out0 = codes "OUT0"
wire_name Out2 = codes "OUT2"
wire_name Ir0 = codes "IR0"
wire_name Ir1 = codes "IR1"
wire_name Int = codes "INT"
wire_name Speaker = codes "speaker"

abbrev pub level_digit : Bool → List ℕ
level_digit level = decimal (if level then 1 else 0)

-- the line of an event: `59 start F000:0013 B008`, `96 entry 08`, `96 write 000BE 16`, `62 in 0020 00`, `63 out 0021
-- FE`, `71 halted`, `100 key 1E arrives`, `96 wire OUT0 1`
abbrev pub line_of : ℕ → List ℕ → List ℕ
line_of clock text = decimal clock ++ (codes " " ++ (text ++ codes "\n"))

unfoldable pub event_line : Event → List ℕ
event_line (Began e) = line_of e.clock (begun_text e e.event)
event_line (Reached clock access) = line_of clock (access_text access)
event_line (Became clock state) = line_of clock (state_word state)
event_line (Keyed clock what code) =
    line_of clock (codes "key " ++ (hex_byte_text code ++ (codes " " ++ key_word what)))
event_line (Wired clock wire level) =
    line_of clock (codes "wire " ++ (wire_name wire ++ (codes " " ++ level_digit level)))

-- the lines of those events that are listed
unfoldable pub listed_lines : List Kind → List Event → List ℕ
listed_lines kinds events = flat_map event_line (filter (is_listed kinds) events)

-- the listed events of n clocks, and the clock that is reached
unfoldable pub events_text : List Kind → Plain → ℕ → List ℕ
events_text kinds s n =
    listed_lines kinds (events_in s n) ++ (codes "clock " ++ (decimal (clock_of s + n) ++ codes "\n"))
