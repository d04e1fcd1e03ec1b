-- What happens in a plain board's clocks, against memory, the trail, the speaker's list and the keyboard.
-- Laws: claims above the definitions, each proved as the contract of a function.
use Rattle.keyboard.specs.QueueParts.{count_after_loss}
use Rattle.std.specs.Prelude.{ℕ, ◌≡◌, ◌+◌, ◌==◌, Bool, ◌&&◌, if◌then◌else◌, List, [], ◌∷◌, ◌++◌, fold}
use Rattle.std.specs.List.{flat_map}
use Rattle.board_types.specs.Iterate.{gathered}
use Rattle.board_types.specs.LineLevel.{from_bool}
use Rattle.wiring.specs.Ports.{is_writable}
use Rattle.board_plain.specs.declared.speaker.SpeakerChange.{SpeakerChange}
use Rattle.board_plain.specs.declared.trail.TrailEntry.{TrailEntry}
use Rattle.board_plain.specs.Plain.{Plain, after_clock, after_clocks, byte_of, changes_in, lost_codes}
use Rattle.board_plain.specs.Trail.{trail_in}
use Rattle.events.specs.declared.access.Access.TheVariants.{Write}
use Rattle.events.specs.declared.event.Event.{Event}
use Rattle.events.specs.declared.event.Event.TheVariants.{Began, Keyed, Reached, Wired}
use Rattle.events.specs.declared.event.KeyEvent.TheVariants.{Arrives, IsLatched, IsLost}
use Rattle.events.specs.declared.event.Wire.TheVariants.{Speaker}
use Rattle.events.specs.Events.{codes_next, events_in, events_next}

-- the events of some clocks and of more are those of the first, and then those of the others; of one clock they are
-- its own
abbrev pub EventsAddUp : Type 0
EventsAddUp =
    (s : Plain) (n m : ℕ) → events_in s (n + m) ≡ events_in s n ++ events_in (after_clocks s n) m

abbrev pub OneClockIsTold : Type 0
OneClockIsTold = (s : Plain) → events_in s 1 ≡ events_next s

-- the address and the byte of a write
abbrev pub written_by : Event → List (ℕ × ℕ)
written_by (Reached _ (Write address byte)) = (address, byte) ∷ []
written_by _ = []

-- the byte at an address after a write, if the address takes bytes
abbrev pub byte_after : Bool → ℕ → ℕ → ℕ × ℕ → ℕ
byte_after takes address byte w = if takes && (w.0 == address) then w.1 else byte

-- a byte of memory is what the writes leave there, made in order
abbrev pub MemoryIsWritten : Type 0
MemoryIsWritten =
    (s : Plain) (n address : ℕ)
    → byte_of (after_clocks s n) address
    ≡ fold (byte_after (is_writable s.chips address) address) (byte_of s address) (flat_map written_by (events_in s n))

-- the entries of what begins
abbrev pub begun_by : Event → List TrailEntry
begun_by (Began entry) = entry ∷ []
begun_by _ = []

abbrev pub TrailIsTold : Type 0
TrailIsTold = (s : Plain) (n : ℕ) → flat_map begun_by (events_in s n) ≡ trail_in s n

-- the changes of the speaker's wire
abbrev pub changed_by : Event → List SpeakerChange
changed_by (Wired clock Speaker level) = record { clock = clock; level = from_bool level } ∷ []
changed_by _ = []

abbrev pub SpeakerIsTold : Type 0
SpeakerIsTold = (s : Plain) (n : ℕ) → flat_map changed_by (events_in s n) ≡ changes_in s n

-- the codes that reach the keyboard, those of them that wait, those that are lost, and the codes that leave the queue
abbrev pub come_by : Event → List ℕ
come_by (Keyed _ Arrives code) = code ∷ []
come_by (Keyed _ IsLost code) = code ∷ []
come_by _ = []

abbrev pub queued_by : Event → List ℕ
queued_by (Keyed _ Arrives code) = code ∷ []
queued_by _ = []

abbrev pub lost_by : Event → List ℕ
lost_by (Keyed _ IsLost code) = code ∷ []
lost_by _ = []

abbrev pub latched_by : Event → List ℕ
latched_by (Keyed _ IsLatched code) = code ∷ []
latched_by _ = []

-- each code whose stamp is reached comes, once and in order
abbrev pub CodesAreTold : Type 0
CodesAreTold = (s : Plain) (n : ℕ) → flat_map come_by (events_in s n) ≡ gathered after_clock codes_next n s

-- the codes that waited and those that were queued since are those that were latched since and those that wait
abbrev pub QueueIsTold : Type 0
QueueIsTold =
    (s : Plain) (n : ℕ)
    → s.chips.keyboard.waiting ++ flat_map queued_by (events_in s n)
    ≡ flat_map latched_by (events_in s n) ++ (after_clocks s n).chips.keyboard.waiting

-- each code that is lost is counted
abbrev pub LossesAreTold : Type 0
LossesAreTold =
    (s : Plain) (n : ℕ)
    → lost_codes (after_clocks s n)
    ≡ fold (λ lost code. count_after_loss lost) (lost_codes s) (flat_map lost_by (events_in s n))
