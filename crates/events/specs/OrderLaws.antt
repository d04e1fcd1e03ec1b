-- When events happen, and in which order within a clock.
-- Laws: claims above the definitions, each proved as the contract of a function.
use Rattle.std.specs.Prelude.{ℕ, ◌≡◌, ◌+◌, ◌==◌, IsTrue, Bool, true, ◌&&◌, nat_le, if◌then◌else◌, List, [], ◌∷◌}
use Rattle.std.specs.List.{flat_map}
use Rattle.board_plain.specs.Plain.{Plain, clock_of}
use Rattle.events.specs.declared.event.Event.{Event}
use Rattle.events.specs.declared.event.Event.TheVariants.{Became, Began, Keyed, Reached, Wired}
use Rattle.events.specs.declared.event.KeyEvent.{KeyEvent}
use Rattle.events.specs.declared.event.KeyEvent.TheVariants.{Arrives, IsLost, IsLatched}
use Rattle.events.specs.declared.event.Wire.{Wire}
use Rattle.events.specs.declared.event.Wire.TheVariants.{Out0, Out2, Ir0, Ir1, Int, Speaker}
use Rattle.events.specs.Events.{events_in, events_next}

-- an event's clock
abbrev pub clock_at : Event → ℕ
clock_at (Began entry) = entry.clock
clock_at (Reached clock _) = clock
clock_at (Became clock _) = clock
clock_at (Keyed clock _ _) = clock
clock_at (Wired clock _ _) = clock

-- the clock that an event of a clock has by its kind: the processor's have the one that begins, keys and wires the one
-- that is reached
abbrev pub clock_due : ℕ → Event → ℕ
clock_due clock (Keyed _ _ _) = clock + 1
clock_due clock (Wired _ _ _) = clock + 1
clock_due clock _ = clock

-- an event with another clock than that
abbrev pub misdated : ℕ → Event → List Event
misdated clock e = if clock_at e == clock_due clock e then [] else e ∷ []

abbrev pub ClocksAreTold : Type 0
ClocksAreTold = (s : Plain) → flat_map (misdated (clock_of s)) (events_next s) ≡ []

-- numbers that never fall, from one on
abbrev pub rises_from : ℕ → List ℕ → Bool
rises_from n [] = true
rises_from n (m ∷ ms) = nat_le n m && rises_from m ms

abbrev pub clocks_at : List Event → List ℕ
clocks_at [] = []
clocks_at (e ∷ es) = clock_at e ∷ clocks_at es

abbrev pub ClocksNeverFall : Type 0
ClocksNeverFall = (s : Plain) (n : ℕ) → IsTrue (rises_from (clock_of s) (clocks_at (events_in s n)))

-- an event's place within a clock: what begins, the accesses, the new state, the codes that come, the one that moves
-- into the latch, and the wires, each in its place
abbrev pub place_of_key : KeyEvent → ℕ
place_of_key Arrives = 3
place_of_key IsLost = 3
place_of_key IsLatched = 4

abbrev pub place_of_wire : Wire → ℕ
place_of_wire Out0 = 5
place_of_wire Out2 = 6
place_of_wire Ir0 = 7
place_of_wire Ir1 = 8
place_of_wire Int = 9
place_of_wire Speaker = 10

abbrev pub place_of : Event → ℕ
place_of (Began _) = 0
place_of (Reached _ _) = 1
place_of (Became _ _) = 2
place_of (Keyed _ what _) = place_of_key what
place_of (Wired _ wire _) = place_of_wire wire

abbrev pub places_of : List Event → List ℕ
places_of [] = []
places_of (e ∷ es) = place_of e ∷ places_of es

abbrev pub OrderIsTold : Type 0
OrderIsTold = (s : Plain) → IsTrue (rises_from 0 (places_of (events_next s)))
