-- Which stop is met at a clock, by what happened in the clock that led to it.
-- For proofs alone: no public contract rests on it.
use Rattle.std.proofs.Common.{get_or}
use Rattle.std.specs.Prelude.{ℕ, ◌≡◌, ◌+◌, ◌-◌, ◌<◌, ◌==◌, ◌≤◌, ◌^◌, ◌⊎◌, Bool, true, false, not, ◌&&◌}
use Rattle.std.specs.Prelude.{min, nat_le, nat_lt, if◌then◌else◌, List, Option, None, Some, fold, length, slice_get}
use Rattle.std.specs.List.{list_any, position_from}
use Rattle.board_plain.specs.Plain.{Plain, byte_of}
use Rattle.board_plain.specs.Stops.{holds}
use Rattle.events.specs.declared.access.Access.{Access}
use Rattle.events.specs.declared.event.Event.{Event}
use Rattle.events.specs.declared.access.Access.TheVariants.{Write, In, Out}
use Rattle.probe.specs.declared.bytes.Copied.{Copied}
use Rattle.probe_texts.specs.declared.stops.Stop.{Stop}
use Rattle.probe_texts.specs.declared.stops.Stop.TheVariants.{Standing, When, Changes}
use Rattle.probe.specs.declared.watched.Watched.{Watched}
use Rattle.probe_texts.specs.declared.asked.Asked.{Asked}
use Rattle.probe_texts.specs.Asked.{asked_with, nothing_asked}
use Rattle.probe_texts.specs.Listed.{is_listed}

-- the copy of the byte at an address, if there is one
abbrev pub copied_at : ℕ → List ℕ → ℕ → Option ℕ
copied_at first bytes address = if nat_lt address first then None else slice_get bytes (address - first)

abbrev pub differs_from : Option ℕ → ℕ → Bool
differs_from None byte = false
differs_from (Some copied) byte = not (copied == byte)

abbrev pub differs_copied : Copied → ℕ → Plain → Bool
differs_copied copied address t = differs_from (copied_at copied.first copied.bytes.items address) (byte_of t address)

-- the copied bytes are a board's
abbrev pub IsCopy : Copied → Plain → Type 0
IsCopy copied s = (k : ℕ) → k < length copied.bytes.items → get_or copied.bytes.items k 0 ≡ byte_of s (copied.first + k)

-- the copied bytes have addresses
abbrev pub HasRoom : Copied → Type 0
HasRoom copied = copied.first + length copied.bytes.items ≤ 2 ^ 20

-- the copied bytes begin not after, and end not before, those whose changes a stop waits for
abbrev pub StartsFrom : ℕ → Stop → Type 0
StartsFrom first (Standing condition) = Unit {0}
StartsFrom first (When kinds) = Unit {0}
StartsFrom first (Changes address count) = first ≤ address

abbrev pub EndsBy : ℕ → Stop → Type 0
EndsBy end (Standing condition) = Unit {0}
EndsBy end (When kinds) = Unit {0}
EndsBy end (Changes address count) = address + count ≤ end

abbrev pub IsCovered : Copied → Stop → Type 0
IsCovered copied stop = StartsFrom copied.first stop × EndsBy (copied.first + length copied.bytes.items) stop

-- all bytes are copied anew
pub record IsRecopied (t : Plain) (old new : Copied) : Type 0 where
  pub first : new.first ≡ old.first
  pub count : length new.bytes.items ≡ length old.bytes.items
  pub copy : IsCopy new t

-- an access writes to an address
abbrev pub writes_to : ℕ → Access → Bool
writes_to address (Write at byte) = at == address
writes_to address (In port byte) = false
writes_to address (Out port byte) = false

-- the copy of the byte that an access has written is renewed, and all others stay
pub record IsOneRenewed (access : Access) (t : Plain) (old new : Copied) : Type 0 where
  pub first : new.first ≡ old.first
  pub count : length new.bytes.items ≡ length old.bytes.items
  pub written : (k : ℕ) → k < length old.bytes.items → writes_to (old.first + k) access ≡ true
      → get_or new.bytes.items k 0 ≡ byte_of t (old.first + k)
  pub others : (k : ℕ) → k < length old.bytes.items → writes_to (old.first + k) access ≡ false
      → get_or new.bytes.items k 0 ≡ get_or old.bytes.items k 0

-- the copies of all bytes that some accesses have written are renewed
pub record AreRenewed (accesses : List Access) (t : Plain) (old new : Copied) : Type 0 where
  pub first : new.first ≡ old.first
  pub count : length new.bytes.items ≡ length old.bytes.items
  pub bytes : (k : ℕ) → k < length old.bytes.items
      → (get_or new.bytes.items k 0 ≡ byte_of t (old.first + k))
      ⊎ ((list_any (writes_to (old.first + k)) accesses ≡ false)
      × (get_or new.bytes.items k 0 ≡ get_or old.bytes.items k 0))

-- a write to one of `count` addresses has changed its byte
abbrev pub write_differs : ℕ → ℕ → Copied → Plain → Access → Bool
write_differs address count copied t (Write at byte) =
    (nat_le address at && nat_lt at (address + count)) && differs_copied copied at t
write_differs address count copied t (In port byte) = false
write_differs address count copied t (Out port byte) = false

abbrev pub one_differs : ℕ → ℕ → List Access → Copied → Plain → Bool
one_differs address count accesses copied t = list_any (write_differs address count copied t) accesses

-- a stop is met at the end of a turn in which these events happened and these accesses were made
abbrev pub is_stop_met : Stop → Copied → List Event → List Access → Plain → Bool
is_stop_met (Standing condition) copied events accesses t = holds condition t
is_stop_met (When kinds) copied events accesses t = list_any (is_listed kinds.items) events
is_stop_met (Changes address count) copied events accesses t = one_differs address count accesses copied t

abbrev pub is_met : Watched → List Event → List Access → Plain → Bool
is_met watched events accesses t = is_stop_met watched.stop watched.copied events accesses t

-- the least number, from 1, of a stop that is met
unfoldable pub met : List Watched → List Event → List Access → Plain → Option ℕ
met watches events accesses t = position_from (λ watched. is_met watched events accesses t) 1 watches

-- a stop waits for an event, or for one of some events
abbrev pub waits_for : Event → Stop → Bool
waits_for e (Standing condition) = false
waits_for e (When kinds) = is_listed kinds.items e
waits_for e (Changes address count) = false

abbrev pub hears : List Event → Stop → Bool
hears events (Standing condition) = false
hears events (When kinds) = list_any (is_listed kinds.items) events
hears events (Changes address count) = false

-- a stop is met by what stands at a clock, or by bytes that these accesses have changed
abbrev pub is_there : Stop → Copied → List Access → Plain → Bool
is_there (Standing condition) copied accesses t = holds condition t
is_there (When kinds) copied accesses t = false
is_there (Changes address count) copied accesses t = one_differs address count accesses copied t

-- the least numbers of such stops
unfoldable pub waiting_for : Event → List Watched → Option ℕ
waiting_for e watches = position_from (λ watched. waits_for e watched.stop) 1 watches

unfoldable pub heard : List Watched → List Event → Option ℕ
heard watches events = position_from (λ watched. hears events watched.stop) 1 watches

unfoldable pub met_here : List Watched → List Access → Plain → Option ℕ
met_here watches accesses t = position_from (λ watched. is_there watched.stop watched.copied accesses t) 1 watches

-- the smaller of two numbers, or the one that there is
abbrev pub earlier : Option ℕ → Option ℕ → Option ℕ
earlier (Some a) (Some b) = Some (min a b)
earlier (Some a) None = Some a
earlier None b = b

-- what some stops have to look for
abbrev pub asked_with_stop : Asked → Stop → Asked
asked_with_stop asked (Standing condition) = asked
asked_with_stop asked (When kinds) = asked_with asked kinds.items
asked_with_stop asked (Changes address count) = asked

abbrev pub asked_by : List Stop → Asked
asked_by stops = fold asked_with_stop nothing_asked stops
