-- Runs of arrivals and settlings, and what becomes of each code.
-- Laws: claims above the definitions, each proved as the contract of a function.
use Rattle.keyboard.specs.QueueParts.{has_room}
use Rattle.std.specs.Prelude.{◌≡◌, ℕ, zero, suc, ◌+◌, ◌-◌, ◌^◌, ◌<◌, ◌≤◌, min}
use Rattle.std.specs.Prelude.{if◌then◌else◌, List, [], ◌∷◌, ◌++◌, length, take}
use Rattle.std.specs.Option.{option_to_list}
use Rattle.board_types.specs.Bits.{has_bit}
use Rattle.keyboard.specs.Keyboard.{KeyboardState, after_arrival, after_settling}

-- what happens to a keyboard: a code arrives, or it settles to the lines of port B
pub data Event : Type 0 where
  arrival : (code : ℕ) → Event
  settling : (port_b : ℕ) → Event

abbrev pub after_event : KeyboardState → Event → KeyboardState
after_event s (arrival code) = after_arrival s code
after_event s (settling port_b) = after_settling s port_b

unfoldable pub after_events : KeyboardState → List Event → KeyboardState
after_events s [] = s
after_events s (e ∷ es) = after_events (after_event s e) es

-- what `codes` shows at each event of a run, in order
unfoldable pub codes_along : (KeyboardState → Event → List ℕ) → KeyboardState → List Event → List ℕ
codes_along codes s [] = []
codes_along codes s (e ∷ es) = codes s e ++ codes_along codes (after_event s e) es

-- the code that arrives in an event, if one does
abbrev pub arriving_codes : KeyboardState → Event → List ℕ
arriving_codes s (arrival code) = code ∷ []
arriving_codes s (settling port_b) = []

-- the code that arrives and finds room, if one does
abbrev pub accepted_codes : KeyboardState → Event → List ℕ
accepted_codes s (arrival code) = if has_room s then code ∷ [] else []
accepted_codes s (settling port_b) = []

-- the code that arrives and finds no room, if one does
abbrev pub lost_codes : KeyboardState → Event → List ℕ
lost_codes s (arrival code) = if has_room s then [] else code ∷ []
lost_codes s (settling port_b) = []

-- the code that leaves the latch as line 7 of port B empties it, if there is one
abbrev pub taken_codes : KeyboardState → Event → List ℕ
taken_codes s (arrival code) = []
taken_codes s (settling port_b) = if has_bit port_b 7 then option_to_list s.latch else []

-- the codes in a keyboard, the oldest first
abbrev pub held_codes : KeyboardState → List ℕ
held_codes s = option_to_list s.latch ++ s.waiting

-- a list is two lists merged: each of its items is the next of exactly one of them
pub data IsMerge : List ℕ → List ℕ → List ℕ → Type 0 where
  merged_none : IsMerge [] [] []
  merged_left : {x : ℕ} {all left right : List ℕ} → IsMerge all left right → IsMerge (x ∷ all) (x ∷ left) right
  merged_right : {x : ℕ} {all left right : List ℕ} → IsMerge all left right → IsMerge (x ∷ all) left (x ∷ right)

-- what becomes of the codes of a keyboard over a run of events
pub record AccountsForCodes (s : KeyboardState) (es : List Event) : Type 0 where
  -- first in, first out: the codes taken and then those still held are those held at first and then those accepted
  pub in_order : codes_along taken_codes s es ++ held_codes (after_events s es)
      ≡ held_codes s ++ codes_along accepted_codes s es
  -- each code that arrives is accepted or lost, and none is both
  pub once : IsMerge (codes_along arriving_codes s es) (codes_along accepted_codes s es) (codes_along lost_codes s es)
  -- lost codes are counted, up to the greatest u64
  pub counted : s.lost < 2 ^ 64
      → (after_events s es).lost ≡ min (s.lost + length (codes_along lost_codes s es)) (2 ^ 64 - 1)
  -- no more than sixteen ever wait
  pub within : length s.waiting ≤ 16 → length (after_events s es).waiting ≤ 16

-- n rounds, in each of which lines 7 and 6 of port B are 0 and 1, and then 1 and 1
abbrev pub rounds : ℕ → List Event
rounds zero = []
rounds (suc n) = settling 0x40 ∷ settling 0xC0 ∷ rounds n

-- each round takes the next of the codes held, while there is one
abbrev pub ComesInTurn : KeyboardState → ℕ → Type 0
ComesInTurn s n = codes_along taken_codes s (rounds n) ≡ take n (held_codes s)

-- settling again to the same lines changes nothing more
abbrev pub SettlesOnce : KeyboardState → ℕ → Type 0
SettlesOnce s port_b = after_settling (after_settling s port_b) port_b ≡ after_settling s port_b
