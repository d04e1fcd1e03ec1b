-- The definitions on worked values: sixteen codes wait, one is lost, and they come in their order.
use Rattle.std.proofs.Common.{◌≡◌, Some, None, List, [], ◌∷◌, refl}
use Rattle.keyboard.specs.Keyboard.{KeyboardState, power_on, after_arrival, after_settling}
use Rattle.keyboard.specs.Runs.{Event, arrival, settling, after_events}

seventeen : List Event
seventeen =
    arrival 0x01 ∷ arrival 0x02 ∷ arrival 0x03 ∷ arrival 0x04 ∷ arrival 0x05 ∷ arrival 0x06 ∷ arrival 0x07 ∷ arrival 0x08 ∷ arrival 0x09
    ∷ arrival 0x0A ∷ arrival 0x0B ∷ arrival 0x0C ∷ arrival 0x0D ∷ arrival 0x0E ∷ arrival 0x0F ∷ arrival 0x10 ∷ arrival 0x11 ∷ []

full : KeyboardState
full = after_events power_on (settling 0xC0 ∷ seventeen)

sixteen_wait : full.waiting ≡ 1 ∷ 2 ∷ 3 ∷ 4 ∷ 5 ∷ 6 ∷ 7 ∷ 8 ∷ 9 ∷ 10 ∷ 11 ∷ 12 ∷ 13 ∷ 14 ∷ 15 ∷ 16 ∷ []
unfolding full seventeen after_events after_arrival after_settling
sixteen_wait = refl

one_is_lost : full.lost ≡ 1
unfolding full seventeen after_events after_arrival after_settling
one_is_lost = refl

the_first_moves : (after_events full (settling 0x40 ∷ [])).latch ≡ Some 1
unfolding full seventeen after_events after_arrival after_settling
the_first_moves = refl

it_is_cleared : (after_events full (settling 0x40 ∷ settling 0xC0 ∷ [])).latch ≡ None
unfolding full seventeen after_events after_arrival after_settling
it_is_cleared = refl

the_second_moves : (after_events full (settling 0x40 ∷ settling 0xC0 ∷ settling 0x40 ∷ [])).latch ≡ Some 2
unfolding full seventeen after_events after_arrival after_settling
the_second_moves = refl
