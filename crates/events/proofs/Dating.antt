-- Events have the clocks of their kinds, and stand in the order of a clock's parts.
use Rattle.keyboard.specs.QueueParts.{has_room}
use Rattle.std.proofs.Common.{◌≡◌, ℕ, ◌+◌, Bool, true, false, if◌then◌else◌, List, [], ◌∷◌, ◌++◌, map}
use Rattle.std.proofs.Common.{Option, None, Some, refl, ◌∙◌, append-nil, arith}
use Rattle.std.specs.Prelude.{nat_eq}
use Rattle.std.specs.Bool.{beq}
use Rattle.std.specs.List.{flat_map}
use Rattle.std.proofs.lemmas.Bool.Decides.{nat_tests}
use Rattle.std.proofs.lemmas.List.Concat.{flat_map-append}
use Rattle.keyboard.specs.Keyboard as keys
use Rattle.keyboard.specs.Keyboard.{KeyboardState}
use Rattle.board_plain.specs.Plain.{Plain, after_clock, clock_of, next_act, state_of}
use Rattle.board_plain.specs.Trail.{entry_at, event_of, trail_next}
use Rattle.board_plain.specs.declared.trail.TrailEvent.{TrailEvent}
use Rattle.events.specs.declared.event.Event.{Event}
use Rattle.events.specs.declared.event.Event.TheVariants.{Became, Began, Keyed, Reached, Wired}
use Rattle.events.specs.declared.event.KeyEvent.TheVariants.{Arrives, IsLost, IsLatched}
use Rattle.events.specs.declared.event.Wire.{Wire}
use Rattle.events.specs.Accesses.{accesses_next}
use Rattle.events.specs.Events.{all_wires, arrival_events, chips_reached, codes_next, latch_events, level_of, wire_event}
use Rattle.events.specs.OrderLaws.{ClocksAreTold, misdated}
use Rattle.events.proofs.Parts.{joined, none_if, none_in}
use Rattle.events.proofs.Told.{keeps_state, latched_next}

same_clock : (n : ℕ) → nat_eq n n ≡ true
same_clock n = grind (arith, nat_tests)

-- an event that has its clock is none that hasn't
dated : (clock : ℕ) (e : Event) (has : Bool) → has ≡ true → (if has then [] else e ∷ []) ≡ []
dated clock e true is = refl
dated clock e false is = let never : false ≡ true = is in absurd (cc)

began_dated : (s : Plain) (event : Option TrailEvent) → flat_map (misdated (clock_of s)) (map Began (entry_at s event)) ≡ []
began_dated s None = refl
began_dated s (Some event) = append-nil _ ∙ dated (clock_of s) _ (nat_eq (clock_of s) (clock_of s)) (same_clock (clock_of s))

trail_dated : (s : Plain) → flat_map (misdated (clock_of s)) (map Began (trail_next s)) ≡ []
unfolding trail_next
trail_dated s = began_dated s (event_of s.cpu s.chips (next_act s))

arrivals_dated : (clock : ℕ) (k : KeyboardState) (codes : List ℕ) → flat_map (misdated clock) (arrival_events (clock + 1) k codes) ≡ []
arrivals_dated clock k [] = refl
arrivals_dated clock k (code ∷ codes) = λ i.
    dated clock (Keyed (clock + 1) (if has_room k then Arrives else IsLost) code) (nat_eq (clock + 1) (clock + 1)) (same_clock (clock + 1)) i
    ++ arrivals_dated clock (keys.after_arrival k code) codes i

latch_dated : (clock : ℕ) (code : Option ℕ) → flat_map (misdated clock) (latch_events (clock + 1) code) ≡ []
latch_dated clock None = refl
latch_dated clock (Some code) =
    append-nil _ ∙ dated clock (Keyed (clock + 1) IsLatched code) (nat_eq (clock + 1) (clock + 1)) (same_clock (clock + 1))

wires_dated : (clock : ℕ) (s t : Plain) (some : List Wire) → flat_map (misdated clock) (flat_map (wire_event (clock + 1) s t) some) ≡ []
wires_dated clock s t [] = refl
wires_dated clock s t (w ∷ ws) =
    flat_map-append (misdated clock) (wire_event (clock + 1) s t w) (flat_map (wire_event (clock + 1) s t) ws)
    ∙ (λ i. none_if (misdated clock) (Wired (clock + 1) w (level_of t w))
    (dated clock (Wired (clock + 1) w (level_of t w)) (nat_eq (clock + 1) (clock + 1)) (same_clock (clock + 1))) (beq (level_of s w) (level_of t w)) i
    ++ wires_dated clock s t ws i)

pub clocks_are_told : ClocksAreTold
clocks_are_told s =
    let c : ℕ = clock_of s in
    joined (misdated c) s [] [] [] [] [] [] (trail_dated s)
    (none_in (misdated c) (Reached c) (λ access. dated c (Reached c access) (nat_eq c c) (same_clock c)) (accesses_next s))
    (none_if (misdated c) (Became c (state_of (after_clock s))) (dated c (Became c (state_of (after_clock s))) (nat_eq c c) (same_clock c)) (keeps_state s))
    (arrivals_dated c (chips_reached s).keyboard (codes_next s))
    (latch_dated c (latched_next s))
    (wires_dated c s (after_clock s) all_wires)
