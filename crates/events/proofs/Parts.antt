-- What a function of events gives for a clock, part by part, and for consecutive clocks.
use Rattle.keyboard.specs.QueueParts.{has_room}
use Rattle.std.proofs.Common.{◌≡◌, ℕ, zero, suc, ◌+◌, Bool, true, false, if◌then◌else◌, List, [], ◌∷◌, ◌++◌, map, Option, None, Some, refl, ap, ◌∙◌, append-nil}
use Rattle.std.specs.Bool.{beq}
use Rattle.std.specs.List.{flat_map}
use Rattle.std.proofs.lemmas.List.Concat.{flat_map-append}
use Rattle.board_types.specs.Iterate.{gathered}
use Rattle.keyboard.specs.Keyboard as keys
use Rattle.keyboard.specs.Keyboard.{KeyboardState}
use Rattle.wiring.specs.Wires.{after_arrivals}
use Rattle.board_plain.specs.Plain.{Plain, after_clock, after_clocks, clock_of, state_of}
use Rattle.board_plain.specs.Trail.{trail_next}
use Rattle.events.specs.declared.event.Event.{Event}
use Rattle.events.specs.declared.event.Event.TheVariants.{Began, Keyed, Reached, Wired}
use Rattle.events.specs.declared.event.KeyEvent.{KeyEvent}
use Rattle.events.specs.declared.event.KeyEvent.TheVariants.{Arrives, IsLatched, IsLost}
use Rattle.events.specs.declared.event.Wire.{Wire}
use Rattle.events.specs.Accesses.{accesses_next}
use Rattle.events.specs.Events.{arrival_events, chips_reached, codes_next, events_in, events_next, latch_events}
use Rattle.events.specs.Events.{level_of, settling_events, state_events, unwired_next, wire_event, wire_events}

-- the parts of a clock

abbrev pub began_of : Plain → List Event
began_of s = map Began (trail_next s)

abbrev pub reached_of : Plain → List Event
reached_of s = map (Reached (clock_of s)) (accesses_next s)

abbrev pub became_of : Plain → List Event
became_of s = state_events (clock_of s) (state_of s) (state_of (after_clock s))

abbrev pub arrived_of : Plain → List Event
arrived_of s = arrival_events (clock_of s + 1) (chips_reached s).keyboard (codes_next s)

abbrev pub settled_of : Plain → List Event
settled_of s = settling_events (clock_of s + 1) (after_arrivals (chips_reached s) (codes_next s))

abbrev pub wired_of : Plain → List Event
wired_of s = wire_events (clock_of s + 1) s (after_clock s)

by_parts : {A : Type 0} (f : Event → List A) (s : Plain) → flat_map f (events_next s)
    ≡ (flat_map f (began_of s) ++ (flat_map f (reached_of s) ++ (flat_map f (became_of s) ++ (flat_map f (arrived_of s) ++ flat_map f (settled_of s)))))
    ++ flat_map f (wired_of s)
unfolding events_next unwired_next
by_parts f s =
    flat_map-append f (began_of s ++ (reached_of s ++ (became_of s ++ (arrived_of s ++ settled_of s)))) (wired_of s)
    ∙ ap (λ xs. xs ++ flat_map f (wired_of s)) (flat_map-append f (began_of s) (reached_of s ++ (became_of s ++ (arrived_of s ++ settled_of s)))
    ∙ ap (λ xs. flat_map f (began_of s) ++ xs) (flat_map-append f (reached_of s) (became_of s ++ (arrived_of s ++ settled_of s))
    ∙ ap (λ xs. flat_map f (reached_of s) ++ xs) (flat_map-append f (became_of s) (arrived_of s ++ settled_of s)
    ∙ ap (λ xs. flat_map f (became_of s) ++ xs) (flat_map-append f (arrived_of s) (settled_of s)))))

-- all parts, each known
pub joined : {A : Type 0} (f : Event → List A) (s : Plain) (began reached became arrived settled wired : List A) → flat_map f (began_of s) ≡ began
    → flat_map f (reached_of s) ≡ reached → flat_map f (became_of s) ≡ became → flat_map f (arrived_of s) ≡ arrived → flat_map f (settled_of s) ≡ settled
    → flat_map f (wired_of s) ≡ wired → flat_map f (events_next s) ≡ (began ++ (reached ++ (became ++ (arrived ++ settled)))) ++ wired
joined f s began reached became arrived settled wired is_began is_reached is_became is_arrived is_settled is_wired =
    by_parts f s ∙ (λ i. (is_began i ++ (is_reached i ++ (is_became i ++ (is_arrived i ++ is_settled i)))) ++ is_wired i)

-- parts of which it gives nothing

pub none_in : {X A : Type 0} (f : Event → List A) (event : X → Event) → ((x : X) → f (event x) ≡ []) → (xs : List X) → flat_map f (map event xs) ≡ []
none_in f event none [] = refl
none_in f event none (x ∷ xs) = λ i. none x i ++ none_in f event none xs i

pub none_if : {A : Type 0} (f : Event → List A) (event : Event) → f event ≡ [] → (same : Bool) → flat_map f (if same then [] else event ∷ []) ≡ []
none_if f event none true = refl
none_if f event none false = append-nil (f event) ∙ none

pub none_arrives : {A : Type 0} (f : Event → List A) → ((clock : ℕ) (what : KeyEvent) (code : ℕ) → f (Keyed clock what code) ≡ [])
    → (clock : ℕ) (k : KeyboardState) (codes : List ℕ) → flat_map f (arrival_events clock k codes) ≡ []
none_arrives f none clock k [] = refl
none_arrives f none clock k (code ∷ codes) = λ i.
    none clock (if has_room k then Arrives else IsLost) code i ++ none_arrives f none clock (keys.after_arrival k code) codes i

pub none_latched : {A : Type 0} (f : Event → List A) → ((clock code : ℕ) → f (Keyed clock IsLatched code) ≡ []) → (clock : ℕ) (code : Option ℕ)
    → flat_map f (latch_events clock code) ≡ []
none_latched f none clock None = refl
none_latched f none clock (Some code) = append-nil (f (Keyed clock IsLatched code)) ∙ none clock code

pub none_wired : {A : Type 0} (f : Event → List A) → ((clock : ℕ) (wire : Wire) (level : Bool) → f (Wired clock wire level) ≡ [])
    → (clock : ℕ) (s t : Plain) (some : List Wire) → flat_map f (flat_map (wire_event clock s t) some) ≡ []
none_wired f none clock s t [] = refl
none_wired f none clock s t (w ∷ ws) =
    flat_map-append f (wire_event clock s t w) (flat_map (wire_event clock s t) ws)
    ∙ (λ i. none_if f (Wired clock w (level_of t w)) (none clock w (level_of t w)) (beq (level_of s w) (level_of t w)) i ++ none_wired f none clock s t ws i)

-- what holds for a clock holds for n clocks
pub told_in : {A : Type 0} (f : Event → List A) (seen : Plain → List A) → ((s : Plain) → flat_map f (events_next s) ≡ seen s) → (s : Plain) (n : ℕ)
    → flat_map f (events_in s n) ≡ gathered after_clock seen n s
unfolding gathered
told_in f seen each s zero = refl
told_in f seen each s (suc n) =
    flat_map-append f (events_in s n) (events_next (after_clocks s n)) ∙ (λ i. told_in f seen each s n i ++ each (after_clocks s n) i)
