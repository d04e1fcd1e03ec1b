-- Clocks never fall, and events stand in the order of a clock's parts.
use Rattle.keyboard.specs.QueueParts.{has_room}
use Rattle.std.proofs.Common.{◌≡◌, ℕ, zero, suc, ◌+◌, ◌≤◌, Bool, true, false, if◌then◌else◌, List, [], ◌∷◌, ◌++◌, map}
use Rattle.std.proofs.Common.{Option, None, Some, refl, sym, ap, ◌∙◌, subst, arith}
use Rattle.std.specs.Prelude.{◌&&◌, nat_le}
use Rattle.std.specs.Bool.{beq}
use Rattle.std.specs.List.{flat_map}
use Rattle.std.proofs.lemmas.Bool.Decides.{nat_tests}
use Rattle.board_types.proofs.Iterate.{gathered_more, gathered_zero}
use Rattle.board_plain.proofs.Clocks.{clocks_go_by}
use Rattle.keyboard.specs.Keyboard as keys
use Rattle.keyboard.specs.Keyboard.{KeyboardState}
use Rattle.board_plain.specs.Plain.{Plain, after_clock, after_clocks, clock_of, next_act, state_of}
use Rattle.board_plain.specs.Trail.{entry_at, event_of, trail_next}
use Rattle.board_plain.specs.declared.trail.TrailEvent.{TrailEvent}
use Rattle.events.specs.declared.event.Event.{Event}
use Rattle.events.specs.declared.event.Event.TheVariants.{Became, Began, Keyed, Reached, Wired}
use Rattle.events.specs.declared.event.KeyEvent.TheVariants.{Arrives, IsLost}
use Rattle.events.specs.declared.event.Wire.{Wire}
use Rattle.events.specs.declared.event.Wire.TheVariants.{Out0, Out2, Ir0, Ir1, Int, Speaker}
use Rattle.events.specs.Accesses.{accesses_next}
use Rattle.events.specs.Events.{all_wires, arrival_events, chips_reached, codes_next, events_in, events_next, latch_events, level_of}
use Rattle.events.specs.Events.{unwired_next, wire_event}
use Rattle.events.specs.OrderLaws.{clock_at, clocks_at, ClocksNeverFall, OrderIsTold, place_of, place_of_wire, places_of, rises_from}
use Rattle.events.proofs.Parts.{arrived_of, became_of, began_of, reached_of, settled_of, wired_of}
use Rattle.events.proofs.Told.{keeps_state, latched_next}

-- numbers of events that rise from one to another

abbrev Rises : (Event → ℕ) → ℕ → ℕ → List Event → Type 0
Rises f low high [] = low ≤ high
Rises f low high (e ∷ es) = (low ≤ f e) × Rises f (f e) high es

lower : (f : Event → ℕ) (low mid high : ℕ) (es : List Event) → low ≤ mid → Rises f mid high es → Rises f low high es
lower f low mid high [] less rises = omega (arith, less, rises)
lower f low mid high (e ∷ es) less rises = let first = rises.0 in (omega (arith, less, first), rises.1)

join : (f : Event → ℕ) (low mid high : ℕ) (xs ys : List Event) → Rises f low mid xs → Rises f mid high ys → Rises f low high (xs ++ ys)
join f low mid high [] ys first second = lower f low mid high ys first second
join f low mid high (x ∷ xs) ys first second = (first.0, join f (f x) mid high xs ys first.1 second)

each_at : {X : Type 0} (f : Event → ℕ) (low at : ℕ) (event : X → Event) → ((x : X) → f (event x) ≡ at) → low ≤ at
    → (xs : List X) → Rises f low at (map event xs)
each_at f low at event is less [] = less
each_at f low at event is less (x ∷ xs) =
    let here = is x in (omega (arith, here, less), subst (λ n. Rises f n at (map event xs)) (sym here) (each_at f at at event is (omega arith) xs))

once_at : (f : Event → ℕ) (low at : ℕ) (e : Event) (same : Bool) → f e ≡ at → low ≤ at → Rises f low at (if same then [] else e ∷ [])
once_at f low at e true is less = less
once_at f low at e false is less = (omega (arith, is, less), omega (arith, is))

-- the six parts of a clock, one after another
all_parts : (f : Event → ℕ) (s : Plain) (a b c d x y z : ℕ) → Rises f a b (began_of s) → Rises f b c (reached_of s) → Rises f c d (became_of s)
    → Rises f d x (arrived_of s) → Rises f x y (settled_of s) → Rises f y z (wired_of s) → Rises f a z (events_next s)
unfolding events_next unwired_next
all_parts f s a b c d x y z began reached became arrived settled wired =
    join f a y z (began_of s ++ (reached_of s ++ (became_of s ++ (arrived_of s ++ settled_of s)))) (wired_of s)
    (join f a b y (began_of s) (reached_of s ++ (became_of s ++ (arrived_of s ++ settled_of s))) began
    (join f b c y (reached_of s) (became_of s ++ (arrived_of s ++ settled_of s)) reached
    (join f c d y (became_of s) (arrived_of s ++ settled_of s) became
    (join f d x y (arrived_of s) (settled_of s) arrived settled)))) wired

-- places

place_of_one : (clock code : ℕ) (room : Bool) → place_of (Keyed clock (if room then Arrives else IsLost) code) ≡ 3
place_of_one clock code true = refl
place_of_one clock code false = refl

arrivals_at : (low clock : ℕ) (k : KeyboardState) (codes : List ℕ) → low ≤ 3 → Rises place_of low 3 (arrival_events clock k codes)
arrivals_at low clock k [] less = less
arrivals_at low clock k (code ∷ codes) less =
    let here = place_of_one clock code (has_room k) in (
      omega (arith, here, less),
      subst (λ n. Rises place_of n 3 (arrival_events clock (keys.after_arrival k code) codes)) (sym here)
          (arrivals_at 3 clock (keys.after_arrival k code) codes (omega arith)),
    )

latch_at : (clock : ℕ) (code : Option ℕ) → Rises place_of 3 4 (latch_events clock code)
latch_at clock None = omega arith
latch_at clock (Some code) = (omega arith, omega arith)

wire_at : (clock low : ℕ) (s t : Plain) (wire : Wire) → low ≤ place_of_wire wire → Rises place_of low (place_of_wire wire) (wire_event clock s t wire)
wire_at clock low s t wire less =
    once_at place_of low (place_of_wire wire) (Wired clock wire (level_of t wire)) (beq (level_of s wire) (level_of t wire)) refl less

wires_at : (clock : ℕ) (s t : Plain) → Rises place_of 4 10 (flat_map (wire_event clock s t) all_wires)
wires_at clock s t =
    let e : Wire → List Event = wire_event clock s t in
    join place_of 4 5 10 (e Out0) _ (wire_at clock 4 s t Out0 (omega arith))
    (join place_of 5 6 10 (e Out2) _ (wire_at clock 5 s t Out2 (omega arith))
    (join place_of 6 7 10 (e Ir0) _ (wire_at clock 6 s t Ir0 (omega arith))
    (join place_of 7 8 10 (e Ir1) _ (wire_at clock 7 s t Ir1 (omega arith))
    (join place_of 8 9 10 (e Int) _ (wire_at clock 8 s t Int (omega arith))
    (join place_of 9 10 10 (e Speaker) [] (wire_at clock 9 s t Speaker (omega arith)) (omega arith))))))

places_rise : (s : Plain) → Rises place_of 0 10 (events_next s)
places_rise s =
    all_parts place_of s 0 0 1 2 3 4 10 (each_at place_of 0 0 Began (λ entry. refl) (omega arith) (trail_next s))
    (each_at place_of 0 1 (Reached (clock_of s)) (λ access. refl) (omega arith) (accesses_next s))
    (once_at place_of 1 2 (Became (clock_of s) (state_of (after_clock s))) (keeps_state s) refl (omega arith))
    (arrivals_at 2 (clock_of s + 1) (chips_reached s).keyboard (codes_next s) (omega arith))
    (latch_at (clock_of s + 1) (latched_next s))
    (wires_at (clock_of s + 1) s (after_clock s))

at_most : (a b : ℕ) → a ≤ b → nat_le a b ≡ true
at_most a b less = grind (arith, nat_tests, less)

both : (a b : Bool) → a ≡ true → b ≡ true → (a && b) ≡ true
both true b is so = so
both false b is so = is

places_never_fall : (low high : ℕ) (es : List Event) → Rises place_of low high es → rises_from low (places_of es) ≡ true
places_never_fall low high [] rises = refl
places_never_fall low high (e ∷ es) rises =
    both (nat_le low (place_of e)) (rises_from (place_of e) (places_of es)) (at_most low (place_of e) rises.0)
    (places_never_fall (place_of e) high es rises.1)

pub order_is_told : OrderIsTold
order_is_told s = places_never_fall 0 10 (events_next s) (places_rise s)

-- clocks

began_at : (s : Plain) (event : Option TrailEvent) → Rises clock_at (clock_of s) (clock_of s) (map Began (entry_at s event))
began_at s None = omega arith
began_at s (Some event) = (omega arith, omega arith)

trail_at : (s : Plain) → Rises clock_at (clock_of s) (clock_of s) (began_of s)
unfolding trail_next
trail_at s = began_at s (event_of s.cpu s.chips (next_act s))

codes_at_clock : (low clock : ℕ) (k : KeyboardState) (codes : List ℕ) → low ≤ clock → Rises clock_at low clock (arrival_events clock k codes)
codes_at_clock low clock k [] less = less
codes_at_clock low clock k (code ∷ codes) less = (less, codes_at_clock clock clock (keys.after_arrival k code) codes (omega arith))

latched_at : (clock : ℕ) (code : Option ℕ) → Rises clock_at clock clock (latch_events clock code)
latched_at clock None = omega arith
latched_at clock (Some code) = (omega arith, omega arith)

wired_at : (clock : ℕ) (s t : Plain) (some : List Wire) → Rises clock_at clock clock (flat_map (wire_event clock s t) some)
wired_at clock s t [] = omega arith
wired_at clock s t (w ∷ ws) =
    join clock_at clock clock clock (wire_event clock s t w) (flat_map (wire_event clock s t) ws)
    (once_at clock_at clock clock (Wired clock w (level_of t w)) (beq (level_of s w) (level_of t w)) refl (omega arith)) (wired_at clock s t ws)

clock_rises : (s : Plain) → Rises clock_at (clock_of s) (clock_of s + 1) (events_next s)
clock_rises s =
    let c : ℕ = clock_of s in
    all_parts clock_at s c c c c (c + 1) (c + 1) (c + 1) (trail_at s)
    (each_at clock_at c c (Reached c) (λ access. refl) (omega arith) (accesses_next s))
    (once_at clock_at c c (Became c (state_of (after_clock s))) (keeps_state s) refl (omega arith))
    (codes_at_clock c (c + 1) (chips_reached s).keyboard (codes_next s) (omega arith))
    (latched_at (c + 1) (latched_next s))
    (wired_at (c + 1) s (after_clock s) all_wires)

clocks_rise : (s : Plain) (n : ℕ) → Rises clock_at (clock_of s) (clock_of s + n) (events_in s n)
clocks_rise s zero = subst (Rises clock_at (clock_of s) (clock_of s + 0)) (sym (gathered_zero after_clock events_next s)) (omega arith)
clocks_rise s (suc n) =
    let more : suc n ≡ n + 1 = omega arith in
    let p : Plain = after_clocks s n in
    let at : clock_of p ≡ clock_of s + n = clocks_go_by n s in
    subst (Rises clock_at (clock_of s) (clock_of s + suc n))
    (sym (ap (λ k. events_in s k) more ∙ gathered_more after_clock events_next n s))
    (join clock_at (clock_of s) (clock_of s + n) (clock_of s + suc n) (events_in s n) (events_next p) (clocks_rise s n)
    (subst (λ high. Rises clock_at (clock_of s + n) high (events_next p)) (omega (arith, at))
    (subst (λ low. Rises clock_at low (clock_of p + 1) (events_next p)) at (clock_rises p))))

clocks_go_on : (low high : ℕ) (es : List Event) → Rises clock_at low high es → rises_from low (clocks_at es) ≡ true
clocks_go_on low high [] rises = refl
clocks_go_on low high (e ∷ es) rises =
    both (nat_le low (clock_at e)) (rises_from (clock_at e) (clocks_at es)) (at_most low (clock_at e) rises.0)
    (clocks_go_on (clock_at e) high es rises.1)

pub clocks_never_fall : ClocksNeverFall
clocks_never_fall s n = clocks_go_on (clock_of s) (clock_of s + n) (events_in s n) (clocks_rise s n)
