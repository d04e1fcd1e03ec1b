-- The events of a clock that are asked for, part by part.
use Rattle.keyboard.specs.QueueParts.{after_sending, count_after_loss, has_room, sends}
use Rattle.std.proofs.Common.{◌≡◌, ℕ, suc, ◌+◌, Bool, true, false, if◌then◌else◌, List, [], ◌∷◌, ◌++◌}
use Rattle.std.proofs.Common.{length, map, drop, Option, None, Some, refl, sym, ap, ◌∙◌, arith, append_assoc, append-nil}
use Rattle.std.specs.Prelude.{◌==◌, filter, fold, nat_eq, slice_get}
use Rattle.std.specs.Bool.{beq}
use Rattle.std.specs.List.{flat_map}
use Rattle.std.proofs.lemmas.Bool.Decides.{nat_tests}
use Rattle.std.proofs.lemmas.List.{length-append}
use Rattle.std.proofs.lemmas.List.Elements.{filter-append}
use Rattle.board_types.specs.Bits.{has_bit}
use Rattle.board_plain.specs.Plain.{Plain, after_clock, clock_of, state_of}
use Rattle.board_plain.specs.Trail.{trail_next}
use Rattle.keyboard.specs.Keyboard as keys
use Rattle.keyboard.specs.Keyboard.{KeyboardState, after_clearing}
use Rattle.ppi8255.specs.Ppi.{lines_b}
use Rattle.wiring.specs.Chips.{ChipsState}
use Rattle.wiring.specs.Wires.{after_arrivals, after_key_settling, after_settling}
use Rattle.events.specs.declared.event.Event.{Event}
use Rattle.events.specs.declared.event.Event.TheVariants.{Began, Became, Keyed, Reached, Wired}
use Rattle.events.specs.declared.event.KeyEvent.TheVariants.{Arrives, IsLost, IsLatched}
use Rattle.events.specs.declared.event.Wire.{Wire}
use Rattle.events.specs.declared.event.Wire.TheVariants.{Out0, Out2, Ir0, Ir1, Int, Speaker}
use Rattle.events.specs.Accesses.{accesses_next}
use Rattle.events.specs.Events.{all_wires, arrival_events, chips_reached, code_latched, codes_next, events_next, is_same_state}
use Rattle.events.specs.Events.{key_events, latch_events, level_of, settling_events, state_events, unwired_next, wire_event, wire_events}
use Rattle.events.proofs.Queue.{arrived_keyboard, gathered_in, next_chips, reached_queue}
use Rattle.probe_texts.specs.declared.asked.Asked.{Asked}
use Rattle.probe_texts.specs.Asked.{asks}
use Rattle.probe_texts.specs.Told.{accesses_seen, arrivals_from, begun_seen, change_events, held_from, latched_from, levels_of, state_seen}
use Rattle.probe_texts.specs.Told.{waits_among, wires_between}

-- the codes that arrive, by how many wait

waits_by : (k : KeyboardState) (code : ℕ) (room : Bool)
    → length (if room then record k { waiting = k.waiting ++ code ∷ [] } else record k { lost = count_after_loss k.lost }).waiting
    ≡ (if room then length k.waiting + 1 else length k.waiting)
waits_by k code true = length-append k.waiting (code ∷ [])
waits_by k code false = refl

waits_after : (k : KeyboardState) (code : ℕ) → length (keys.after_arrival k code).waiting ≡ waits_among (length k.waiting)
unfolding keys.after_arrival
waits_after k code = waits_by k code (has_room k)

arrivals_are : (clock : ℕ) (codes : List ℕ) (k : KeyboardState) → arrival_events clock k codes ≡ arrivals_from clock (length k.waiting) codes
arrivals_are clock [] k = refl
arrivals_are clock (code ∷ codes) k =
    ap (λ (es : List Event). Keyed clock (if has_room k then Arrives else IsLost) code ∷ es)
    (arrivals_are clock codes (keys.after_arrival k code) ∙ ap (λ n. arrivals_from clock n codes) (waits_after k code))

held_is : (codes : List ℕ) (k : KeyboardState) → held_from (length k.waiting) codes ≡ length (fold keys.after_arrival k codes).waiting
held_is [] k = refl
held_is (code ∷ codes) k = ap (λ n. held_from n codes) (sym (waits_after k code)) ∙ held_is codes (keys.after_arrival k code)

-- the code that moves into the latch

one_more_differs : (n : ℕ) → nat_eq (n + 1) n ≡ false
one_more_differs n = grind (arith, nat_tests)

no_fewer : (n : ℕ) (events : List Event) → [] ≡ (if n + 1 == n then events else [])
no_fewer n events = ap (λ (fewer : Bool). if fewer then events else []) (sym (one_more_differs n))

same_size : (n : ℕ) → nat_eq (n + 1) (suc n) ≡ true
same_size n = grind (arith, nat_tests)

one_fewer : (clock : ℕ) (waiting : List ℕ)
    → latch_events clock (slice_get waiting 0) ≡ (if length (drop 1 waiting) + 1 == length waiting then latch_events clock (slice_get waiting 0) else [])
one_fewer clock [] = refl
one_fewer clock (code ∷ codes) = ap (λ (fewer : Bool). if fewer then latch_events clock (Some code) else []) (sym (same_size (length codes)))

abbrev latched_of : ℕ → ℕ → KeyboardState → List Event
latched_of clock held k = latched_from clock held (length k.waiting) k.latch

abbrev settled : KeyboardState → Bool → Bool → KeyboardState
settled k clears sending = if clears then after_clearing k else (if sending then after_sending k else k)

latched_by : (clock : ℕ) (k : KeyboardState) (clears sending : Bool)
    → latch_events clock (if clears then None else (if sending then slice_get k.waiting 0 else None))
    ≡ latched_of clock (length k.waiting) (if clears then after_clearing (settled k clears sending) else settled k clears sending)
latched_by clock k true sending = no_fewer (length k.waiting) []
latched_by clock k false true = one_fewer clock k.waiting
latched_by clock k false false = no_fewer (length k.waiting) (latch_events clock k.latch)

latched_is : (clock : ℕ) (c : ChipsState) → settling_events clock c ≡ latched_of clock (length c.keyboard.waiting) (after_key_settling c).keyboard
unfolding after_key_settling after_settling keys.after_settling
latched_is clock c = latched_by clock c.keyboard (has_bit (lines_b c.ppi) 7) (sends c.keyboard (lines_b c.ppi))

-- what becomes of a clock's codes, by how many wait before and after
pub keys_are : (s : Plain)
    → arrivals_from (clock_of s + 1) (length s.chips.keyboard.waiting) (codes_next s)
    ++ latched_from (clock_of s + 1) (held_from (length s.chips.keyboard.waiting) (codes_next s))
    (length (after_clock s).chips.keyboard.waiting) (after_clock s).chips.keyboard.latch
    ≡ key_events (clock_of s + 1) (chips_reached s) (codes_next s)
keys_are s =
    let clock : ℕ = clock_of s + 1 in
    let reached : KeyboardState = (chips_reached s).keyboard in
    let arrived : ChipsState = gathered_in s in
    let waiting : length s.chips.keyboard.waiting ≡ length reached.waiting = ap length (sym (reached_queue s).waiting) in
    let held : held_from (length s.chips.keyboard.waiting) (codes_next s) ≡ length arrived.keyboard.waiting =
    ap (λ n. held_from n (codes_next s)) waiting ∙ held_is (codes_next s) reached
    ∙ ap (λ (k : KeyboardState). length k.waiting) (sym (arrived_keyboard (codes_next s) (chips_reached s))) in
    (λ i. (ap (λ n. arrivals_from clock n (codes_next s)) waiting ∙ sym (arrivals_are clock (codes_next s) reached)) i
    ++ latched_of clock (held i) (next_chips s i).keyboard)
    ∙ ap (λ es. arrival_events clock reached (codes_next s) ++ es) (sym (latched_is clock arrived))

-- the wires, by their levels before and after
pub wires_are : (clock : ℕ) (s t : Plain) → wires_between clock (levels_of s) (levels_of t) ≡ wire_events clock s t
unfolding levels_of level_of
wires_are clock s t =
    let e : Wire → List Event = λ wire. change_events clock wire (level_of s wire) (level_of t wire) in
    sym (ap (λ es. e Out0 ++ (e Out2 ++ (e Ir0 ++ (e Ir1 ++ (e Int ++ es))))) (append-nil (e Speaker)))

-- events that are asked for alike

abbrev kept : Bool → Event → List Event → List Event
kept all e es = if all then e ∷ es else es

all_or_none : {X : Type 0} (a : Asked) (f : X → Event) (all : Bool) → ((x : X) → asks a (f x) ≡ all) → (xs : List X)
    → filter (asks a) (map f xs) ≡ (if all then map f xs else [])
all_or_none a f true is [] = refl
all_or_none a f false is [] = refl
all_or_none a f true is (x ∷ xs) = ap (λ b. kept b (f x) (filter (asks a) (map f xs))) (is x) ∙ ap (λ es. f x ∷ es) (all_or_none a f true is xs)
all_or_none a f false is (x ∷ xs) = ap (λ b. kept b (f x) (filter (asks a) (map f xs))) (is x) ∙ all_or_none a f false is xs

one_if : (a : Asked) (e : Event) (same all : Bool) → asks a e ≡ all
    → filter (asks a) (if same then [] else e ∷ []) ≡ (if all then (if same then [] else e ∷ []) else [])
one_if a e true true is = refl
one_if a e true false is = refl
one_if a e false true is = ap (λ b. kept b e []) is
one_if a e false false is = ap (λ b. kept b e []) is

arrivals_if : (a : Asked) (all : Bool) → a.keys ≡ all → (clock : ℕ) (k : KeyboardState) (codes : List ℕ)
    → filter (asks a) (arrival_events clock k codes) ≡ (if all then arrival_events clock k codes else [])
arrivals_if a true is clock k [] = refl
arrivals_if a false is clock k [] = refl
arrivals_if a true is clock k (code ∷ codes) =
    let e : Event = Keyed clock (if has_room k then Arrives else IsLost) code in
    let rest : List Event = arrival_events clock (keys.after_arrival k code) codes in
    ap (λ b. kept b e (filter (asks a) rest)) is ∙ ap (λ es. e ∷ es) (arrivals_if a true is clock (keys.after_arrival k code) codes)
arrivals_if a false is clock k (code ∷ codes) =
    let e : Event = Keyed clock (if has_room k then Arrives else IsLost) code in
    let rest : List Event = arrival_events clock (keys.after_arrival k code) codes in
    ap (λ b. kept b e (filter (asks a) rest)) is ∙ arrivals_if a false is clock (keys.after_arrival k code) codes

latch_if : (a : Asked) (all : Bool) → a.keys ≡ all → (clock : ℕ) (code : Option ℕ)
    → filter (asks a) (latch_events clock code) ≡ (if all then latch_events clock code else [])
latch_if a true is clock None = refl
latch_if a false is clock None = refl
latch_if a true is clock (Some code) = ap (λ b. kept b (Keyed clock IsLatched code) []) is
latch_if a false is clock (Some code) = ap (λ b. kept b (Keyed clock IsLatched code) []) is

both_if : (all : Bool) (xs ys : List Event) → (if all then xs else []) ++ (if all then ys else []) ≡ (if all then xs ++ ys else [])
both_if true xs ys = refl
both_if false xs ys = refl

abbrev none_of : List Event
none_of = []

none_if : (all : Bool) → none_of ≡ (if all then none_of else none_of)
none_if true = refl
none_if false = refl

keys_if : (a : Asked) (clock : ℕ) (c : ChipsState) (codes : List ℕ)
    → filter (asks a) (key_events clock c codes) ≡ (if a.keys then key_events clock c codes else [])
keys_if a clock c codes =
    let after : ChipsState = after_arrivals c codes in
    filter-append (asks a) (arrival_events clock c.keyboard codes) (settling_events clock after)
    ∙ (λ i. arrivals_if a a.keys refl clock c.keyboard codes i ++ latch_if a a.keys refl clock (code_latched after.keyboard (lines_b after.ppi)) i)
    ∙ both_if a.keys (arrival_events clock c.keyboard codes) (settling_events clock after)

wires_some : (a : Asked) (clock : ℕ) (s t : Plain) (some : List Wire)
    → filter (asks a) (flat_map (wire_event clock s t) some) ≡ (if a.wires then flat_map (wire_event clock s t) some else [])
wires_some a clock s t [] = none_if a.wires
wires_some a clock s t (w ∷ ws) =
    filter-append (asks a) (wire_event clock s t w) (flat_map (wire_event clock s t) ws)
    ∙ (λ i. one_if a (Wired clock w (level_of t w)) (beq (level_of s w) (level_of t w)) a.wires refl i ++ wires_some a clock s t ws i)
    ∙ both_if a.wires (wire_event clock s t w) (flat_map (wire_event clock s t) ws)

pub wires_if : (a : Asked) (clock : ℕ) (s t : Plain) → filter (asks a) (wire_events clock s t) ≡ (if a.wires then wire_events clock s t else [])
wires_if a clock s t = wires_some a clock s t all_wires

-- all of a clock

pub clock_is : (a : Asked) (s : Plain)
    → begun_seen a (trail_next s)
    ++ (accesses_seen a.accesses (clock_of s) (accesses_next s)
    ++ (state_seen a.states (clock_of s) (state_of s) (state_of (after_clock s))
    ++ ((if a.keys then key_events (clock_of s + 1) (chips_reached s) (codes_next s) else [])
    ++ (if a.wires then wire_events (clock_of s + 1) s (after_clock s) else []))))
    ≡ filter (asks a) (events_next s)
unfolding events_next unwired_next
clock_is a s =
    let p : Event → Bool = asks a in
    let began : List Event = map Began (trail_next s) in
    let reached : List Event = map (Reached (clock_of s)) (accesses_next s) in
    let became : List Event = state_events (clock_of s) (state_of s) (state_of (after_clock s)) in
    let keyed : List Event = key_events (clock_of s + 1) (chips_reached s) (codes_next s) in
    let wired : List Event = wire_events (clock_of s + 1) s (after_clock s) in
    sym (
    filter-append p (began ++ (reached ++ (became ++ keyed))) wired
    ∙ ap (λ es. es ++ filter p wired) (
    filter-append p began (reached ++ (became ++ keyed))
    ∙ ap (λ es. filter p began ++ es) (
    filter-append p reached (became ++ keyed) ∙ ap (λ es. filter p reached ++ es) (filter-append p became keyed)))
    ∙ append_assoc (filter p began) (filter p reached ++ (filter p became ++ filter p keyed)) (filter p wired)
    ∙ ap (λ es. filter p began ++ es) (
    append_assoc (filter p reached) (filter p became ++ filter p keyed) (filter p wired)
    ∙ ap (λ es. filter p reached ++ es) (append_assoc (filter p became) (filter p keyed) (filter p wired)))
    ∙ (λ i. filter p began ++ (all_or_none a (Reached (clock_of s)) a.accesses (λ x. refl) (accesses_next s) i
    ++ (one_if a (Became (clock_of s) (state_of (after_clock s))) (is_same_state (state_of s) (state_of (after_clock s))) a.states refl i
    ++ (keys_if a (clock_of s + 1) (chips_reached s) (codes_next s) i ++ wires_if a (clock_of s + 1) s (after_clock s) i)))))
