-- Wires and states are what their events say.
use Rattle.std.proofs.Common.{◌≡◌, ℕ, zero, suc, ◌+◌, Bool, true, false, not, if◌then◌else◌, List, [], ◌∷◌, ◌++◌}
use Rattle.std.proofs.Common.{refl, sym, ap, ◌∙◌, append-nil, arith}
use Rattle.std.specs.Prelude.{◌&&◌}
use Rattle.std.specs.Bool.{beq}
use Rattle.std.specs.List.{flat_map}
use Rattle.std.proofs.lemmas.List.Concat.{flat_map-append}
use Rattle.std.proofs.lemmas.List.Sums.{fold-append}
use Rattle.board_types.proofs.Iterate.{gathered_more, gathered_zero, iterate_more, iterate_zero}
use Rattle.board_types.specs.Iterate.{gathered}
use Rattle.board_types.specs.declared.state.State.{State}
use Rattle.board_types.specs.declared.state.State.TheVariants.{Running, Halted, Jammed}
use Rattle.board_plain.specs.Plain.{Plain, after_clock, after_clocks, clock_of, state_of}
use Rattle.board_plain.specs.Trail.{trail_next}
use Rattle.events.specs.declared.event.Event.TheVariants.{Became, Began, Reached, Wired}
use Rattle.events.specs.declared.event.Wire.{Wire}
use Rattle.events.specs.declared.event.Wire.TheVariants.{Out0, Out2, Ir0, Ir1, Int, Speaker}
use Rattle.events.specs.Accesses.{accesses_next}
use Rattle.events.specs.Events.{all_wires, chips_reached, codes_next, events_next, is_same_state, level_of, wire_event}
use Rattle.events.specs.LevelLaws.{alternates, became_by, is_state, is_wire, newest, StatesAlternate, StatesAreTold}
use Rattle.events.specs.LevelLaws.{turned_by, WiresAlternate, WiresAreTold}
use Rattle.events.proofs.Parts.{joined, none_arrives, none_if, none_in, none_latched, none_wired, told_in}
use Rattle.events.proofs.Told.{keeps_state, latched_next}

-- what holds of the newest value after each clock holds after n clocks

newest_in : {A : Type 0} (value : Plain → A) (seen : Plain → List A) → ((p : Plain) → newest (value p) (seen p) ≡ value (after_clock p))
    → (s : Plain) (n : ℕ) → newest (value s) (gathered after_clock seen n s) ≡ value (after_clocks s n)
newest_in value seen each s zero = ap (newest (value s)) (gathered_zero after_clock seen s) ∙ ap value (sym (iterate_zero after_clock s))
newest_in value seen each s (suc n) =
    let more : suc n ≡ n + 1 = omega arith in
    ap (λ k. newest (value s) (gathered after_clock seen k s)) more
    ∙ ap (newest (value s)) (gathered_more after_clock seen n s)
    ∙ fold-append (λ old new. new) (value s) (gathered after_clock seen n s) (seen (after_clocks s n))
    ∙ ap (λ v. newest v (seen (after_clocks s n))) (newest_in value seen each s n)
    ∙ each (after_clocks s n)
    ∙ ap value (sym (iterate_more after_clock n s))
    ∙ ap (λ k. value (after_clocks s k)) (sym more)

-- one wire in one clock

abbrev turned : Bool → Bool → List Bool
turned before after = if beq before after then [] else after ∷ []

abbrev turned_next : Wire → Plain → List Bool
turned_next wire s = turned (level_of s wire) (level_of (after_clock s) wire)

none_either : (b : Bool) → {A : Type 0} (none : List A) → none ≡ [] → [] ≡ (if b then none else none)
none_either true none is = sym is
none_either false none is = sym is

one_turned : (wire other : Wire) (clock : ℕ) (same level : Bool) → flat_map (turned_by wire) (if same then [] else Wired clock other level ∷ [])
    ≡ (if is_wire wire other then (if same then [] else level ∷ []) else [])
one_turned wire other clock true level = none_either (is_wire wire other) [] refl
one_turned wire other clock false level = append-nil (if is_wire wire other then level ∷ [] else [])

wires_turned : (wire : Wire) (clock : ℕ) (s t : Plain) (some : List Wire) → flat_map (turned_by wire) (flat_map (wire_event clock s t) some)
    ≡ flat_map (λ other. if is_wire wire other then turned (level_of s other) (level_of t other) else []) some
wires_turned wire clock s t [] = refl
wires_turned wire clock s t (w ∷ ws) =
    flat_map-append (turned_by wire) (wire_event clock s t w) (flat_map (wire_event clock s t) ws)
    ∙ (λ i. one_turned wire w clock (beq (level_of s w) (level_of t w)) (level_of t w) i ++ wires_turned wire clock s t ws i)

only_one : (wire : Wire) (f : Wire → List Bool) → flat_map (λ other. if is_wire wire other then f other else []) all_wires ≡ f wire
only_one Out0 f = append-nil (f Out0)
only_one Out2 f = append-nil (f Out2)
only_one Ir0 f = append-nil (f Ir0)
only_one Ir1 f = append-nil (f Ir1)
only_one Int f = append-nil (f Int)
only_one Speaker f = append-nil (f Speaker)

turned_of_clock : (wire : Wire) (s : Plain) → flat_map (turned_by wire) (events_next s) ≡ turned_next wire s
turned_of_clock wire s =
    joined (turned_by wire) s [] [] [] [] [] (turned_next wire s)
    (none_in (turned_by wire) Began (λ entry. refl) (trail_next s))
    (none_in (turned_by wire) (Reached (clock_of s)) (λ access. refl) (accesses_next s))
    (none_if (turned_by wire) (Became (clock_of s) (state_of (after_clock s))) refl (keeps_state s))
    (none_arrives (turned_by wire) (λ clock what code. refl) (clock_of s + 1) (chips_reached s).keyboard (codes_next s))
    (none_latched (turned_by wire) (λ clock code. refl) (clock_of s + 1) (latched_next s))
    (wires_turned wire (clock_of s + 1) s (after_clock s) all_wires
    ∙ only_one wire (λ other. turned (level_of s other) (level_of (after_clock s) other)))

newest_turned : (before after : Bool) → newest before (turned before after) ≡ after
newest_turned true true = refl
newest_turned true false = refl
newest_turned false true = refl
newest_turned false false = refl

pub wires_are_told : WiresAreTold
wires_are_told s n wire =
    sym (ap (newest (level_of s wire)) (told_in (turned_by wire) (turned_next wire) (turned_of_clock wire) s n)
    ∙ newest_in (λ p. level_of p wire) (turned_next wire) (λ p. newest_turned (level_of p wire) (level_of (after_clock p) wire)) s n)

-- each event turns the wire

and_true : (a b : Bool) → a ≡ true → b ≡ true → (a && b) ≡ true
and_true true b is so = so
and_true false b is so = is

both_true : (a b : Bool) → (a && b) ≡ true → (a ≡ true) × (b ≡ true)
both_true true b is = (refl, is)
both_true false b is = let never : false ≡ true = is in absurd (cc)

alternates_on : {A : Type 0} (same : A → A → Bool) (before : A) (xs ys : List A) → alternates same before xs ≡ true
    → alternates same (newest before xs) ys ≡ true → alternates same before (xs ++ ys) ≡ true
alternates_on same before [] ys first later = later
alternates_on same before (x ∷ xs) ys first later =
    let parts = both_true (not (same before x)) (alternates same x xs) first in
    and_true (not (same before x)) (alternates same x (xs ++ ys)) parts.0 (alternates_on same x xs ys parts.1 later)

-- what differs from the value before in each clock does so in n clocks
alternates_in : {A : Type 0} (same : A → A → Bool) (value : Plain → A) (seen : Plain → List A)
    → ((p : Plain) → newest (value p) (seen p) ≡ value (after_clock p))
    → ((p : Plain) → alternates same (value p) (seen p) ≡ true) → (s : Plain) (n : ℕ) → alternates same (value s) (gathered after_clock seen n s) ≡ true
alternates_in same value seen each once s zero = ap (alternates same (value s)) (gathered_zero after_clock seen s)
alternates_in same value seen each once s (suc n) =
    let more : suc n ≡ n + 1 = omega arith in
    let p : Plain = after_clocks s n in
    ap (λ k. alternates same (value s) (gathered after_clock seen k s)) more
    ∙ ap (alternates same (value s)) (gathered_more after_clock seen n s)
    ∙ alternates_on same (value s) (gathered after_clock seen n s) (seen p) (alternates_in same value seen each once s n)
    (ap (λ v. alternates same v (seen p)) (newest_in value seen each s n) ∙ once p)

alternates_once : (before after : Bool) → alternates beq before (turned before after) ≡ true
alternates_once true true = refl
alternates_once true false = refl
alternates_once false true = refl
alternates_once false false = refl

pub wires_alternate : WiresAlternate
wires_alternate s n wire =
    ap (alternates beq (level_of s wire)) (told_in (turned_by wire) (turned_next wire) (turned_of_clock wire) s n)
    ∙ alternates_in beq (λ p. level_of p wire) (turned_next wire) (λ p. newest_turned (level_of p wire) (level_of (after_clock p) wire))
    (λ p. alternates_once (level_of p wire) (level_of (after_clock p) wire)) s n

-- the processor's state

abbrev became : State → State → List State
became before after = if is_same_state before after then [] else after ∷ []

abbrev became_next : Plain → List State
became_next s = became (state_of s) (state_of (after_clock s))

one_became : (clock : ℕ) (state : State) (same : Bool) → flat_map became_by (if same then [] else Became clock state ∷ []) ≡ (if same then [] else state ∷ [])
one_became clock state true = refl
one_became clock state false = refl

became_of_clock : (s : Plain) → flat_map became_by (events_next s) ≡ became_next s
became_of_clock s =
    joined became_by s [] [] (became_next s) [] [] []
    (none_in became_by Began (λ entry. refl) (trail_next s))
    (none_in became_by (Reached (clock_of s)) (λ access. refl) (accesses_next s))
    (one_became (clock_of s) (state_of (after_clock s)) (keeps_state s))
    (none_arrives became_by (λ clock what code. refl) (clock_of s + 1) (chips_reached s).keyboard (codes_next s))
    (none_latched became_by (λ clock code. refl) (clock_of s + 1) (latched_next s))
    (none_wired became_by (λ clock wire level. refl) (clock_of s + 1) s (after_clock s) all_wires)
    ∙ append-nil (became_next s ++ []) ∙ append-nil (became_next s)

newest_became : (before after : State) → newest before (became before after) ≡ after
newest_became Running Running = refl
newest_became Running Halted = refl
newest_became Running Jammed = refl
newest_became Halted Running = refl
newest_became Halted Halted = refl
newest_became Halted Jammed = refl
newest_became Jammed Running = refl
newest_became Jammed Halted = refl
newest_became Jammed Jammed = refl

pub states_are_told : StatesAreTold
states_are_told s n =
    sym (ap (newest (state_of s)) (told_in became_by became_next became_of_clock s n)
    ∙ newest_in state_of became_next (λ p. newest_became (state_of p) (state_of (after_clock p))) s n)

differs_became : (before after : State) → alternates is_state before (became before after) ≡ true
differs_became Running Running = refl
differs_became Running Halted = refl
differs_became Running Jammed = refl
differs_became Halted Running = refl
differs_became Halted Halted = refl
differs_became Halted Jammed = refl
differs_became Jammed Running = refl
differs_became Jammed Halted = refl
differs_became Jammed Jammed = refl

pub states_alternate : StatesAlternate
states_alternate s n =
    ap (alternates is_state (state_of s)) (told_in became_by became_next became_of_clock s n)
    ∙ alternates_in is_state state_of became_next (λ p. newest_became (state_of p) (state_of (after_clock p)))
    (λ p. differs_became (state_of p) (state_of (after_clock p))) s n
