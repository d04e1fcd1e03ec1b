-- Every run of arrivals and settlings accounts for its codes.
use Rattle.keyboard.specs.QueueParts.{has_room, after_sending}
use Rattle.std.proofs.Common.{◌≡◌, ℕ, zero, suc, Option, Some, ◌+◌, ◌-◌, ◌^◌, ◌<◌, ◌≤◌, min, if◌then◌else◌, true, false, None, List, []}
use Rattle.std.proofs.Common.{◌∷◌, ◌++◌, length, drop, slice_get, refl, sym, ap, ◌∙◌, arith, append_assoc, append-nil, length-append}
use Rattle.std.specs.Option.{option_to_list}
use Rattle.std.proofs.Math.Seq.{take-nil}
use Rattle.std.proofs.lemmas.Grind.{common_steps}
use Rattle.keyboard.specs.Keyboard.{KeyboardState, after_arrival, after_settling}
use Rattle.keyboard.specs.Runs.{Event, arrival, settling, after_event, after_events, codes_along, arriving_codes, accepted_codes, lost_codes}
use Rattle.keyboard.specs.Runs.{taken_codes, held_codes, ComesInTurn, SettlesOnce, IsMerge, merged_none, merged_left, merged_right, AccountsForCodes}

-- the first item of a list, and then the others
first_and_rest : (xs : List ℕ) → option_to_list (slice_get xs 0) ++ drop 1 xs ≡ xs
first_and_rest [] = refl
first_and_rest (x ∷ xs) = refl

held_after_sending : (s : KeyboardState) → s.latch ≡ None → held_codes (after_sending s) ≡ held_codes s
held_after_sending s empty = first_and_rest s.waiting ∙ ap (λ latch. option_to_list latch ++ s.waiting) (sym empty)

in_order_arrival : (s : KeyboardState) (code : ℕ) → held_codes (after_arrival s code) ≡ held_codes s ++ accepted_codes s (arrival code)
unfolding after_arrival
in_order_arrival s code = grind (arith, common_steps, append_assoc, append-nil)

in_order_settling : (s : KeyboardState) (port_b : ℕ) → taken_codes s (settling port_b) ++ held_codes (after_settling s port_b) ≡ held_codes s
unfolding after_settling
in_order_settling s port_b = grind (arith, common_steps, held_after_sending)

in_order_event : (s : KeyboardState) (e : Event) → taken_codes s e ++ held_codes (after_event s e) ≡ held_codes s ++ accepted_codes s e
in_order_event s (arrival code) = in_order_arrival s code
in_order_event s (settling port_b) = in_order_settling s port_b ∙ sym (append-nil (held_codes s))

lost_event : (s : KeyboardState) (e : Event) → s.lost < 2 ^ 64 → (after_event s e).lost ≡ min (s.lost + length (lost_codes s e)) (2 ^ 64 - 1)
unfolding after_arrival after_settling
lost_event s (arrival code) small = grind (arith, common_steps)
lost_event s (settling port_b) small = grind (arith, common_steps)

within_event : (s : KeyboardState) (e : Event) → length s.waiting ≤ 16 → length (after_event s e).waiting ≤ 16
unfolding after_arrival after_settling
within_event s (arrival code) within = grind (arith, common_steps)
within_event s (settling port_b) within = grind (arith, common_steps)

none_along : (codes : KeyboardState → Event → List ℕ) (s : KeyboardState) → codes_along codes s [] ≡ []
unfolding codes_along
none_along codes s = refl

more_along : (codes : KeyboardState → Event → List ℕ) (s : KeyboardState) (e : Event) (es : List Event)
    → codes_along codes s (e ∷ es) ≡ codes s e ++ codes_along codes (after_event s e) es
unfolding codes_along
more_along codes s e es = refl

after_none : (s : KeyboardState) → after_events s [] ≡ s
unfolding after_events
after_none s = refl

after_more : (s : KeyboardState) (e : Event) (es : List Event) → after_events s (e ∷ es) ≡ after_events (after_event s e) es
unfolding after_events
after_more s e es = refl

pub in_order_run : (s : KeyboardState) (es : List Event)
    → codes_along taken_codes s es ++ held_codes (after_events s es) ≡ held_codes s ++ codes_along accepted_codes s es
in_order_run s [] = rw (none_along taken_codes s, none_along accepted_codes s, after_none s) (sym (append-nil (held_codes s)))
in_order_run s (e ∷ es) =
    let rest = in_order_run (after_event s e) es in
    let now = in_order_event s e in
    rw (more_along taken_codes s e es, more_along accepted_codes s e es, after_more s e es)
    (append_assoc (taken_codes s e) _ _ ∙ ap (λ xs. taken_codes s e ++ xs) rest ∙ sym (append_assoc (taken_codes s e) _ _)
    ∙ ap (λ xs. xs ++ codes_along accepted_codes (after_event s e) es) now ∙ append_assoc (held_codes s) _ _)

-- one more arrival, judged, in front of a merge
merged_more : (s : KeyboardState) (e : Event) (all left right : List ℕ) → IsMerge all left right
    → IsMerge (arriving_codes s e ++ all) (accepted_codes s e ++ left) (lost_codes s e ++ right)
merged_more s (arrival code) all left right rest =
    elim (has_room s) as (λ room. IsMerge (code ∷ all) ((if room then code ∷ [] else []) ++ left) ((if room then [] else code ∷ []) ++ right)) [
      | true ↦ merged_left rest
      | false ↦ merged_right rest
    ]
merged_more s (settling port_b) all left right rest = rest

once_run : (s : KeyboardState) (es : List Event) → IsMerge (codes_along arriving_codes s es) (codes_along accepted_codes s es) (codes_along lost_codes s es)
unfolding codes_along
once_run s [] = merged_none
once_run s (e ∷ es) = merged_more s e _ _ _ (once_run (after_event s e) es)

counted_run : (s : KeyboardState) (es : List Event) → s.lost < 2 ^ 64
    → (after_events s es).lost ≡ min (s.lost + length (codes_along lost_codes s es)) (2 ^ 64 - 1)
counted_run s [] small = rw (none_along lost_codes s, after_none s) (omega arith)
counted_run s (e ∷ es) small =
    let now = lost_event s e small in
    let rest = counted_run (after_event s e) es (omega arith) in
    let size = length-append (lost_codes s e) (codes_along lost_codes (after_event s e) es) in
    rw (more_along lost_codes s e es, after_more s e es) (omega arith)

within_run : (s : KeyboardState) (es : List Event) → length s.waiting ≤ 16 → length (after_events s es).waiting ≤ 16
within_run s [] within = rw (after_none s) within
within_run s (e ∷ es) within = rw (after_more s e es) (within_run (after_event s e) es (within_event s e within))

pub accounts_for_codes : (s : KeyboardState) (es : List Event) → AccountsForCodes s es
accounts_for_codes s es = record {
  in_order = in_order_run s es;
  once = once_run s es;
  counted = counted_run s es;
  within = within_run s es;
}

-- settling moves a code only into an empty latch, and no second one after it
pub settles_once : (s : KeyboardState) (port_b : ℕ) → SettlesOnce s port_b
unfolding after_settling
settles_once s port_b = grind (arith, common_steps)

turns : (n : ℕ) (waiting : List ℕ) (latch : Option ℕ) (lost : ℕ) → ComesInTurn (record { waiting = waiting; latch = latch; lost = lost }) n
unfolding codes_along after_settling
turns zero waiting latch lost = refl
turns (suc n) waiting (Some code) lost = ap (λ codes. code ∷ codes) (turns n waiting None lost)
turns (suc n) [] None lost = turns n [] None lost ∙ take-nil n
turns (suc n) (code ∷ waiting) None lost = ap (λ codes. code ∷ codes) (turns n waiting None lost)

pub comes_in_turn : (s : KeyboardState) (n : ℕ) → ComesInTurn s n
comes_in_turn s n = turns n s.waiting s.latch s.lost
