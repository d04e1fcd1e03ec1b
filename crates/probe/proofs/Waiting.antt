-- A key that is still to come changes nothing that a stop looks at before its stamp.
use Rattle.std.proofs.Common.{◌≡◌, ℕ, ◌+◌, ◌-◌, ◌<◌, ◌≤◌, Bool, true, false, cond, not, if◌then◌else◌}
use Rattle.std.proofs.Common.{List, [], ◌∷◌, ◌++◌, map, Some, refl, sym, ap, ◌∙◌, arith}
use Rattle.std.specs.Prelude.{nat_le, nat_eq, filter, ◌==◌}
use Rattle.std.specs.Bool.{beq}
use Rattle.std.specs.List.{flat_map, list_any, position_from}
use Rattle.std.proofs.lemmas.Bool.Decides.{nat_tests}
use Rattle.board_types.proofs.Iterate.{iterate_more, iterate_zero}
use Rattle.board_types.specs.declared.keys.StampedKey.{StampedKey}
use Rattle.board_plain.proofs.Clocks.{clocks_go_by}
use Rattle.board_plain.specs.declared.stop.Condition.{Condition}
use Rattle.board_plain.specs.declared.stop.Condition.TheVariants.{Free, At, Byte, Sound, Halted}
use Rattle.board_plain.specs.Plain.{Plain, after_clock, after_clocks, byte_of, clock_of, codes_at, next_act, speaker_level, state_of}
use Rattle.board_plain.specs.Stops.{holds}
use Rattle.board_plain.specs.Trail.{trail_next}
use Rattle.events.specs.declared.event.Event.TheVariants.{Began, Reached, Wired}
use Rattle.events.specs.declared.event.Wire.{Wire}
use Rattle.events.specs.declared.event.Wire.TheVariants.{Out0, Out2, Ir0, Ir1, Int, Speaker}
use Rattle.events.specs.Accesses.{accesses_next}
use Rattle.events.specs.Events.{all_wires, chips_reached, codes_next, events_next, key_events, level_of, state_events, unwired_next, wire_event}
use Rattle.events.proofs.KeyToCome.{key_waits}
use Rattle.events.specs.WithKey.{inserted, with_key}
use Rattle.probe_texts.specs.declared.stops.Stop.{Stop}
use Rattle.probe_texts.specs.declared.stops.Stop.TheVariants.{Standing, When, Changes}
use Rattle.probe_texts.specs.Listed.{is_listed}
use Rattle.probe.specs.ProbeStops.{meeting, meeting_at, meets, NoneMet}

-- the codes of other clocks are the same

not_now : (stamp clock : ℕ) → clock < stamp → nat_eq stamp clock ≡ false
not_now stamp clock before = grind (arith, nat_tests, before)

abbrev due : ℕ → StampedKey → Bool
due clock k = k.stamp == clock

abbrev codes_if : Bool → StampedKey → List StampedKey → ℕ → List ℕ
codes_if is k ks clock = map (λ (k : StampedKey). k.code) (cond is (k ∷ filter (due clock) ks) (filter (due clock) ks))

same_after : (k : StampedKey) (xs ys : List StampedKey) (clock : ℕ) (is : Bool) → codes_at xs clock ≡ codes_at ys clock
    → codes_if is k xs clock ≡ codes_if is k ys clock
same_after k xs ys clock true same = ap (λ cs. k.code ∷ cs) same
same_after k xs ys clock false same = same

passed_over : (key : StampedKey) (ks : List StampedKey) (clock : ℕ) → nat_eq key.stamp clock ≡ false → codes_at (key ∷ ks) clock ≡ codes_at ks clock
passed_over key ks clock is = ap (λ (b : Bool). codes_if b key ks clock) is

inserted_by : (b : Bool) (k key : StampedKey) (ks : List StampedKey) (clock : ℕ) → nat_eq key.stamp clock ≡ false
    → codes_at (inserted ks key) clock ≡ codes_at ks clock → codes_at (if b then k ∷ inserted ks key else key ∷ k ∷ ks) clock ≡ codes_at (k ∷ ks) clock
inserted_by true k key ks clock is same = same_after k (inserted ks key) ks clock (nat_eq k.stamp clock) same
inserted_by false k key ks clock is same = passed_over key (k ∷ ks) clock is

other_codes : (keys : List StampedKey) (key : StampedKey) (clock : ℕ) → nat_eq key.stamp clock ≡ false
    → codes_at (inserted keys key) clock ≡ codes_at keys clock
other_codes [] key clock is = passed_over key [] clock is
other_codes (k ∷ ks) key clock is = inserted_by (nat_le k.stamp key.stamp) k key ks clock is (other_codes ks key clock is)

-- what happens in a clock before the one that leads to the stamp

one_clock : (s : Plain) → after_clocks s 1 ≡ after_clock s
one_clock s = iterate_more after_clock 0 s ∙ ap after_clock (iterate_zero after_clock s)

next_clock : (s : Plain) (key : StampedKey) → clock_of s + 1 < key.stamp → after_clock (with_key s key) ≡ with_key (after_clock s) key
next_clock s key before = sym (one_clock (with_key s key)) ∙ key_waits 1 s key before ∙ ap (λ (t : Plain). with_key t key) (one_clock s)

codes_same : (s : Plain) (key : StampedKey) → clock_of s + 1 < key.stamp → codes_next (with_key s key) ≡ codes_next s
unfolding with_key clock_of
codes_same s key before = other_codes s.keys key (clock_of s + 1) (not_now key.stamp (clock_of s + 1) before)

state_same : (s : Plain) (key : StampedKey) → state_of (with_key s key) ≡ state_of s
unfolding state_of with_key
state_same s key = refl

pub clock_same : (s : Plain) (key : StampedKey) → clock_of (with_key s key) ≡ clock_of s
unfolding clock_of with_key
clock_same s key = refl

trail_same : (s : Plain) (key : StampedKey) → trail_next (with_key s key) ≡ trail_next s
unfolding trail_next with_key next_act clock_of
trail_same s key = refl

accesses_same : (s : Plain) (key : StampedKey) → accesses_next (with_key s key) ≡ accesses_next s
unfolding accesses_next with_key next_act
accesses_same s key = refl

chips_same : (s : Plain) (key : StampedKey) → chips_reached (with_key s key) ≡ chips_reached s
unfolding with_key next_act
chips_same s key = refl

unwired_same : (s : Plain) (key : StampedKey) → clock_of s + 1 < key.stamp → unwired_next (with_key s key) ≡ unwired_next s
unfolding unwired_next
unwired_same s key before =
    let after = ap state_of (next_clock s key before) ∙ state_same (after_clock s) key in
    λ i. map Began (trail_same s key i)
    ++ (map (Reached (clock_same s key i)) (accesses_same s key i)
    ++ (state_events (clock_same s key i) (state_same s key i) (after i)
    ++ key_events (clock_same s key i + 1) (chips_same s key i) (codes_same s key before i)))

level_same : (s : Plain) (key : StampedKey) (w : Wire) → level_of (with_key s key) w ≡ level_of s w
unfolding level_of with_key speaker_level
level_same s key Out0 = refl
level_same s key Out2 = refl
level_same s key Ir0 = refl
level_same s key Ir1 = refl
level_same s key Int = refl
level_same s key Speaker = refl

wire_same : (clock : ℕ) (s t : Plain) (key : StampedKey) (w : Wire) → wire_event clock (with_key s key) (with_key t key) w ≡ wire_event clock s t w
wire_same clock s t key w = λ i. if beq (level_same s key w i) (level_same t key w i) then [] else Wired clock w (level_same t key w i) ∷ []

wires_same : (clock : ℕ) (s t : Plain) (key : StampedKey) (ws : List Wire)
    → flat_map (wire_event clock (with_key s key) (with_key t key)) ws ≡ flat_map (wire_event clock s t) ws
wires_same clock s t key [] = refl
wires_same clock s t key (w ∷ ws) = λ i. wire_same clock s t key w i ++ wires_same clock s t key ws i

pub events_same : (s : Plain) (key : StampedKey) → clock_of s + 1 < key.stamp → events_next (with_key s key) ≡ events_next s
unfolding events_next
events_same s key before =
    let after = next_clock s key before in
    let clock : clock_of (with_key s key) + 1 ≡ clock_of s + 1 = ap (λ c. c + 1) (clock_same s key) in
    (λ i. unwired_same s key before i ++ flat_map (wire_event (clock i) (with_key s key) (after i)) all_wires)
    ∙ (λ i. unwired_next s ++ wires_same (clock_of s + 1) s (after_clock s) key all_wires i)

-- what a stop looks at

holds_same : (condition : Condition) (s : Plain) (key : StampedKey) → holds condition (with_key s key) ≡ holds condition s
unfolding holds with_key byte_of speaker_level state_of
holds_same Free s key = refl
holds_same (At cs ip) s key = refl
holds_same (Byte address value) s key = refl
holds_same Sound s key = refl
holds_same Halted s key = refl

differs_same : (address : ℕ) (s t : Plain) (key : StampedKey) (ks : List ℕ)
    → list_any (λ k. not (byte_of (with_key s key) (address + k) == byte_of (with_key t key) (address + k))) ks
    ≡ list_any (λ k. not (byte_of s (address + k) == byte_of t (address + k))) ks
unfolding byte_of with_key
differs_same address s t key ks = refl

meets_same : (stop : Stop) (s t : Plain) (key : StampedKey) → clock_of s + 1 < key.stamp → meets stop (with_key s key) (with_key t key) ≡ meets stop s t
unfolding meets
meets_same (Standing condition) s t key before = holds_same condition t key
meets_same (When kinds) s t key before = ap (list_any (is_listed kinds.items)) (events_same s key before)
meets_same (Changes address count) s t key before = differs_same address s t key _

meeting_from : (stops : List Stop) (i : ℕ) (s t : Plain) (key : StampedKey) → clock_of s + 1 < key.stamp
    → position_from (λ stop. meets stop (with_key s key) (with_key t key)) i stops ≡ position_from (λ stop. meets stop s t) i stops
meeting_from [] i s t key before = refl
meeting_from (x ∷ xs) i s t key before = λ j. cond (meets_same x s t key before j) (Some i) (meeting_from xs (i + 1) s t key before j)

-- a stop is met before the stamp if it is met without the key
pub meeting_waits : (stops : List Stop) (n : ℕ) (s : Plain) (key : StampedKey) → 1 ≤ n → clock_of s + n < key.stamp
    → meeting_at stops (with_key s key) n ≡ meeting_at stops s n
unfolding meeting
meeting_waits stops n s key some before =
    let at = clocks_go_by (n - 1) s in
    (λ i. position_from (λ stop. meets stop (key_waits (n - 1) s key (omega (arith, before, some)) i) (key_waits n s key before i)) 1 stops)
    ∙ meeting_from stops 1 (after_clocks s (n - 1)) (after_clocks s n) key (omega (arith, at, before, some))

pub none_waits : (stops : List Stop) (n : ℕ) (s : Plain) (key : StampedKey) → clock_of s + n < key.stamp → NoneMet stops n s → NoneMet stops n (with_key s key)
none_waits stops n s key before none = λ j some within. meeting_waits stops j s key some (omega (arith, before, within)) ∙ none j some within

pub none_waited : (stops : List Stop) (n : ℕ) (s : Plain) (key : StampedKey) → clock_of s + n < key.stamp → NoneMet stops n (with_key s key) → NoneMet stops n s
none_waited stops n s key before none = λ j some within. sym (meeting_waits stops j s key some (omega (arith, before, within))) ∙ none j some within
