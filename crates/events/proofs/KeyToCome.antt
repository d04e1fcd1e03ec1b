-- A key that is still to come changes no clock before its stamp.
use Rattle.std.proofs.Common.{◌≡◌, ℕ, zero, suc, ◌+◌, ◌-◌, ◌*◌, ◌<◌, Bool, true, false, if◌then◌else◌, List, [], ◌∷◌, ◌++◌, map, refl, sym, ap, ◌∙◌, arith}
use Rattle.std.specs.Prelude.{nat_le, nat_eq, filter, cond, ◌==◌}
use Rattle.std.specs.Bool.{beq}
use Rattle.std.proofs.lemmas.Bool.Decides.{nat_tests}
use Rattle.board_types.specs.Iterate.{iterate, gathered}
use Rattle.board_types.specs.LineLevel.{is_high}
use Rattle.board_types.specs.declared.keys.StampedKey.{StampedKey}
use Rattle.execute_meaning.specs.Meaning.{StepResult}
use Rattle.wiring.specs.Chips.{ChipsState}
use Rattle.wiring.specs.Chips as chips
use Rattle.wiring.specs.Wires as wires
use Rattle.wiring.specs.Wires.{after_arrivals, after_key_settling}
use Rattle.board_plain.specs.declared.config.Config.{Config}
use Rattle.board_plain.specs.Plain.{Plain, after_act, after_clock, after_clocks, change_next, changes_in}
use Rattle.board_plain.specs.Plain.{chips_after_clock, clock_of, codes_at, next_act, power_on, speaker_level}
use Rattle.board_plain.specs.Trail.{trail_in, trail_next}
use Rattle.board_plain.proofs.Clocks.{clock_of_act, clocks_go_by}
use Rattle.wiring.proofs.Clocks.{clock_of_arrivals}
use Rattle.events.specs.KeyLaws.{KeyToComeWaits, KeyWasThere, ListsStay}
use Rattle.events.specs.WithKey.{inserted, with_key}

-- the codes of other clocks are the same

not_now : (stamp clock : ℕ) → clock < stamp → nat_eq stamp clock ≡ false
not_now stamp clock before = grind (arith, nat_tests, before)

passed_over : (key : StampedKey) (ks : List StampedKey) (clock : ℕ) → nat_eq key.stamp clock ≡ false → codes_at (key ∷ ks) clock ≡ codes_at ks clock
passed_over key ks clock is =
    ap (λ (due : Bool).
    map (λ (k : StampedKey). k.code) (cond due (key ∷ filter (λ (k : StampedKey). k.stamp == clock) ks) (filter (λ (k : StampedKey). k.stamp == clock) ks)))
    is

same_following : (k : StampedKey) (xs ys : List StampedKey) (clock : ℕ) (due : Bool) → codes_at xs clock ≡ codes_at ys clock
    → map (λ (k : StampedKey). k.code) (cond due (k ∷ filter (λ (k : StampedKey). k.stamp == clock) xs) (filter (λ (k : StampedKey). k.stamp == clock) xs))
    ≡ map (λ (k : StampedKey). k.code) (cond due (k ∷ filter (λ (k : StampedKey). k.stamp == clock) ys) (filter (λ (k : StampedKey). k.stamp == clock) ys))
same_following k xs ys clock true same = ap (λ cs. k.code ∷ cs) same
same_following k xs ys clock false same = same

inserted_by : (b : Bool) (k key : StampedKey) (ks : List StampedKey) (clock : ℕ) → nat_eq key.stamp clock ≡ false
    → codes_at (inserted ks key) clock ≡ codes_at ks clock → codes_at (if b then k ∷ inserted ks key else key ∷ k ∷ ks) clock ≡ codes_at (k ∷ ks) clock
inserted_by true k key ks clock is same = same_following k (inserted ks key) ks clock (nat_eq k.stamp clock) same
inserted_by false k key ks clock is same = passed_over key (k ∷ ks) clock is

other_codes : (keys : List StampedKey) (key : StampedKey) (clock : ℕ) → nat_eq key.stamp clock ≡ false
    → codes_at (inserted keys key) clock ≡ codes_at keys clock
other_codes [] key clock is = passed_over key [] clock is
other_codes (k ∷ ks) key clock is = inserted_by (nat_le k.stamp key.stamp) k key ks clock is (other_codes ks key clock is)

-- a clock before the stamp

chips_same : (c : ChipsState) (keys : List StampedKey) (key : StampedKey) (clock : ℕ) → c.clock ≡ clock → clock + 1 < key.stamp
    → chips_after_clock c (inserted keys key) ≡ chips_after_clock c keys
unfolding chips_after_clock
chips_same c keys key clock is before =
    ap (λ codes. after_key_settling (after_arrivals (wires.after_clock c) codes))
    (other_codes keys key (c.clock + 1) (not_now key.stamp (c.clock + 1) (omega (arith, is, before))))

next_clock : (s : Plain) (key : StampedKey) → clock_of s + 1 < key.stamp → after_clock (with_key s key) ≡ with_key (after_clock s) key
unfolding after_clock with_key next_act clock_of
next_clock s key before =
    let acted : StepResult ChipsState = after_act s.clocks s.cpu s.busy s.chips (next_act s) in
    ap (λ (c : ChipsState). record { cpu = acted.cpu; busy = acted.clocks - 1; chips = c; keys = inserted s.keys key; clocks = s.clocks })
    (chips_same acted.bus s.keys key s.chips.clock (clock_of_act s.clocks s.cpu s.busy s.chips (next_act s)) before)

pub key_waits : (n : ℕ) (s : Plain) (key : StampedKey) → clock_of s + n < key.stamp → after_clocks (with_key s key) n ≡ with_key (after_clocks s n) key
unfolding iterate
key_waits zero s key before = refl
key_waits (suc n) s key before =
    let at = clocks_go_by n s in
    ap after_clock (key_waits n s key (omega (arith, before))) ∙ next_clock (after_clocks s n) key (omega (arith, at, before))

-- what a clock before the stamp adds to the lists

level_same : (s : Plain) (key : StampedKey) → speaker_level (with_key s key) ≡ speaker_level s
unfolding speaker_level with_key
level_same s key = refl

clock_same : (s : Plain) (key : StampedKey) → clock_of (with_key s key) ≡ clock_of s
unfolding clock_of with_key
clock_same s key = refl

change_same : (s : Plain) (key : StampedKey) → clock_of s + 1 < key.stamp → change_next (with_key s key) ≡ change_next s
unfolding change_next
change_same s key before =
    let after = ap speaker_level (next_clock s key before) ∙ level_same (after_clock s) key in
    λ i. if beq (is_high (after i)) (is_high (level_same s key i)) then [] else record { clock = clock_same s key i + 1; level = after i } ∷ []

entries_same : (s : Plain) (key : StampedKey) → trail_next (with_key s key) ≡ trail_next s
unfolding trail_next with_key next_act clock_of
entries_same s key = refl

pub changes_stay : (n : ℕ) (s : Plain) (key : StampedKey) → clock_of s + n < key.stamp → changes_in (with_key s key) n ≡ changes_in s n
unfolding gathered
changes_stay zero s key before = refl
changes_stay (suc n) s key before =
    let at = clocks_go_by n s in
    let here = key_waits n s key (omega (arith, before)) in
    let same = ap change_next here ∙ change_same (after_clocks s n) key (omega (arith, at, before)) in
    λ i. changes_stay n s key (omega (arith, before)) i ++ same i

pub entries_stay : (n : ℕ) (s : Plain) (key : StampedKey) → clock_of s + n < key.stamp → trail_in (with_key s key) n ≡ trail_in s n
unfolding gathered
entries_stay zero s key before = refl
entries_stay (suc n) s key before =
    let here = key_waits n s key (omega (arith, before)) in
    let same = ap trail_next here ∙ entries_same (after_clocks s n) key in
    λ i. entries_stay n s key (omega (arith, before)) i ++ same i

-- from power-on

first_with : (image : List (ℕ × ℕ)) (config : Config) (keys : List StampedKey) (key : StampedKey) → 0 < key.stamp
    → power_on image config (inserted keys key) ≡ with_key (power_on image config keys) key
unfolding power_on with_key
first_with image config keys key later =
    ap (λ codes. record (power_on image config keys) {
      chips = after_arrivals (chips.power_on image (1024 * config.ram_kb) config.sw1 config.sw2 config.timer) codes;
      keys = inserted keys key;
    })
    (other_codes keys key 0 (not_now key.stamp 0 later))

first_clock_is : (image : List (ℕ × ℕ)) (config : Config) (keys : List StampedKey) → clock_of (power_on image config keys) ≡ 0
unfolding clock_of power_on chips.power_on
first_clock_is image config keys = clock_of_arrivals (chips.power_on image (1024 * config.ram_kb) config.sw1 config.sw2 config.timer) (codes_at keys 0)

pub was_there : KeyWasThere
was_there image config keys key n before =
    let first = first_clock_is image config keys in
    sym (key_waits n (power_on image config keys) key (omega (arith, first, before)))
    ∙ ap (λ (s : Plain). after_clocks s n) (sym (first_with image config keys key (omega (arith, before))))

pub waits : KeyToComeWaits
waits s key n before = key_waits n s key before

pub lists_stay : ListsStay
lists_stay s key n before = (changes_stay n s key before, entries_stay n s key before)
