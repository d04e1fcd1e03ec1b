-- A run that goes on by a clock, with the change that it brings, or is held back.
use Rattle.std.proofs.Common.{◌≡◌, ◌≢◌, ℕ, ◌+◌, ◌-◌, ◌<◌, ◌≤◌, List, [], ◌∷◌, ◌++◌, length, Bool, true, false}
use Rattle.std.proofs.Common.{if◌then◌else◌, refl, sym, ap, ◌∙◌, subst, arith, append_assoc, append-nil}
use Rattle.std.specs.Bool.{beq}
use Rattle.std.proofs.lemmas.List.{length-append}
use Rattle.board_types.proofs.Iterate.{iterate_more, iterate_zero, gathered_more, gathered_add, gathered_zero}
use Rattle.board_types.specs.Iterate.{gathered}
use Rattle.board_types.specs.declared.line.Line.{Line}
use Rattle.board_types.specs.declared.line.Line.TheVariants.{Low, High}
use Rattle.board_plain.specs.declared.speaker.SpeakerChange.{SpeakerChange}
use Rattle.board_plain.specs.Board.{BoardState, Ran, StoppedEarly}
use Rattle.board.specs.HeldBack.{IsHeldBack}
use Rattle.board_types.specs.LineLevel.{from_bool, is_high}
use Rattle.board_plain.specs.Plain.{Plain, clock_of, after_clock, after_clocks, change_next, changes_in, speaker_level}
use Rattle.board_plain.specs.Trail.{last, trail_in, trail_next}
use Rattle.board.specs.Turns.{IsTickOn}
use Rattle.board_plain.proofs.LastEntries.{last_again}

pub ran_more : (n : ℕ) (s t u : BoardState) → Ran n s t → IsTickOn t u → Ran (n + 1) s u
ran_more n s t u so_far on = record {
  plain = on.plain ∙ ap after_clock so_far.plain ∙ sym (iterate_more after_clock n s.plain);
  clock = let c = on.clock in let d = so_far.clock in omega arith;
  changes =
      on.changes
      ∙ ap (λ xs. xs ++ change_next t.plain) so_far.changes
      ∙ append_assoc s.changes (changes_in s.plain n) (change_next t.plain)
      ∙ ap (λ p. s.changes ++ (changes_in s.plain n ++ change_next p)) so_far.plain
      ∙ ap (λ xs. s.changes ++ xs) (sym (gathered_more after_clock change_next n s.plain));
  trail =
      on.trail
      ∙ ap (λ xs. last 32 (xs ++ trail_next t.plain)) so_far.trail
      ∙ last_again 32 (s.trail ++ trail_in s.plain n) (trail_next t.plain)
      ∙ ap (last 32) (
      append_assoc s.trail (trail_in s.plain n) (trail_next t.plain)
      ∙ ap (λ p. s.trail ++ (trail_in s.plain n ++ trail_next p)) so_far.plain
      ∙ ap (λ xs. s.trail ++ xs) (sym (gathered_more after_clock trail_next n s.plain)));
  room = let a = on.room in let b = so_far.room in omega arith;
}

-- a run that is held back stands at the clock before a change
pub stopped : (n passed : ℕ) (s t u : BoardState) → passed < n → Ran passed s t → IsHeldBack t u → StoppedEarly n s u
stopped n passed s t u within so_far held = record {
  passed = passed;
  before_end = within;
  ran = subst (Ran passed s) (sym held.kept) so_far;
  changes_next = subst (λ (b : BoardState). speaker_level (after_clock b.plain) ≢ speaker_level b.plain) (sym held.kept) held.changes_next;
  full = ap (λ (b : BoardState). b.room) held.kept ∙ held.full;
}

-- if the level changes, the clock brings one change
one_if_not_same : (a b : Line) (change : SpeakerChange) → a ≢ b → length (if beq (is_high a) (is_high b) then [] else change ∷ []) ≡ 1
one_if_not_same Low Low change differs = absurd (differs refl)
one_if_not_same Low High change differs = refl
one_if_not_same High Low change differs = refl
one_if_not_same High High change differs = absurd (differs refl)

one_change : (p : Plain) → speaker_level (after_clock p) ≢ speaker_level p → length (change_next p) ≡ 1
unfolding change_next
one_change p differs = one_if_not_same (speaker_level (after_clock p)) (speaker_level p) _ differs

-- as many changes come in some clocks as in the first of them and in the others
changes_add : (a b : ℕ) (p : Plain) → length (changes_in p (a + b)) ≡ length (changes_in p a) + length (changes_in (after_clocks p a) b)
changes_add a b p = ap length (gathered_add after_clock change_next a b p) ∙ length-append (changes_in p a) (changes_in (after_clocks p a) b)

changes_more : (n : ℕ) (p : Plain) → length (changes_in p (n + 1)) ≡ length (changes_in p n) + length (change_next (after_clocks p n))
changes_more n p = ap length (gathered_more after_clock change_next n p) ∙ length-append (changes_in p n) (change_next (after_clocks p n))

-- a run with room for all its changes isn't held back
pub not_held : (n passed : ℕ) (s t u : BoardState) → passed < n → Ran passed s t → IsHeldBack t u → length (changes_in s.plain n) ≤ s.room → ⊥
not_held n passed s t u within so_far held enough =
    let last : length (change_next (after_clocks s.plain passed)) ≡ 1 =
    subst (λ p. length (change_next p) ≡ 1) so_far.plain (one_change t.plain held.changes_next) in
    let more = changes_more passed s.plain in
    let rest = changes_add (passed + 1) (n - (passed + 1)) s.plain in
    let whole : length (changes_in s.plain (passed + 1 + (n - (passed + 1)))) ≡ length (changes_in s.plain n) =
    ap (λ k. length (changes_in s.plain k)) (omega (arith, within)) in
    let listed : length t.changes ≡ length s.changes + length (changes_in s.plain passed) =
    ap length so_far.changes ∙ length-append s.changes (changes_in s.plain passed) in
    let kept = so_far.room in
    let none = held.full in
    omega arith

not_same : (a b : Line) → a ≢ b → beq (is_high a) (is_high b) ≡ false
not_same Low Low differs = absurd (differs refl)
not_same Low High differs = refl
not_same High Low differs = refl
not_same High High differs = absurd (differs refl)

same_to : (a b : Line) → a ≡ b → beq (is_high a) (is_high b) ≡ true
same_to Low Low e = refl
same_to Low High e = absurd (cc)
same_to High Low e = absurd (cc)
same_to High High e = refl

-- the level stays: nothing is listed
pub nothing_listed : (changes : List SpeakerChange) (p : Plain) → speaker_level (after_clock p) ≡ speaker_level p → changes ≡ changes ++ change_next p
unfolding change_next
nothing_listed changes p same = rw (same_to _ _ same) (sym (append-nil changes))

pub no_change : (p : Plain) → speaker_level (after_clock p) ≡ speaker_level p → change_next p ≡ []
unfolding change_next
no_change p same = rw (same_to _ _ same) refl

-- if the level changes, the clock and the level are listed
pub change_listed : (p : Plain) (level : Line) → speaker_level (after_clock p) ≢ speaker_level p → level ≡ speaker_level (after_clock p)
    → (record { clock = clock_of p + 1; level = level }) ∷ [] ≡ change_next p
unfolding change_next
change_listed p level differs is = rw (not_same _ _ differs) (ap (λ l. record { clock = clock_of p + 1; level = l } ∷ []) is)

pub high_again : (a b : Bool) → from_bool a ≡ from_bool b → a ≡ b
high_again false false e = refl
high_again false true e = absurd (cc)
high_again true false e = absurd (cc)
high_again true true e = refl

-- the first clock

pub first_clock : (s : Plain) → after_clocks s 1 ≡ after_clock s
first_clock s = iterate_more after_clock 0 s ∙ ap after_clock (iterate_zero after_clock s)

pub first_seen : {A : Type 0} (seen : Plain → List A) (s : Plain) → gathered after_clock seen 1 s ≡ seen s
first_seen seen s =
    gathered_more after_clock seen 0 s
    ∙ ap (λ xs. xs ++ seen (after_clocks s 0)) (gathered_zero after_clock seen s)
    ∙ ap seen (iterate_zero after_clock s)

-- nothing is in the first clock if nothing is in it and some more
left_empty : {A : Type 0} (xs ys : List A) → xs ++ ys ≡ [] → xs ≡ []
left_empty [] ys none = refl
left_empty (x ∷ xs) ys none = absurd (let never : x ∷ (xs ++ ys) ≡ [] = none in cc)

pub first_unseen : {A : Type 0} (seen : Plain → List A) (s : Plain) (n : ℕ) → 1 ≤ n → gathered after_clock seen n s ≡ [] → seen s ≡ []
first_unseen seen s n some none =
    let whole : 1 + (n - 1) ≡ n = omega (arith, some) in
    sym (first_seen seen s)
    ∙ left_empty (gathered after_clock seen 1 s) (gathered after_clock seen (n - 1) (after_clocks s 1))
    (sym (gathered_add after_clock seen 1 (n - 1) s) ∙ ap (λ k. gathered after_clock seen k s) whole ∙ none)
