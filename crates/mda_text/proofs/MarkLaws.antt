-- The laws of the marks.
use Rattle.std.proofs.Common.{◌≡◌, ◌≢◌, ℕ, zero, suc, ◌+◌, ◌-◌, ◌*◌, ◌/◌, ◌%◌, ◌^◌, ◌<◌, ◌≤◌, ◌⊎◌, Bool, true, false, cond, not}
use Rattle.std.proofs.Common.{◌==◌, if◌then◌else◌, nat_lt, List, [], ◌∷◌, slice_index, refl, sym, ap, ◌∙◌, arith, inl, inr, subst}
use Rattle.std.specs.List.{AllPairs, All, Contains}
use Rattle.std.proofs.lemmas.Bool.{cases_lt}
use Rattle.std.proofs.lemmas.Bool.Decides.{nat_tests}
use Rattle.std.proofs.lemmas.List.Elements.{Contains-append_left, Contains-append_right, Contains-append_cases}
use Rattle.std.proofs.lemmas.List.Elements.{Contains-push, Contains-push_cases, All-contains_itself, All-weaker}
use Rattle.std.proofs.lemmas.List.Kept.{AllPairs-cons}
use Rattle.std.proofs.lemmas.List.FromFn.{get_or-map-range_with_len}
use Rattle.board_types.specs.Iterate.{iterate}
use Rattle.board_types.proofs.Iterate.{iterate_zero, iterate_more}
use Rattle.mda_text.specs.Mda.{MdaState, cell_count, power_on, with_text_byte}
use Rattle.mda_text.specs.Screen.{place, cell, nth_character, characters}
use Rattle.mda_text.specs.Marks.{after_mark, number_after, is_last, is_changed, changed_among, changed_cells}
use Rattle.mda_text.specs.MdaLaws.{IsCell, Event, WritesMemory, WritesPort, PassesClocks, after_event, after_events, since_mark, TellsChanges, NumbersMarks}
use Rattle.mda_text.proofs.Sizes.{cell_count_is}
use Rattle.mda_text.proofs.Raster.{clocks_move_beam}
use Rattle.mda_text.proofs.ScreenLaws.{write_keeps}
use Rattle.mda_text.proofs.Walk.{more}

none_here : {X : Type 0} (x : X) → Contains [] x → ⊥
none_here x there = omega (arith, there.1)

first_or_later : {X : Type 0} (y x : X) (xs : List X) → Contains (y ∷ xs) x → (y ≡ x) ⊎ Contains xs x
first_or_later y x xs there =
    elim (Contains-append_cases (y ∷ []) xs x there) [
      | inl first ↦ elim (Contains-push_cases [] y x first) [ inl none ↦ absurd (none_here x none) | inr is ↦ inl is ]
      | inr later ↦ inr later
    ]

-- the cells among those from n on that are changed, one by one
pub record IsNamed (m : MdaState) (mark n count : ℕ) (x : ℕ × ℕ) : Type 0 where
  pub number : ℕ
  pub from : n ≤ number
  pub below : number < n + count
  pub changed : is_changed m mark number ≡ true
  pub is : place number ≡ x

later_named : (m : MdaState) (mark n count : ℕ) (x : ℕ × ℕ) → IsNamed m mark (n + 1) count x → IsNamed m mark n (suc count) x
later_named m mark n count x named =
    record { number = named.number; from = omega (arith, named.from); below = omega (arith, named.below); changed = named.changed; is = named.is }

choice_named : (m : MdaState) (mark n count : ℕ) (x : ℕ × ℕ) (b : Bool)
    → is_changed m mark n ≡ b → (Contains (changed_among m mark (n + 1) count) x → IsNamed m mark (n + 1) count x)
    → Contains (cond b (place n ∷ changed_among m mark (n + 1) count) (changed_among m mark (n + 1) count)) x → IsNamed m mark n (suc count) x
choice_named m mark n count x true changed rest there =
    elim (first_or_later (place n) x (changed_among m mark (n + 1) count) there) [
      | inl is ↦ record { number = n; from = omega arith; below = omega arith; changed = changed; is = is }
      | inr later ↦ later_named m mark n count x (rest later)
    ]
choice_named m mark n count x false changed rest there = later_named m mark n count x (rest there)

no_cells : (m : MdaState) (mark n : ℕ) → changed_among m mark n 0 ≡ []
unfolding changed_among
no_cells m mark n = refl

pub named_if_there : (m : MdaState) (mark n count : ℕ) (x : ℕ × ℕ) → Contains (changed_among m mark n count) x → IsNamed m mark n count x
named_if_there m mark n zero x there = absurd (none_here x (subst (λ xs. Contains xs x) (no_cells m mark n) there))
named_if_there m mark n (suc count) x there =
    choice_named m mark n count x (is_changed m mark n) refl (named_if_there m mark (n + 1) count x)
    (subst (λ xs. Contains xs x) (more m mark n count) there)

later_there : (m : MdaState) (mark n count : ℕ) (x : ℕ × ℕ) (b : Bool) → Contains (changed_among m mark (n + 1) count) x
    → Contains (cond b (place n ∷ changed_among m mark (n + 1) count) (changed_among m mark (n + 1) count)) x
later_there m mark n count x true there = Contains-append_right (place n ∷ []) (changed_among m mark (n + 1) count) x there
later_there m mark n count x false there = there

first_there : (m : MdaState) (mark n count : ℕ) (b : Bool) → b ≡ true
    → Contains (cond b (place n ∷ changed_among m mark (n + 1) count) (changed_among m mark (n + 1) count)) (place n)
first_there m mark n count true is = Contains-append_left (place n ∷ []) (changed_among m mark (n + 1) count) (place n) (Contains-push [] (place n))
first_there m mark n count false is = cc

pub there_if_changed : (m : MdaState) (mark n count number : ℕ) → n ≤ number → number < n + count → is_changed m mark number ≡ true
    → Contains (changed_among m mark n count) (place number)
there_if_changed m mark n zero number from below changed = absurd (omega arith)
there_if_changed m mark n (suc count) number from below changed =
    elim (cases_lt n number) [
      | inl later ↦ subst (λ xs. Contains xs (place number)) (sym (more m mark n count))
          (later_there m mark n count (place number) (is_changed m mark n) (there_if_changed m mark (n + 1) count number (omega arith) (omega arith) changed))
      | inr here ↦
          let same : n ≡ number = omega arith in
          subst (λ k. Contains (changed_among m mark n (suc count)) (place k)) same
          (subst (λ xs. Contains xs (place n)) (sym (more m mark n count))
          (first_there m mark n count (is_changed m mark n) (ap (is_changed m mark) same ∙ changed)))
    ]

-- reading order
abbrev Comes : ℕ × ℕ → ℕ × ℕ → Type 0
Comes a b = 80 * a.0 + a.1 < 80 * b.0 + b.1

number_of : (n : ℕ) → 80 * (n / 80) + n % 80 ≡ n
number_of n = omega arith

comes_first : (m : MdaState) (mark n count : ℕ) (x : ℕ × ℕ) → IsNamed m mark (n + 1) count x → Comes (place n) x
comes_first m mark n count x named =
    let number : 80 * x.0 + x.1 ≡ named.number = ap (λ (p : ℕ × ℕ). 80 * p.0 + p.1) (sym named.is) ∙ number_of named.number in
    omega (arith, number_of n, named.from)

all_come : (m : MdaState) (mark n count : ℕ) → All (Comes (place n)) (changed_among m mark (n + 1) count)
all_come m mark n count =
    All-weaker (Contains (changed_among m mark (n + 1) count)) (Comes (place n))
    (λ x there. comes_first m mark n count x (named_if_there m mark (n + 1) count x there))
    (changed_among m mark (n + 1) count) (All-contains_itself (changed_among m mark (n + 1) count))

choice_rises : (m : MdaState) (mark n count : ℕ) (b : Bool) → AllPairs Comes (changed_among m mark (n + 1) count)
    → AllPairs Comes (cond b (place n ∷ changed_among m mark (n + 1) count) (changed_among m mark (n + 1) count))
choice_rises m mark n count true rises = AllPairs-cons Comes (place n) (changed_among m mark (n + 1) count) (all_come m mark n count) rises
choice_rises m mark n count false rises = rises

no_pairs : AllPairs Comes []
no_pairs i j d before within = absurd (omega arith)

pub rises : (m : MdaState) (mark n count : ℕ) → AllPairs Comes (changed_among m mark n count)
rises m mark n zero = subst (λ xs. AllPairs Comes xs) (sym (no_cells m mark n)) no_pairs
rises m mark n (suc count) =
    subst (λ xs. AllPairs Comes xs) (sym (more m mark n count)) (choice_rises m mark n count (is_changed m mark n) (rises m mark (n + 1) count))

-- events leave the mark alone
record KeepsMark (m s : MdaState) : Type 0 where
  kept : s.kept ≡ m.kept
  last_mark : s.last_mark ≡ m.last_mark

event_keeps : (m : MdaState) (e : Event) → KeepsMark m (after_event m e)
unfolding with_text_byte
event_keeps m (WritesMemory offset byte) = record { kept = refl; last_mark = refl }
event_keeps m (WritesPort port byte) = record {
  kept = write_keeps (λ s. s.kept) (λ s index start cursor video. refl) m port byte;
  last_mark = write_keeps (λ s. s.last_mark) (λ s index start cursor video. refl) m port byte;
}
event_keeps m (PassesClocks n) = record { kept = ap (λ s. s.kept) (clocks_move_beam m n); last_mark = ap (λ s. s.last_mark) (clocks_move_beam m n) }

events_keep : (m : MdaState) (es : List Event) → KeepsMark m (after_events m es)
unfolding after_events
events_keep m [] = record { kept = refl; last_mark = refl }
events_keep m (e ∷ es) =
    let first = event_keeps m e in
    let rest = events_keep (after_event m e) es in
    record { kept = rest.kept ∙ first.kept; last_mark = rest.last_mark ∙ first.last_mark }

kept_characters : (m : MdaState) (es : List Event) (n : ℕ) → n < 2000 → slice_index (since_mark m es).kept n ≡ nth_character m n
unfolding after_mark characters
kept_characters m es n below =
    ap (λ xs. slice_index xs n) (events_keep (after_mark m) es).kept
    ∙ get_or-map-range_with_len (nth_character m) 0 cell_count n n 0 (omega (arith, cell_count_is)) (omega arith)

last_number : (m : MdaState) (es : List Event) → (since_mark m es).last_mark ≡ m.next_mark
unfolding after_mark
last_number m es = (events_keep (after_mark m) es).last_mark

changed_if_not_last : (s : MdaState) (mark n : ℕ) → is_last s mark ≡ false → is_changed s mark n ≡ true
unfolding is_changed
changed_if_not_last s mark n other = rw other refl

differs : (a b : ℕ) → a ≢ b → not (a == b) ≡ true
differs a b apart = grind (arith, nat_tests)

apart : (a b : ℕ) → not (a == b) ≡ true → a ≢ b
apart a b is = grind (arith, nat_tests)

changed_is : (s : MdaState) (mark n : ℕ) → is_last s mark ≡ true → is_changed s mark n ≡ not (nth_character s n == slice_index s.kept n)
unfolding is_changed
changed_is s mark n last = rw last refl

last_is : (s : MdaState) (mark : ℕ) → s.last_mark ≡ mark → mark ≢ 0 → is_last s mark ≡ true
last_is s mark is some = grind (arith, nat_tests)

not_last : (s : MdaState) (mark : ℕ) → (mark ≢ s.last_mark) ⊎ (mark ≡ 0) → is_last s mark ≡ false
not_last s mark (inl other) = grind (arith, nat_tests)
not_last s mark (inr none) = grind (arith, nat_tests)

place_of : (row column : ℕ) → column < 80 → place (80 * row + column) ≡ (row, column)
place_of row column within =
    let r : (80 * row + column) / 80 ≡ row = omega arith in
    let c : (80 * row + column) % 80 ≡ column = omega arith in
    ap (λ k. (k, (80 * row + column) % 80)) r ∙ ap (λ k. (row, k)) c

character_at_cell : (m : MdaState) (row column : ℕ) → column < 80 → nth_character m (80 * row + column) ≡ cell m row column
unfolding nth_character
character_at_cell m row column within = ap (λ (p : ℕ × ℕ). cell m p.0 p.1) (place_of row column within)

number_is : (row column number : ℕ) → place number ≡ (row, column) → number ≡ 80 * row + column
number_is row column number is = sym (number_of number) ∙ ap (λ (p : ℕ × ℕ). 80 * p.0 + p.1) is

there_at : (m : MdaState) (mark row column : ℕ) → IsCell row column → is_changed m mark (80 * row + column) ≡ true
    → Contains (changed_cells m mark) (row, column)
there_at m mark row column within changed =
    let below : 80 * row + column < 0 + cell_count = omega (arith, cell_count_is) in
    subst (Contains (changed_cells m mark)) (place_of row column within.1)
    (there_if_changed m mark 0 cell_count (80 * row + column) (omega arith) below changed)

changed_at : (m : MdaState) (mark row column : ℕ) → Contains (changed_cells m mark) (row, column) → is_changed m mark (80 * row + column) ≡ true
changed_at m mark row column there =
    let named = named_if_there m mark 0 cell_count (row, column) there in
    ap (is_changed m mark) (sym (number_is row column named.number named.is)) ∙ named.changed

changed_iff : (m : MdaState) (es : List Event) (row column : ℕ) → m.next_mark ≢ 0 → IsCell row column
    → is_changed (since_mark m es) m.next_mark (80 * row + column) ≡ not (cell (since_mark m es) row column == cell m row column)
changed_iff m es row column some within =
    changed_is (since_mark m es) m.next_mark (80 * row + column) (last_is (since_mark m es) m.next_mark (last_number m es) some)
    ∙ ap (λ k. not (k == slice_index (since_mark m es).kept (80 * row + column))) (character_at_cell (since_mark m es) row column within.1)
    ∙ ap (λ k. not (cell (since_mark m es) row column == k)) (kept_characters m es (80 * row + column) (omega arith) ∙ character_at_cell m row column within.1)

pub tells_changes : (m : MdaState) (es : List Event) → TellsChanges m es
tells_changes m es = record {
  named = λ some row column within. (
    λ there. apart _ _ (sym (changed_iff m es row column some within) ∙ changed_at (since_mark m es) m.next_mark row column there),
    λ other. there_at (since_mark m es) m.next_mark row column within (changed_iff m es row column some within ∙ differs _ _ other),
  );
  all = λ mark row column other within.
      there_at (since_mark m es) mark row column within (changed_if_not_last (since_mark m es) mark (80 * row + column)
      (not_last (since_mark m es) mark (subst (λ k. (mark ≢ k) ⊎ (mark ≡ 0)) (sym (last_number m es)) other)));
  rising = λ mark. rises (since_mark m es) mark 0 cell_count;
}

number_of_mark : ℕ → ℕ
number_of_mark n = if nat_lt n (2 ^ 64 - 1) then n + 1 else 0

next_number : (n : ℕ) → number_after (number_of_mark n) ≡ number_of_mark (suc n)
unfolding number_of_mark
next_number n = grind (arith, nat_tests)

numbers : (n : ℕ) → (iterate after_mark n power_on).next_mark ≡ number_of_mark n
unfolding power_on after_mark number_of_mark
numbers zero = ap (λ s. s.next_mark) (iterate_zero after_mark power_on)
numbers (suc n) =
    ap (λ s. s.next_mark) (ap (λ k. iterate after_mark k power_on) (omega arith) ∙ iterate_more after_mark n power_on)
    ∙ ap number_after (numbers n) ∙ next_number n

pub numbers_marks : (n : ℕ) → NumbersMarks n
unfolding number_of_mark
numbers_marks n = numbers n
