-- Going through the sources in their order gives the first deadline.
use Rattle.std.proofs.Common.{◌≡◌, ℕ, ◌+◌, ◌<◌, ◌≤◌, ◌⊎◌, Bool, true, false, refl, sym, ap, ◌∙◌}
use Rattle.std.proofs.Common.{arith, inl, inr, nat_le, if◌then◌else◌, Option, None, Some, MatchOption}
use Rattle.std.proofs.lemmas.Bool.{cases_lt}
use Rattle.std.proofs.lemmas.Bool.Decides.{nat_tests}
use Rattle.scheduler.specs.declared.deadlines.Source.{Source}
use Rattle.scheduler.specs.declared.deadlines.Source.TheVariants.{Counter0, Counter2, Keys, Processor, End}
use Rattle.scheduler.specs.Deadlines.{DeadlinesState, deadline_of, place_of, IsNext}
use Rattle.scheduler.specs.Sooner.{sooner, next_of}

-- the first of the sources in the places below k
pub record IsLeast (d : DeadlinesState) (k clock : ℕ) (source : Source) : Type 0 where
  pub due : deadline_of d source ≡ Some clock
  pub first : (other : Source) (at : ℕ) → place_of other < k → deadline_of d other ≡ Some at
      → (clock < at) ⊎ ((clock ≡ at) × (place_of source ≤ place_of other))
  pub place : place_of source < k

abbrev pub Least : DeadlinesState → ℕ → Option (ℕ × Source) → Type 0
Least d k first = MatchOption first ((other : Source) → place_of other < k → deadline_of d other ≡ None) (λ it. IsLeast d k it.0 it.1)

-- a place has one source
at_place : ℕ → Source
at_place k = if nat_le k 0 then Counter0 else (if nat_le k 1 then Counter2 else (if nat_le k 2 then Keys else (if nat_le k 3 then Processor else End)))

place_back : (s : Source) → at_place (place_of s) ≡ s
unfolding at_place
place_back Counter0 = refl
place_back Counter2 = refl
place_back Keys = refl
place_back Processor = refl
place_back End = refl

one_place : (a b : Source) → place_of a ≡ place_of b → a ≡ b
one_place a b same = sym (place_back a) ∙ ap at_place same ∙ place_back b

-- a source in one of the places up to k is in an earlier one, or is the one in place k
earlier_or_here : (other s : Source) (k : ℕ) → place_of s ≡ k → place_of other < k + 1 → (place_of other < k) ⊎ (other ≡ s)
earlier_or_here other s k here less = elim (cases_lt (place_of other) k) [
  | inl before ↦ inl before
  | inr at ↦ inr (one_place other s (omega arith))
]

same_clock : (d : DeadlinesState) (other s : Source) (at clock : ℕ) → other ≡ s → deadline_of d other ≡ Some at → deadline_of d s ≡ Some clock → at ≡ clock
same_clock d other s at clock same due here = some_same (sym due ∙ ap (deadline_of d) same ∙ here)
  where
    some_same : Some at ≡ Some clock → at ≡ clock
    some_same is = cc

in_place : (other s : Source) → other ≡ s → place_of other ≡ place_of s
in_place other s same = ap place_of same

by_order : (d : DeadlinesState) (k : ℕ) (s kept : Source) (clock at : ℕ) → place_of s ≡ k → IsLeast d k clock kept
    → deadline_of d s ≡ Some at → (b : Bool) → nat_le clock at ≡ b → Least d (k + 1) (if b then Some (clock, kept) else Some (at, s))
by_order d k s kept clock at here least due true before =
    let le : clock ≤ at = grind (arith, nat_tests) in
    record {
      due = least.due;
      first = λ other time less is. elim (earlier_or_here other s k here less) [
        | inl earlier ↦ least.first other time earlier is
        | inr same ↦
            let when : time ≡ at = same_clock d other s time at same is due in
            let where_is : place_of other ≡ place_of s = in_place other s same in
            let kept_place : place_of kept < k = least.place in
            elim (cases_lt clock at) [
              | inl sooner_one ↦ inl (omega arith)
              | inr not_sooner ↦ inr (omega arith, omega arith)
            ]
      ];
      place = let kept_place : place_of kept < k = least.place in omega arith;
    }
by_order d k s kept clock at here least due false after =
    let lt : at < clock = grind (arith, nat_tests) in
    record {
      due = due;
      first = λ other time less is. elim (earlier_or_here other s k here less) [
        | inl earlier ↦ inl (later (least.first other time earlier is) lt)
        | inr same ↦
            let when : time ≡ at = same_clock d other s time at same is due in
            let where_is : place_of other ≡ place_of s = in_place other s same in
            inr (omega arith, omega arith)
      ];
      place = omega arith;
    }
  where
    later : {time p q : ℕ} → (clock < time) ⊎ ((clock ≡ time) × (p ≤ q)) → at < clock → at < time
    later (inl more) less = omega arith
    later (inr same) less = omega (arith, same.0)

-- one more source
one_more : (d : DeadlinesState) (k : ℕ) (s : Source) (first : Option (ℕ × Source)) (at : Option ℕ)
    → place_of s ≡ k → Least d k first → deadline_of d s ≡ at → Least d (k + 1) (sooner first at s)
one_more d k s None None here none due = λ other less. elim (earlier_or_here other s k here less) [
  | inl earlier ↦ none other earlier
  | inr same ↦ ap (deadline_of d) same ∙ due
]
one_more d k s (Some it) None here least due = record {
  due = least.due;
  first = λ other time less is. elim (earlier_or_here other s k here less) [
    | inl earlier ↦ least.first other time earlier is
    | inr same ↦ absurd (not_both (sym is ∙ ap (deadline_of d) same ∙ due))
  ];
  place = let kept_place : place_of it.1 < k = least.place in omega arith;
}
  where
    not_both : {time : ℕ} → Some time ≡ None → ⊥
    not_both is = cc
one_more d k s None (Some at) here none due = record {
  due = due;
  first = λ other time less is. elim (earlier_or_here other s k here less) [
    | inl earlier ↦ absurd (not_both (sym is ∙ none other earlier))
    | inr same ↦
        let when : time ≡ at = same_clock d other s time at same is due in
        let where_is : place_of other ≡ place_of s = in_place other s same in
        inr (omega arith, omega arith)
  ];
  place = omega arith;
}
  where
    not_both : {time : ℕ} → Some time ≡ None → ⊥
    not_both is = cc
one_more d k s (Some it) (Some at) here least due = by_order d k s it.1 it.0 at here least due (nat_le it.0 at) refl

all_places : (s : Source) → place_of s < 5
all_places Counter0 = omega arith
all_places Counter2 = omega arith
all_places Keys = omega arith
all_places Processor = omega arith
all_places End = omega arith

abbrev pub IsFirst : DeadlinesState → Option (ℕ × Source) → Type 0
IsFirst d first = MatchOption first ((source : Source) → deadline_of d source ≡ None) (λ it. IsNext d it.0 it.1)

pub next_is : (d : DeadlinesState) → IsFirst d (next_of d)
unfolding next_of
next_is d =
    finish _ (one_more d 4 End _ d.end refl (one_more d 3 Processor _ d.processor refl (one_more d 2 Keys _ d.keys refl
    (one_more d 1 Counter2 _ d.counter_2 refl (one_more d 0 Counter0 None d.counter_0 refl (λ other less. absurd (omega arith)) refl) refl) refl)
    refl)
    refl)
  where
    finish : (first : Option (ℕ × Source)) → Least d 5 first → MatchOption first ((source : Source) → deadline_of d source ≡ None) (λ it. IsNext d it.0 it.1)
    finish None none = λ source. none source (all_places source)
    finish (Some it) least = record { due = least.due; first = λ other at is. least.first other at (all_places other) is }
