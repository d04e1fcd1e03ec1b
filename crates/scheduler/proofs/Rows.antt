-- The definitions on worked values: which of several deadlines comes next. Of those at one clock the timer's come
-- first, counter 0's before counter 2's, then the keys', the processor's and the run's end.
use Rattle.std.proofs.Common.{◌≡◌, ℕ, ◌<◌, ◌≤◌, ◌⊎◌, inl, inr, Bool, true, false, ◌&&◌, ◌||◌, nat_eq}
use Rattle.std.proofs.Common.{nat_le, nat_lt, List, [], ◌∷◌, Option, None, Some, refl, sym, ap, ◌∙◌, arith}
use Rattle.std.proofs.lemmas.Bool.Decides.{nat_tests}
use Rattle.scheduler.specs.declared.deadlines.Source.{Source}
use Rattle.scheduler.specs.declared.deadlines.Source.TheVariants.{Counter0, Counter2, Keys, Processor, End}
use Rattle.scheduler.specs.Deadlines.{DeadlinesState, no_deadlines, deadline_of, with_deadline, place_of, IsNext}

-- the first of two is true, and so is the second
both : (a b : Bool) → (a && b) ≡ true → (a ≡ true) × (b ≡ true)
both true true is = (refl, refl)
both true false is = absurd (cc)
both false b is = absurd (cc)

-- whether a deadline comes after that of a source at a clock, by the clock or by the place
comes_later : ℕ → Source → Source → Option ℕ → Bool
comes_later clock source other None = true
comes_later clock source other (Some at) = nat_lt clock at || (nat_eq clock at && nat_le (place_of source) (place_of other))

after_by : (clock at first other : ℕ) → (nat_lt clock at || (nat_eq clock at && nat_le first other)) ≡ true → (clock < at) ⊎ ((clock ≡ at) × (first ≤ other))
after_by clock at first other is = by_order (nat_lt clock at) refl is
  where
    by_order : (b : Bool) → nat_lt clock at ≡ b → (b || (nat_eq clock at && nat_le first other)) ≡ true → (clock < at) ⊎ ((clock ≡ at) × (first ≤ other))
    by_order true before is = inl (grind (arith, nat_tests))
    by_order false not_before is =
        let told = both (nat_eq clock at) (nat_le first other) is in
        let same : nat_eq clock at ≡ true = told.0 in
        let place : nat_le first other ≡ true = told.1 in
        inr (grind (arith, nat_tests), grind (arith, nat_tests))

-- all five
abbrev all : (Source → Bool) → Bool
all p = p Counter0 && (p Counter2 && (p Keys && (p Processor && p End)))

all_true : (a b c d e : Bool) → (a && (b && (c && (d && e)))) ≡ true → (a ≡ true) × (b ≡ true) × (c ≡ true) × (d ≡ true) × (e ≡ true)
all_true true true true true true is = (refl, refl, refl, refl, refl)
all_true true true true true false is = absurd (cc)
all_true true true true false e is = absurd (cc)
all_true true true false d e is = absurd (cc)
all_true true false c d e is = absurd (cc)
all_true false b c d e is = absurd (cc)

each : (p : Source → Bool) → all p ≡ true → (source : Source) → p source ≡ true
each p is = by_source (all_true (p Counter0) (p Counter2) (p Keys) (p Processor) (p End) is)
  where
    by_source : (p Counter0 ≡ true) × (p Counter2 ≡ true) × (p Keys ≡ true) × (p Processor ≡ true) × (p End ≡ true) → (source : Source) → p source ≡ true
    by_source told Counter0 = told.0
    by_source told Counter2 = told.1
    by_source told Keys = told.2
    by_source told Processor = told.3
    by_source told End = told.4

-- whether all other deadlines come after that of a source at a clock
comes_first : DeadlinesState → ℕ → Source → Bool
unfolding comes_later
comes_first d clock source = all (λ other. comes_later clock source other (deadline_of d other))

next_by : (d : DeadlinesState) (clock : ℕ) (source : Source) → deadline_of d source ≡ Some clock → comes_first d clock source ≡ true → IsNext d clock source
unfolding comes_later comes_first
next_by d clock source due first = record {
  due = due;
  first = λ other at is.
      after_by clock at (place_of source) (place_of other)
      (ap (comes_later clock source other) (sym is) ∙ each (λ s. comes_later clock source s (deadline_of d s)) first other);
}

-- deadlines, each of a source at a clock
abbrev at_clocks : List (Source × ℕ) → DeadlinesState
at_clocks [] = no_deadlines
at_clocks (it ∷ more) = with_deadline (at_clocks more) it.0 (Some it.1)

-- all five at one clock
five : IsNext (at_clocks ((End, 7) ∷ (Processor, 7) ∷ (Keys, 7) ∷ (Counter2, 7) ∷ (Counter0, 7) ∷ [])) 7 Counter0
unfolding comes_later comes_first
five = next_by _ 7 Counter0 refl refl

-- each pair at one clock
counter_0_before_counter_2 : IsNext (at_clocks ((Counter2, 7) ∷ (Counter0, 7) ∷ [])) 7 Counter0
unfolding comes_later comes_first
counter_0_before_counter_2 = next_by _ 7 Counter0 refl refl

counter_0_before_keys : IsNext (at_clocks ((Keys, 7) ∷ (Counter0, 7) ∷ [])) 7 Counter0
unfolding comes_later comes_first
counter_0_before_keys = next_by _ 7 Counter0 refl refl

counter_0_before_processor : IsNext (at_clocks ((Processor, 7) ∷ (Counter0, 7) ∷ [])) 7 Counter0
unfolding comes_later comes_first
counter_0_before_processor = next_by _ 7 Counter0 refl refl

counter_0_before_end : IsNext (at_clocks ((End, 7) ∷ (Counter0, 7) ∷ [])) 7 Counter0
unfolding comes_later comes_first
counter_0_before_end = next_by _ 7 Counter0 refl refl

counter_2_before_keys : IsNext (at_clocks ((Keys, 7) ∷ (Counter2, 7) ∷ [])) 7 Counter2
unfolding comes_later comes_first
counter_2_before_keys = next_by _ 7 Counter2 refl refl

counter_2_before_processor : IsNext (at_clocks ((Processor, 7) ∷ (Counter2, 7) ∷ [])) 7 Counter2
unfolding comes_later comes_first
counter_2_before_processor = next_by _ 7 Counter2 refl refl

counter_2_before_end : IsNext (at_clocks ((End, 7) ∷ (Counter2, 7) ∷ [])) 7 Counter2
unfolding comes_later comes_first
counter_2_before_end = next_by _ 7 Counter2 refl refl

keys_before_processor : IsNext (at_clocks ((Processor, 7) ∷ (Keys, 7) ∷ [])) 7 Keys
unfolding comes_later comes_first
keys_before_processor = next_by _ 7 Keys refl refl

keys_before_end : IsNext (at_clocks ((End, 7) ∷ (Keys, 7) ∷ [])) 7 Keys
unfolding comes_later comes_first
keys_before_end = next_by _ 7 Keys refl refl

processor_before_end : IsNext (at_clocks ((End, 7) ∷ (Processor, 7) ∷ [])) 7 Processor
unfolding comes_later comes_first
processor_before_end = next_by _ 7 Processor refl refl

-- a sooner clock comes before any place
sooner_end : IsNext (at_clocks ((End, 6) ∷ (Processor, 7) ∷ (Keys, 7) ∷ (Counter2, 7) ∷ (Counter0, 7) ∷ [])) 6 End
unfolding comes_later comes_first
sooner_end = next_by _ 6 End refl refl
