-- Ranges of moments, to which one more run is added.
use Rattle.std.proofs.Common.{◌≡◌, ◌≢◌, ℕ, ◌+◌, ◌-◌, ◌≤◌, Bool, true, false, if◌then◌else◌}
use Rattle.std.proofs.Common.{inl, inr, List, [], ◌∷◌, ◌++◌, Option, None, Some, refl, sym, ap, ◌∙◌, subst, arith}
use Rattle.std.specs.Prelude.{min, max, IfSome, nat_eq}
use Rattle.std.specs.Option.{option_map}
use Rattle.std.proofs.lemmas.Bool.{cases_lt}
use Rattle.std.proofs.lemmas.Bool.Decides.{nat_tests}
use Rattle.board_plain.specs.declared.stop.Stop.{Stop as End}
use Rattle.board_plain.specs.Plain.{Plain}
use Rattle.probe_texts.specs.declared.moments_text.Ends.{Ends}
use Rattle.probe_texts.specs.declared.moments_text.Moments.{Moments}
use Rattle.probe_texts.specs.declared.moments_text.Trial.{Trial}
use Rattle.probe_texts.specs.declared.stops.Stop.{Stop}
use Rattle.probe.specs.Moments.{AreAlike, AreRanges, DiffersNext, EndsWith, IsAmong, IsReached, stop_number}
use Rattle.probe.specs.Tried.{added, ends_of, ends_with, joined, moments_of, wider}

-- moments with which all runs end like this
abbrev pub AllEnd : List Stop → Plain → Trial → ℕ → ℕ → Option End → Type 0
AllEnd stops s trial first last end = (stamp : ℕ) → first ≤ stamp → stamp ≤ last → EndsWith stops s trial stamp end

among_one : (end : Option End) → IsAmong (ends_of end) end
among_one None = tt
among_one (Some end) = (refl, (omega arith, omega arith))

reached_one : (stops : List Stop) (s : Plain) (trial : Trial) (first last : ℕ) (end : Option End) → first ≤ last → AllEnd stops s trial first last end
    → IfSome (ends_of end) (λ (ends : Ends). IsReached stops s trial (moments_of first last end) ends.number ends.least)
reached_one stops s trial first last None rising all = tt
reached_one stops s trial first last (Some end) rising all = record { stamp = first; from = omega arith; to = rising; ends = all first (omega arith) rising }

reached_one_too : (stops : List Stop) (s : Plain) (trial : Trial) (first last : ℕ) (end : Option End) → first ≤ last → AllEnd stops s trial first last end
    → IfSome (ends_of end) (λ (ends : Ends). IsReached stops s trial (moments_of first last end) ends.number ends.greatest)
reached_one_too stops s trial first last None rising all = tt
reached_one_too stops s trial first last (Some end) rising all =
    record { stamp = first; from = omega arith; to = rising; ends = all first (omega arith) rising }

alike_one : (stops : List Stop) (s : Plain) (trial : Trial) (first last : ℕ) (end : Option End)
    → first ≤ last → AllEnd stops s trial first last end → AreAlike stops s trial (moments_of first last end)
alike_one stops s trial first last end rising all = record {
  rising = rising;
  each = λ stamp from to. (end, (all stamp from to, among_one end));
  least = reached_one stops s trial first last end rising all;
  greatest = reached_one_too stops s trial first last end rising all;
}

-- a range and one more run that ends at its stop

wider_reached : (stops : List Stop) (s : Plain) (trial : Trial) (m : Moments) (last : ℕ) (ends : Option Ends) (number clock : ℕ)
    → m.last ≤ last → IsReached stops s trial m number clock → IsReached stops s trial (record m { last = last; ends = ends }) number clock
wider_reached stops s trial m last ends number clock more is =
    record { stamp = is.stamp; from = is.from; to = let to = is.to in omega (arith, to, more); ends = is.ends }

-- the new run's end, as a clock of the wider range
new_reached : (stops : List Stop) (s : Plain) (trial : Trial) (m : Moments) (first last : ℕ) (ends : Option Ends) (number : ℕ) (end : End)
    → m.first ≤ first → first ≤ last → number ≡ end.number → AllEnd stops s trial first last (Some end)
    → IsReached stops s trial (record m { last = last; ends = ends }) number end.clock
new_reached stops s trial m first last ends number end from rising same all = record {
  stamp = first;
  from = from;
  to = rising;
  ends = subst (λ n. EndsWith stops s trial first (Some (record { number = n; clock = end.clock }))) (sym same) (all first (omega arith) rising);
}

less_or : (P : ℕ → Type 0) (a b : ℕ) → P a → P b → P (min a b)
less_or P a b pa pb = elim (cases_lt a b) [
  | inl less ↦ subst P (omega (arith, less)) pa
  | inr more ↦ subst P (omega (arith, more)) pb
]

more_or : (P : ℕ → Type 0) (a b : ℕ) → P a → P b → P (max a b)
more_or P a b pa pb = elim (cases_lt a b) [
  | inl less ↦ subst P (omega (arith, less)) pb
  | inr more ↦ subst P (omega (arith, more)) pa
]

still_among : (ends : Ends) (end : End) (other : Option End) → IsAmong (Some ends) other → IsAmong (Some (wider ends end)) other
still_among ends end None is = is
still_among ends end (Some other) is = let least = is.1.0 in let greatest = is.1.1 in (is.0, (omega (arith, least), omega (arith, greatest)))

alike_stopped : (stops : List Stop) (s : Plain) (trial : Trial) (first last : ℕ) (m : Moments) (ends : Ends) (end : End)
    → m.ends ≡ Some ends → ends.number ≡ end.number → m.last + 1 ≡ first → first ≤ last → AllEnd stops s trial first last (Some end) → AreAlike stops s trial m
    → AreAlike stops s trial (record m { last = last; ends = Some (wider ends end) })
alike_stopped stops s trial first last m ends end is same next rising all alike =
    let from = alike.rising in
    let least : IsReached stops s trial m ends.number ends.least =
    subst (λ (o : Option Ends). IfSome o (λ (e : Ends). IsReached stops s trial m e.number e.least)) is alike.least in
    let greatest : IsReached stops s trial m ends.number ends.greatest =
    subst (λ (o : Option Ends). IfSome o (λ (e : Ends). IsReached stops s trial m e.number e.greatest)) is alike.greatest in
    let newly = new_reached stops s trial m first last (Some (wider ends end)) ends.number end (omega (arith, next, from)) rising same all in
    record {
      rising = omega (arith, from, next, rising);
      each = λ stamp low high.
          elim (cases_lt m.last stamp) [
            | inl later ↦ (Some end, (all stamp (omega (arith, next, later)) high, (sym same, (omega arith, omega arith))))
            | inr sooner ↦ let one = alike.each stamp low sooner in
                (one.0, (one.1.0, still_among ends end one.0 (subst (λ (o : Option Ends). IsAmong o one.0) is one.1.1)))
          ];
      least = less_or (IsReached stops s trial (record m { last = last; ends = Some (wider ends end) }) ends.number) ends.least end.clock
          (wider_reached stops s trial m last (Some (wider ends end)) ends.number ends.least (omega (arith, next, rising)) least) newly;
      greatest = more_or (IsReached stops s trial (record m { last = last; ends = Some (wider ends end) }) ends.number) ends.greatest end.clock
          (wider_reached stops s trial m last (Some (wider ends end)) ends.number ends.greatest (omega (arith, next, rising)) greatest) newly;
    }

alike_unstopped : (stops : List Stop) (s : Plain) (trial : Trial) (first last : ℕ) (m : Moments) → m.ends ≡ None → m.last + 1 ≡ first
    → first ≤ last → AllEnd stops s trial first last None → AreAlike stops s trial m → AreAlike stops s trial (record m { last = last; ends = None })
alike_unstopped stops s trial first last m is next rising all alike =
    let from = alike.rising in
    record {
      rising = omega (arith, from, next, rising);
      each = λ stamp low high.
          elim (cases_lt m.last stamp) [
            | inl later ↦ (None, (all stamp (omega (arith, next, later)) high, tt))
            | inr sooner ↦ let one = alike.each stamp low sooner in (one.0, (one.1.0, subst (λ (o : Option Ends). IsAmong o one.0) is one.1.1))
          ];
      least = tt;
      greatest = tt;
    }

-- the last range and one more run

differs_none : (end : End) → Some end.number ≢ None
differs_none end same = let never : Some end.number ≡ None = same in absurd (cc)

none_differs : (ends : Ends) → None ≢ Some ends.number
none_differs ends same = let never : None ≡ Some ends.number = same in absurd (cc)

other_differs : (ends : Ends) (end : End) → nat_eq ends.number end.number ≡ false → Some end.number ≢ Some ends.number
other_differs ends end is same =
    let number : end.number ≡ ends.number = cc in let never : false ≡ true = sym is ∙ grind (arith, nat_tests, number) in absurd (cc)

last_by : (stops : List Stop) (s : Plain) (trial : Trial) (first last : ℕ) (m : Moments) (ends : Ends) (end : End) (same : Bool)
    → nat_eq ends.number end.number ≡ same → m.ends ≡ Some ends → m.last + 1 ≡ first
    → first ≤ last → AllEnd stops s trial first last (Some end) → AreAlike stops s trial m
    → AreRanges stops s trial m.first last (joined m (moments_of first last (Some end)) (if same then Some (Some (wider ends end)) else None))
last_by stops s trial first last m ends end true equal is next rising all alike =
    let number : ends.number ≡ end.number = grind (arith, nat_tests, equal) in
    (refl, (omega arith, (alike_stopped stops s trial first last m ends end is number next rising all alike, (tt, omega arith))))
last_by stops s trial first last m ends end false equal is next rising all alike = (
  refl,
  (
    omega (arith, next, rising),
    (
      alike,
      (
        subst (λ (o : Option Ends). Some end.number ≢ option_map (λ (e : Ends). e.number) o) (sym is) (other_differs ends end equal),
        (sym next, (omega arith, (alike_one stops s trial first last (Some end) rising all, (tt, omega arith)))),
      ),
    ),
  ),
)

last_joined : (stops : List Stop) (s : Plain) (trial : Trial) (first last : ℕ) (m : Moments) (ends : Option Ends) (end : Option End)
    → m.ends ≡ ends → m.last + 1 ≡ first → first ≤ last → AllEnd stops s trial first last end → AreAlike stops s trial m
    → AreRanges stops s trial m.first last (joined m (moments_of first last end) (ends_with ends end))
last_joined stops s trial first last m None None is next rising all alike =
    (refl, (omega arith, (alike_unstopped stops s trial first last m is next rising all alike, (tt, omega arith))))
last_joined stops s trial first last m None (Some end) is next rising all alike = (
  refl,
  (
    omega (arith, next, rising),
    (
      alike,
      (
        subst (λ (o : Option Ends). Some end.number ≢ option_map (λ (e : Ends). e.number) o) (sym is) (differs_none end),
        (sym next, (omega arith, (alike_one stops s trial first last (Some end) rising all, (tt, omega arith)))),
      ),
    ),
  ),
)
last_joined stops s trial first last m (Some ends) None is next rising all alike = (
  refl,
  (
    omega (arith, next, rising),
    (
      alike,
      (
        subst (λ (o : Option Ends). None ≢ option_map (λ (e : Ends). e.number) o) (sym is) (none_differs ends),
        (sym next, (omega arith, (alike_one stops s trial first last None rising all, (tt, omega arith)))),
      ),
    ),
  ),
)
last_joined stops s trial first last m (Some ends) (Some end) is next rising all alike =
    last_by stops s trial first last m ends end (nat_eq ends.number end.number) refl is next rising all alike

-- what follows a range still differs from it

joined_differs : (m n : Moments) (first last : ℕ) (end : Option End) (ends : Option Ends) (with : Option (Option Ends))
    → n.ends ≡ ends → with ≡ ends_with ends end → stop_number n ≢ stop_number m → DiffersNext m (joined n (moments_of first last end) with)
joined_differs m n first last end ends None is by differs = differs
joined_differs m n first last None None (Some with) is by differs =
    let same : with ≡ None = cc in subst (λ (o : Option Ends). option_map (λ (e : Ends). e.number) o ≢ stop_number m) (is ∙ sym same) differs
joined_differs m n first last (Some end) None (Some with) is by differs = absurd (cc)
joined_differs m n first last None (Some ends) (Some with) is by differs = absurd (cc)
joined_differs m n first last (Some end) (Some ends) (Some with) is by differs = by_number (nat_eq ends.number end.number) by
  where
    by_number : (same : Bool) → Some with ≡ (if same then Some (Some (wider ends end)) else None) → option_map (λ (e : Ends). e.number) with ≢ stop_number m
    by_number true by =
        let same : with ≡ Some (wider ends end) = cc in
        subst (λ (o : Option Ends). option_map (λ (e : Ends). e.number) o ≢ stop_number m) (sym same)
        (subst (λ (o : Option Ends). option_map (λ (e : Ends). e.number) o ≢ stop_number m) is differs)
    by_number false by = absurd (cc)

added_differs : (m n : Moments) (ms : List Moments) (first last : ℕ) (end : Option End)
    → stop_number n ≢ stop_number m → DiffersNext m (added (n ∷ ms) first last end)
added_differs m n [] first last end differs = joined_differs m n first last end n.ends (ends_with n.ends end) refl refl differs
added_differs m n (o ∷ ms) first last end differs = differs

pub ranges_added : (stops : List Stop) (s : Plain) (trial : Trial) (from first last : ℕ) (ranges : List Moments) (end : Option End)
    → from ≤ first → 1 ≤ first → first ≤ last → AreRanges stops s trial from (first - 1) ranges → AllEnd stops s trial first last end
    → AreRanges stops s trial from last (added ranges first last end)
ranges_added stops s trial from first last [] end within some rising are all =
    (omega (arith, within, some, are), (omega arith, (alike_one stops s trial first last end rising all, (tt, omega arith))))
ranges_added stops s trial from first last (m ∷ []) end within some rising are all =
    let past = are.1.1.1.1 in
    let before = are.1.0 in
    subst (λ n. AreRanges stops s trial n last (added (m ∷ []) first last end)) are.0
    (last_joined stops s trial first last m m.ends end refl (omega (arith, past, before, some)) rising all are.1.1.0)
ranges_added stops s trial from first last (m ∷ n ∷ ms) end within some rising are all =
    let before = are.1.0 in (
      are.0,
      (
        omega (arith, before, some, rising),
        (
          are.1.1.0,
          (
            added_differs m n ms first last end are.1.1.1.0,
            ranges_added stops s trial (m.last + 1) first last (n ∷ ms) end (omega (arith, before, some)) some rising are.1.1.1.1 all,
          ),
        ),
      ),
    )

-- only the last range is looked at
pub added_at_end : (ms : List Moments) (m : Moments) (first last : ℕ) (end : Option End)
    → added (ms ++ m ∷ []) first last end ≡ ms ++ joined m (moments_of first last end) (ends_with m.ends end)
added_at_end [] m first last end = refl
added_at_end (x ∷ []) m first last end = refl
added_at_end (x ∷ y ∷ ms) m first last end = ap (λ rest. x ∷ rest) (added_at_end (y ∷ ms) m first last end)
