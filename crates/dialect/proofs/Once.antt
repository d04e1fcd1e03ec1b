-- The words stand once each, and case doesn't count.
use Rattle.std.proofs.Common.{◌≡◌, ℕ, zero, suc, Bool, true, false, not, ◌&&◌, List, [], ◌∷◌, map, find, Some, refl, sym, ap, ◌∙◌, arith}
use Rattle.std.specs.Prelude.{slice_get}
use Rattle.std.specs.List.{list_all}
use Rattle.std.specs.Option.{option_map}
use Rattle.std.specs.Char.{to_ascii_lowercase}
use Rattle.std.specs.Str.{bytes_eq}
use Rattle.std.proofs.lemmas.Slice.Eq.{bytes_eq-Decides}
use Rattle.dialect.specs.Words.{Entry, words, spells, meaning_of}
use Rattle.dialect.specs.DialectLaws.{OneMeaning, CaseDoesNotCount}

lower_same : (v w : List ℕ) → spells v w ≡ true → map to_ascii_lowercase v ≡ map to_ascii_lowercase w
unfolding spells
lower_same v w is = grind (arith, bytes_eq-Decides (map to_ascii_lowercase v) (map to_ascii_lowercase w))

pub case_is_nothing : CaseDoesNotCount
unfolding spells meaning_of
case_is_nothing v w is =
    ap (λ (l : List ℕ). option_map (λ (e : Entry). e.1) (find (λ e. bytes_eq l (map to_ascii_lowercase e.0)) words)) (lower_same v w is)

spells_back : (v w : List ℕ) → spells v w ≡ true → spells w v ≡ true
unfolding spells
spells_back v w is =
    let same = lower_same v w is in
    grind (arith, bytes_eq-Decides (map to_ascii_lowercase w) (map to_ascii_lowercase v))

abbrev are_apart : List Entry → Bool
are_apart [] = true
are_apart (d ∷ es) = list_all (λ (e : Entry). not (spells d.0 e.0)) es && are_apart es

words_are_apart : are_apart words ≡ true
unfolding words spells
words_are_apart = refl

left_true : (s t : Bool) → (s && t) ≡ true → s ≡ true
left_true true t e = refl
left_true false t e = absurd (cc)

right_true : (s t : Bool) → (s && t) ≡ true → t ≡ true
right_true true t e = e
right_true false t e = absurd (cc)

other_at : (d : Entry) (es : List Entry) (j : ℕ) (e : Entry)
    → list_all (λ (e : Entry). not (spells d.0 e.0)) es ≡ true → slice_get es j ≡ Some e → not (spells d.0 e.0) ≡ true
other_at d [] j e all at = absurd (cc)
other_at d (x ∷ es) zero e all at =
    let same : x ≡ e = cc in
    ap (λ (y : Entry). not (spells d.0 y.0)) (sym same) ∙ left_true (not (spells d.0 x.0)) (list_all (λ (e : Entry). not (spells d.0 e.0)) es) all
other_at d (x ∷ es) (suc j) e all at =
    other_at d es j e (right_true (not (spells d.0 x.0)) (list_all (λ (e : Entry). not (spells d.0 e.0)) es) all) at

not_both : (b : Bool) → b ≡ true → not b ≡ true → ⊥
not_both true is none = cc
not_both false is none = cc

one_place : (es : List Entry) (i j : ℕ) (d e : Entry) → are_apart es ≡ true → slice_get es i ≡ Some d → slice_get es j ≡ Some e → spells d.0 e.0 ≡ true → i ≡ j
one_place [] i j d e apart at other same = absurd (cc)
one_place (x ∷ es) zero zero d e apart at other same = refl
one_place (x ∷ es) zero (suc j) d e apart at other same =
    let is : x ≡ d = cc in
    let all = left_true (list_all (λ (e : Entry). not (spells x.0 e.0)) es) (are_apart es) apart in
    absurd (not_both (spells d.0 e.0) same (ap (λ (y : Entry). not (spells y.0 e.0)) (sym is) ∙ other_at x es j e all other))
one_place (x ∷ es) (suc i) zero d e apart at other same =
    let is : x ≡ e = cc in
    let all = left_true (list_all (λ (e : Entry). not (spells x.0 e.0)) es) (are_apart es) apart in
    absurd (not_both (spells e.0 d.0) (spells_back d.0 e.0 same) (ap (λ (y : Entry). not (spells y.0 d.0)) (sym is) ∙ other_at x es i d all at))
one_place (x ∷ es) (suc i) (suc j) d e apart at other same =
    ap suc (one_place es i j d e (right_true (list_all (λ (e : Entry). not (spells x.0 e.0)) es) (are_apart es) apart) at other same)

pub one_each : OneMeaning
one_each i j d e at other same = one_place words i j d e words_are_apart at other same
