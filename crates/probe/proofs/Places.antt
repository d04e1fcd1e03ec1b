-- The first place of a list at which a test passes.
use Rattle.std.proofs.Common.{◌≡◌, ℕ, zero, suc, ◌+◌, ◌<◌, ◌≤◌, Bool, true, false, cond, inl, inr, List, []}
use Rattle.std.proofs.Common.{◌∷◌, length, map, get_or, Option, Some, None, refl, ap, ◌∙◌, arith}
use Rattle.std.specs.Prelude.{◌||◌, unwrap_or}
use Rattle.std.specs.List.{position_from}
use Rattle.std.proofs.lemmas.Bool.{cases_lt}
use Rattle.probe.specs.Met.{earlier}

pub there_first : {K : Type 0} (t : K → Bool) (i n : ℕ) (xs : List K) (e : K)
    → n < length xs → ((k : ℕ) (d : K) → k < n → t (get_or xs k d) ≡ false) → t (get_or xs n e) ≡ true → position_from t i xs ≡ Some (i + n)
there_first t i n [] e within none here = absurd (omega (arith, within))
there_first t i zero (x ∷ xs) e within none here = ap (λ (b : Bool). cond b (Some i) (position_from t (i + 1) xs)) here ∙ ap Some (omega arith)
there_first t i (suc n) (x ∷ xs) e within none here =
    ap (λ (b : Bool). cond b (Some i) (position_from t (i + 1) xs)) (none 0 x (omega arith))
    ∙ there_first t (i + 1) n xs e (omega (arith, within)) (λ k d h. none (suc k) d (omega (arith, h))) here ∙ ap Some (omega arith)

pub none_before : {K : Type 0} (t : K → Bool) (i : ℕ) (xs : List K)
    → ((k : ℕ) (d : K) → k < length xs → t (get_or xs k d) ≡ false) → position_from t i xs ≡ None
none_before t i [] none = refl
none_before t i (x ∷ xs) none =
    ap (λ (b : Bool). cond b (Some i) (position_from t (i + 1) xs)) (none 0 x (omega arith))
    ∙ none_before t (i + 1) xs (λ k d h. none (suc k) d (omega (arith, h)))

same_there : {K : Type 0} (n : ℕ) (xs : List K) (d e : K) → n < length xs → get_or xs n d ≡ get_or xs n e
same_there n [] d e within = absurd (omega (arith, within))
same_there zero (x ∷ xs) d e within = refl
same_there (suc n) (x ∷ xs) d e within = same_there n xs d e (omega (arith, within))

pub below_also : {K : Type 0} (t : K → Bool) (n : ℕ) (xs : List K) (e : K) → n < length xs
    → ((k : ℕ) (d : K) → k < n → t (get_or xs k d) ≡ false) → t (get_or xs n e) ≡ false → (k : ℕ) (d : K) → k < n + 1 → t (get_or xs k d) ≡ false
below_also t n xs e size before here k d within =
    elim (cases_lt k n) [
      | inl sooner ↦ before k d sooner
      | inr at ↦
          let same : k ≡ n = omega (arith, at, within) in
          ap (λ j. t (get_or xs j d)) same ∙ ap t (same_there n xs d e size) ∙ here
    ]

-- a list of what a function gives for each
pub of_each : {K L : Type 0} (t : L → Bool) (f : K → L) (i : ℕ) (xs : List K) → position_from t i (map f xs) ≡ position_from (λ x. t (f x)) i xs
of_each t f i [] = refl
of_each t f i (x ∷ xs) = ap (λ rest. cond (t (f x)) (Some i) rest) (of_each t f (i + 1) xs)

-- the first place at which one of two tests passes is the smaller of their first places

some_of : (a b : ℕ) → Some a ≡ Some b → a ≡ b
some_of a b is = ap (λ (o : Option ℕ). unwrap_or o 0) is

from_here : (here : Bool) (i n : ℕ) (rest : Option ℕ) → cond here (Some i) rest ≡ Some n → ((m : ℕ) → rest ≡ Some m → i ≤ m) → i ≤ n
from_here true i n rest is later = let same : i ≡ n = some_of i n is in omega (arith, same)
from_here false i n rest is later = later n is

from_place : {K : Type 0} (t : K → Bool) (i n : ℕ) (xs : List K) → position_from t i xs ≡ Some n → i ≤ n
from_place t i n [] is = absurd (cc)
from_place t i n (x ∷ xs) is = from_here (t x) i n (position_from t (i + 1) xs) is (λ m at. let more = from_place t (i + 1) m xs at in omega (arith, more))

before_rest : (i : ℕ) (rest : Option ℕ) → ((n : ℕ) → rest ≡ Some n → i ≤ n) → Some i ≡ earlier (Some i) rest
before_rest i None later = refl
before_rest i (Some n) later = let more = later n refl in ap Some (omega (arith, more))

after_rest : (i : ℕ) (rest : Option ℕ) → ((n : ℕ) → rest ≡ Some n → i ≤ n) → Some i ≡ earlier rest (Some i)
after_rest i None later = refl
after_rest i (Some n) later = let more = later n refl in ap Some (omega (arith, more))

one_first : (a b : Bool) (i : ℕ) (rest one other : Option ℕ) → rest ≡ earlier one other → ((n : ℕ) → one ≡ Some n → i ≤ n) → ((n : ℕ) → other ≡ Some n → i ≤ n)
    → cond (a || b) (Some i) rest ≡ earlier (cond a (Some i) one) (cond b (Some i) other)
one_first true true i rest one other is first second = ap Some (omega arith)
one_first true false i rest one other is first second = before_rest i other second
one_first false true i rest one other is first second = after_rest i one first
one_first false false i rest one other is first second = is

pub either_first : {K : Type 0} (t u : K → Bool) (i : ℕ) (xs : List K)
    → position_from (λ x. t x || u x) i xs ≡ earlier (position_from t i xs) (position_from u i xs)
either_first t u i [] = refl
either_first t u i (x ∷ xs) =
    one_first (t x) (u x) i (position_from (λ y. t y || u y) (i + 1) xs) (position_from t (i + 1) xs) (position_from u (i + 1) xs)
    (either_first t u (i + 1) xs) (λ n at. let more = from_place t (i + 1) n xs at in omega (arith, more))
    (λ n at. let more = from_place u (i + 1) n xs at in omega (arith, more))
