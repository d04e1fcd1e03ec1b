-- The number that `holding` gives is that of the first condition that holds.
use Rattle.std.proofs.Common.{◌≡◌, ℕ, ◌+◌, Bool, true, false, List, [], ◌∷◌, ◌++◌, length, All, Option, Some, None, cond, refl, ap, arith}
use Rattle.std.specs.Prelude.{MatchOption}
use Rattle.std.specs.List.{position_from}
use Rattle.std.proofs.lemmas.List.Elements.{All-cons}
use Rattle.board_plain.specs.declared.stop.Condition.{Condition}
use Rattle.board_plain.specs.BoardLaws.{IsFirstHolding, LeastNumberIsTold}
use Rattle.board_plain.specs.Plain.{Plain}
use Rattle.board_plain.specs.Stops.{holding, holds}

none_of_none : (t : Condition → Bool) → All (λ c. t c ≡ false) []
none_of_none t k d within = absurd (omega (arith, within))

-- the first condition that passes, in a list that is numbered from i on
record IsFirst (t : Condition → Bool) (i : ℕ) (stops : List Condition) (number : ℕ) : Type 0 where
  before : List Condition
  first : Condition
  after : List Condition
  parts : stops ≡ before ++ first ∷ after
  place : number ≡ length before + i
  none_before : All (λ c. t c ≡ false) before
  passes : t first ≡ true

abbrev FirstIsTold : (Condition → Bool) → ℕ → List Condition → Option ℕ → Type 0
FirstIsTold t i stops told = MatchOption told (All (λ c. t c ≡ false) stops) (IsFirst t i stops)

later : (t : Condition → Bool) (i : ℕ) (x : Condition) (xs : List Condition) (told : Option ℕ)
    → t x ≡ false → FirstIsTold t (i + 1) xs told → FirstIsTold t i (x ∷ xs) told
later t i x xs None fails none = All-cons (λ c. t c ≡ false) x xs fails none
later t i x xs (Some number) fails is = record {
  before = x ∷ is.before;
  first = is.first;
  after = is.after;
  parts = ap (λ ys. x ∷ ys) is.parts;
  place = let p = is.place in omega (arith, p);
  none_before = All-cons (λ c. t c ≡ false) x is.before fails is.none_before;
  passes = is.passes;
}

one_more : (t : Condition → Bool) (i : ℕ) (x : Condition) (xs : List Condition) (told : Option ℕ) (passes : Bool)
    → t x ≡ passes → FirstIsTold t (i + 1) xs told → FirstIsTold t i (x ∷ xs) (cond passes (Some i) told)
one_more t i x xs told true e rest = record {
  before = [];
  first = x;
  after = xs;
  parts = refl;
  place = omega arith;
  none_before = none_of_none t;
  passes = e;
}
one_more t i x xs told false e rest = later t i x xs told e rest

first_is_told : (t : Condition → Bool) (i : ℕ) (stops : List Condition) → FirstIsTold t i stops (position_from t i stops)
first_is_told t i [] = none_of_none t
first_is_told t i (x ∷ xs) = one_more t i x xs (position_from t (i + 1) xs) (t x) refl (first_is_told t (i + 1) xs)

from_one : (stops : List Condition) (s : Plain) (told : Option ℕ) → FirstIsTold (λ condition. holds condition s) 1 stops told
    → MatchOption told (All (λ condition. holds condition s ≡ false) stops) (IsFirstHolding stops s)
from_one stops s None none = none
from_one stops s (Some number) is = record {
  before = is.before;
  first = is.first;
  after = is.after;
  parts = is.parts;
  place = is.place;
  none_before = is.none_before;
  holds = is.passes;
}

pub least_number_is_told : LeastNumberIsTold
unfolding holding
least_number_is_told stops s =
    from_one stops s (position_from (λ condition. holds condition s) 1 stops) (first_is_told (λ (condition : Condition). holds condition s) 1 stops)
