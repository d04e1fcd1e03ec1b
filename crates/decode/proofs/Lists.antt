-- What `find` gives if only one element passes the test, and pieces of lists.
use Rattle.std.proofs.Common.{◌≡◌, ℕ, zero, suc, ◌<◌, Bool, true, false, List, [], ◌∷◌, length, find, Some, Contains, get_or, refl, ap, subst, arith, cond}

later : {X : Type 0} (y : X) (ys : List X) (z : X) → Contains ys z → Contains (y ∷ ys) z
later y ys z w = (suc w.0, omega (arith, w.1), w.2)

in_rest : {X : Type 0} (p : X → Bool) (y : X) (ys : List X) (x : X) (i : ℕ)
    → i < length (y ∷ ys) → get_or (y ∷ ys) i x ≡ x → p x ≡ true → p y ≡ false → Contains ys x
in_rest p y ys x zero within is passes fails = let e : p y ≡ p x = ap p is in absurd (cc)
in_rest p y ys x (suc i) within is passes fails = (i, omega arith, is)

pub find_only : {X : Type 0} (p : X → Bool) (xs : List X) (x : X)
    → Contains xs x → p x ≡ true → ((y : X) → Contains xs y → p y ≡ true → y ≡ x) → find p xs ≡ Some x
find_only p [] x within passes only = absurd (omega (arith, within.1))
find_only p (y ∷ ys) x within passes only =
    elim (p y) as (λ b. p y ≡ b → cond b (Some y) (find p ys) ≡ Some x) [
      | true ↦ λ e. ap Some (only y (zero, omega arith, refl) e)
      | false ↦ λ e. find_only p ys x (in_rest p y ys x within.0 within.1 within.2 passes e) passes (λ z w q. only z (later y ys z w) q)
    ] refl

-- what `find` finds passes the test and stands in the list
pub find_passes : {X : Type 0} (p : X → Bool) (xs : List X) (x : X) → find p xs ≡ Some x → p x ≡ true
find_passes p [] x e = absurd (cc)
find_passes p (y ∷ ys) x e =
    elim (p y) as (λ b. p y ≡ b → cond b (Some y) (find p ys) ≡ Some x → p x ≡ true) [
      | true ↦ λ is found. let same : y ≡ x = cc in subst (λ z. p z ≡ true) same is
      | false ↦ λ is found. find_passes p ys x found
    ] refl e

pub find_within : {X : Type 0} (p : X → Bool) (xs : List X) (x : X) → find p xs ≡ Some x → Contains xs x
find_within p [] x e = absurd (cc)
find_within p (y ∷ ys) x e =
    elim (p y) as (λ b. p y ≡ b → cond b (Some y) (find p ys) ≡ Some x → Contains (y ∷ ys) x) [
      | true ↦ λ is found. let same : y ≡ x = cc in (zero, omega arith, same)
      | false ↦ λ is found. let w = find_within p ys x found in (suc w.0, omega (arith, w.1), w.2)
    ] refl e
