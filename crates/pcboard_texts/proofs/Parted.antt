-- A text parted at its first line feed.
use Rattle.std.proofs.Common.{◌≡◌, ℕ, ◌+◌, ◌≤◌, nat_lt, Bool, true, false, cond, List, [], length, take, drop, position, refl, sym, ap, arith, None, Some}
use Rattle.std.specs.List.{after_first, before_first, position_or_len}
use Rattle.std.proofs.lemmas.Bool.Decides.{nat_tests}
use Rattle.std.proofs.lemmas.List.{drop_all, take_all}

place_is : (test : Bool) (n i : ℕ) → cond test (Some n) None ≡ Some i → n ≡ i
place_is true n i is = cc
place_is false n i is = absurd (cc)

never_is : (test : Bool) (n : ℕ) → cond test (Some n) None ≡ None → test ≡ false
never_is true n is = absurd (cc)
never_is false n is = refl

beyond : (p : ℕ → Bool) (xs : List ℕ) → position p xs ≡ None → length xs ≤ position_or_len p xs
beyond p xs is =
    let passed : nat_lt (position_or_len p xs) (length xs) ≡ false = never_is (nat_lt (position_or_len p xs) (length xs)) (position_or_len p xs) is in
    grind (arith, nat_tests)

-- the elements before the first one that passes
pub front : (p : ℕ → Bool) (xs : List ℕ) (i : ℕ) → position p xs ≡ Some i → take i xs ≡ before_first p xs
front p xs i is = ap (λ (n : ℕ). take n xs) (sym (place_is (nat_lt (position_or_len p xs) (length xs)) (position_or_len p xs) i is))

pub back : (p : ℕ → Bool) (xs : List ℕ) (i : ℕ) → position p xs ≡ Some i → drop (i + 1) xs ≡ after_first p xs
back p xs i is = ap (λ (n : ℕ). drop (n + 1) xs) (sym (place_is (nat_lt (position_or_len p xs) (length xs)) (position_or_len p xs) i is))

-- all elements, if none passes
pub front_all : (p : ℕ → Bool) (xs : List ℕ) → position p xs ≡ None → xs ≡ before_first p xs
front_all p xs is = sym (take_all (position_or_len p xs) xs (beyond p xs is))

pub back_none : (p : ℕ → Bool) (xs : List ℕ) → position p xs ≡ None → [] ≡ after_first p xs
back_none p xs is = sym (drop_all (position_or_len p xs + 1) xs (omega (arith, beyond p xs is)))
