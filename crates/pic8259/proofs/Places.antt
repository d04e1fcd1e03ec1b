-- The place of a list's first element that passes a test, and what a count says of it.
use Rattle.std.proofs.Common.{◌≡◌, ℕ, ◌+◌, ◌<◌, ◌≤◌, Bool, true, false, not, ◌||◌, cond, List, [], ◌∷◌, ◌++◌, length, get_or}
use Rattle.std.proofs.Common.{take, find, count_by, All, None, Some, refl, sym, ap, ◌∙◌, arith, append-nil, inl, inr}
use Rattle.std.specs.List.{list_any, before_first}
use Rattle.std.proofs.lemmas.Bool.{cases_Bool}
use Rattle.std.proofs.Math.Bool.{or-true}
use Rattle.std.proofs.lemmas.List.Elements.{All-nil, All-cons, All-head, All-tail, All-from_get_or}
use Rattle.std.proofs.lemmas.List.Folds.{list_any-append, list_any_at}
use Rattle.std.proofs.lemmas.List.Sums.{sum_by-append, sum_by-cons, sum_by_more_le, take_while-cons}

-- an element that passes, all before it failing
pub record FoundAt {X : Type 0} (p : X → Bool) (xs : List X) (x : X) : Type 0 where
  pub before : List X
  pub after : List X
  pub placed : xs ≡ before ++ x ∷ after
  pub passes : p x ≡ true
  pub none_before : All (λ y. p y ≡ false) before

found_step : {X : Type 0} (p : X → Bool) (y : X) (ys : List X) (x : X) (b : Bool)
    → p y ≡ b → cond b (Some y) (find p ys) ≡ Some x → (find p ys ≡ Some x → FoundAt p ys x) → FoundAt p (y ∷ ys) x
found_step p y ys x true passes is rest =
    let same : y ≡ x = cc in
    record { before = []; after = ys; placed = ap (λ z. z ∷ ys) same; passes = ap p (sym same) ∙ passes; none_before = All-nil (λ z. p z ≡ false) }
found_step p y ys x false fails is rest =
    let more : FoundAt p ys x = rest is in
    record {
      before = y ∷ more.before;
      after = more.after;
      placed = ap (λ zs. y ∷ zs) more.placed;
      passes = more.passes;
      none_before = All-cons (λ z. p z ≡ false) y more.before fails more.none_before;
    }

pub found_at : {X : Type 0} (p : X → Bool) (xs : List X) (x : X) → find p xs ≡ Some x → FoundAt p xs x
found_at p [] x is = absurd (cc)
found_at p (y ∷ ys) x is = found_step p y ys x (p y) refl is (found_at p ys x)

none_step : {X : Type 0} (p : X → Bool) (y : X) (ys : List X) (b : Bool)
    → p y ≡ b → cond b (Some y) (find p ys) ≡ None → (find p ys ≡ None → All (λ x. p x ≡ false) ys) → All (λ x. p x ≡ false) (y ∷ ys)
none_step p y ys true passes is rest = absurd (cc)
none_step p y ys false fails is rest = All-cons (λ z. p z ≡ false) y ys fails (rest is)

pub none_found : {X : Type 0} (p : X → Bool) (xs : List X) → find p xs ≡ None → All (λ x. p x ≡ false) xs
none_found p [] is = All-nil (λ z. p z ≡ false)
none_found p (y ∷ ys) is = none_step p y ys (p y) refl is (none_found p ys)

-- what stands before the first that passes, past some that fail
pub before_first_past : {X : Type 0} (p : X → Bool) (xs ys : List X) → All (λ x. p x ≡ false) xs → before_first p (xs ++ ys) ≡ xs ++ before_first p ys
before_first_past p [] ys fail = refl
before_first_past p (x ∷ xs) ys fail =
    take_while-cons (λ y. not (p y)) x (xs ++ ys)
    ∙ ap (λ b. cond (not b) (x ∷ before_first p (xs ++ ys)) []) (All-head (λ y. p y ≡ false) x xs fail)
    ∙ ap (λ zs. x ∷ zs) (before_first_past p xs ys (All-tail (λ y. p y ≡ false) x xs fail))

pub before_first_here : {X : Type 0} (p : X → Bool) (xs : List X) (x : X) (ys : List X)
    → All (λ y. p y ≡ false) xs → p x ≡ true → before_first p (xs ++ x ∷ ys) ≡ xs
before_first_here p xs x ys fail passes =
    before_first_past p xs (x ∷ ys) fail
    ∙ ap (λ zs. xs ++ zs) (take_while-cons (λ y. not (p y)) x ys ∙ ap (λ b. cond (not b) (x ∷ before_first p ys) []) passes)
    ∙ append-nil xs

-- one element that passes is enough for `list_any`
pub any_here : {X : Type 0} (p : X → Bool) (xs : List X) (x : X) (ys : List X) → p x ≡ true → list_any p (xs ++ x ∷ ys) ≡ true
any_here p xs x ys passes =
    list_any-append p xs (x ∷ ys) ∙ ap (λ b. list_any p xs || (b || list_any p ys)) passes ∙ or-true (list_any p xs)

-- no element passes if `list_any` fails
pub none_where_any_fails : {X : Type 0} (p : X → Bool) (xs : List X) (d : X) → list_any p xs ≡ false → All (λ x. p x ≡ false) xs
none_where_any_fails p xs d none =
    All-from_get_or (λ x. p x ≡ false) xs d
    (λ i within. elim (cases_Bool (p (get_or xs i d))) [
      | inl passes ↦ let some : list_any p xs ≡ true = list_any_at p xs i d within passes in cc
      | inr fails ↦ fails
    ])

pub count_at_place : {X : Type 0} (p : X → Bool) (before : List X) (x : X) (after : List X)
    → count_by p (before ++ x ∷ after) ≡ count_by p before + (cond (p x) 1 0 + count_by p after)
count_at_place p before x after =
    sum_by-append (λ y. cond (p y) 1 0) before (x ∷ after) ∙ ap (λ n. count_by p before + n) (sum_by-cons (λ y. cond (p y) 1 0) x after)

-- an element that passes is counted
pub counted_here : {X : Type 0} (p : X → Bool) (xs : List X) (i : ℕ) (d : X) → i < length xs → p (get_or xs i d) ≡ true → 0 < count_by p xs
counted_here p xs i d within passes =
    let more : count_by p (take i xs) + cond (p (get_or xs i d)) 1 0 ≤ count_by p xs = sum_by_more_le (λ x. cond (p x) 1 0) xs i d within in
    let one : cond {A = ℕ} (p (get_or xs i d)) 1 0 ≡ 1 = ap (λ b. cond b 1 0) passes in
    omega arith

-- no element passes if the count is 0
pub none_counted : {X : Type 0} (p : X → Bool) (xs : List X) (d : X) → count_by p xs ≡ 0 → All (λ x. p x ≡ false) xs
none_counted p xs d none =
    All-from_get_or (λ x. p x ≡ false) xs d
    (λ i within. elim (cases_Bool (p (get_or xs i d))) [
      | inl passes ↦ let some : 0 < count_by p xs = counted_here p xs i d within passes in absurd (omega arith)
      | inr fails ↦ fails
    ])

pub all_right : {X : Type 0} (P : X → Type 0) (xs ys : List X) → All P (xs ++ ys) → All P ys
all_right P [] ys all = all
all_right P (x ∷ xs) ys all = all_right P xs ys (All-tail P x (xs ++ ys) all)
