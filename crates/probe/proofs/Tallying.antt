-- Tallies of what began: one more beginning, and their lines.
use Rattle.std.proofs.Common.{◌≡◌, ℕ, zero, suc, ◌+◌, ◌-◌, ◌==◌, if◌then◌else◌, Bool, true, false, List}
use Rattle.std.proofs.Common.{[], ◌∷◌, ◌++◌, Option, None, Some, refl, sym, ap, ◌∙◌, subst, arith}
use Rattle.std.proofs.lemmas.Bool.Decides.{nat_tests}
use Rattle.std.proofs.lemmas.List.Sums.{sum_by-cons, sum_by_push}
use Rattle.std.specs.Prelude.{cond, count_by, IfOk, IfSome, OnOk, Result, Ok, Err}
use Rattle.std.specs.BTreeMap.{BTreeMap, get}
use Rattle.std.specs.Option.{option_to_list}
use Rattle.std.specs.Ordering.{nat_cmp}
use Rattle.board.specs.declared.one_turn.Begun.{Begun}
use Rattle.probe.specs.declared.counts.Counts.{Counts}
use Rattle.probe.specs.declared.counts.Tally.{Tally}
use Rattle.probe.specs.Counts.{clocks_from, is_number, next_clock, number_of}
use Rattle.probe.specs.Tallied.{one_more, tallied_to, tally_at, tally_of, AreTallies, HasCounted}

-- one more beginning

pub count_first : (is : Begun → Bool) (b : Begun) (bs : List Begun) → count_by is (b ∷ bs) ≡ (if is b then 1 else 0) + count_by is bs
count_first is b bs = sum_by-cons (λ x. cond (is x) 1 0) b bs

count_more : (is : Begun → Bool) (bs : List Begun) (b : Begun) → count_by is (bs ++ b ∷ []) ≡ count_by is bs + (if is b then 1 else 0)
count_more is bs b = sum_by_push (λ x. cond (is x) 1 0) bs b

next_more : (bs : List Begun) (b : Begun) (end : ℕ) → next_clock (bs ++ b ∷ []) end ≡ next_clock bs b.clock
next_more [] b end = refl
next_more (a ∷ bs) b end = refl

clocks_more : (is : Begun → Bool) (bs : List Begun) (b : Begun) (end : ℕ)
    → clocks_from is (bs ++ b ∷ []) end ≡ clocks_from is bs b.clock + (if is b then end - b.clock else 0)
clocks_more is [] b end = omega arith
clocks_more is (a ∷ bs) b end =
    let rest = clocks_more is bs b end in
    let first : (if is a then next_clock (bs ++ b ∷ []) end - a.clock else 0) ≡ (if is a then next_clock bs b.clock - a.clock else 0) =
    ap (λ n. if is a then n - a.clock else 0) (next_more bs b end) in
    omega (arith, rest, first)

-- if none began, no clocks passed from them

none_from : (yes : Bool) (n p q : ℕ) → (if yes then 1 else 0) + n ≡ 0 → (n ≡ 0 → q ≡ 0) → (if yes then p else 0) + q ≡ 0
none_from true n p q none rest = absurd (omega (arith, none))
none_from false n p q none rest = let no = rest (omega (arith, none)) in omega (arith, no)

pub no_clocks : (is : Begun → Bool) (bs : List Begun) (end : ℕ) → count_by is bs ≡ 0 → clocks_from is bs end ≡ 0
no_clocks is [] end none = refl
no_clocks is (a ∷ bs) end none = none_from (is a) (count_by is bs) _ _ (sym (count_first is a bs) ∙ none) (no_clocks is bs end)

-- one more beginning makes a tally go on
goes_on : (count clocks more : ℕ) → (count ≡ 0 → clocks ≡ 0) → tally_of (suc count) (clocks + more) ≡ Some (one_more (tally_of count clocks) more)
goes_on zero clocks more none = ap (λ n. Some (record { count = 1; clocks = n })) (let no = none refl in omega (arith, no))
goes_on (suc n) clocks more none = ap (λ k. Some (record { count = k; clocks = clocks + more })) (omega arith)

tally_more : (bs : List Begun) (b : Begun) (end k : ℕ) (yes : Bool) → is_number k b ≡ yes
    → tally_at (bs ++ b ∷ []) end k ≡ (if yes then Some (one_more (tally_at bs b.clock k) (end - b.clock)) else tally_at bs b.clock k)
tally_more bs b end k true is =
    let count : count_by (is_number k) (bs ++ b ∷ []) ≡ suc (count_by (is_number k) bs) =
    count_more (is_number k) bs b ∙ ap (λ y. count_by (is_number k) bs + (if y then 1 else 0)) is ∙ omega arith in
    let clocks : clocks_from (is_number k) (bs ++ b ∷ []) end ≡ clocks_from (is_number k) bs b.clock + (end - b.clock) =
    clocks_more (is_number k) bs b end ∙ ap (λ y. clocks_from (is_number k) bs b.clock + (if y then end - b.clock else 0)) is in
    ap (λ n. tally_of n (clocks_from (is_number k) (bs ++ b ∷ []) end)) count
    ∙ ap (tally_of (suc (count_by (is_number k) bs))) clocks
    ∙ goes_on (count_by (is_number k) bs) (clocks_from (is_number k) bs b.clock) (end - b.clock) (no_clocks (is_number k) bs b.clock)
tally_more bs b end k false is =
    let count : count_by (is_number k) (bs ++ b ∷ []) ≡ count_by (is_number k) bs =
    count_more (is_number k) bs b ∙ ap (λ y. count_by (is_number k) bs + (if y then 1 else 0)) is ∙ omega arith in
    let clocks : clocks_from (is_number k) (bs ++ b ∷ []) end ≡ clocks_from (is_number k) bs b.clock =
    clocks_more (is_number k) bs b end ∙ ap (λ y. clocks_from (is_number k) bs b.clock + (if y then end - b.clock else 0)) is ∙ omega arith in
    ap (λ n. tally_of n (clocks_from (is_number k) (bs ++ b ∷ []) end)) count
    ∙ ap (tally_of (count_by (is_number k) bs)) clocks

-- the tallies after one more beginning
add_numbered : (bs : List Begun) (b : Begun) (n end : ℕ) (old new : BTreeMap ℕ Tally)
    → n ≡ number_of b → AreTallies bs b.clock old
    → ((k : ℕ) → get nat_cmp new k ≡ (if k == n then Some (one_more (get nat_cmp old n) (end - b.clock)) else get nat_cmp old k))
    → AreTallies (bs ++ b ∷ []) end new
add_numbered bs b n end old new is all added k = numbered_by (k == n) refl
  where
    here : (same : Bool) → (k == n) ≡ same → is_number k b ≡ same
    here same at = ap (λ m. m == k) (sym is) ∙ (let turned : (n == k) ≡ (k == n) = grind (arith, nat_tests) in turned ∙ at)

    numbered_by : (same : Bool) → (k == n) ≡ same → get nat_cmp new k ≡ tally_at (bs ++ b ∷ []) end k
    numbered_by true at =
        let one : k ≡ n = grind (arith, nat_tests, at) in
        added k ∙ ap (λ y. if y then Some (one_more (get nat_cmp old n) (end - b.clock)) else get nat_cmp old k) at
        ∙ ap (λ t. Some (one_more t (end - b.clock))) (ap (get nat_cmp old) (sym one) ∙ all k)
        ∙ sym (tally_more bs b end k true (here true at))
    numbered_by false at =
        added k ∙ ap (λ y. if y then Some (one_more (get nat_cmp old n) (end - b.clock)) else get nat_cmp old k) at
        ∙ all k
        ∙ sym (tally_more bs b end k false (here false at))

pub if_ok : {A B E : Type 0} (result : Result Unit E) → OnOk result A → (A → B) → OnOk result B
if_ok (Ok x) a f = f a
if_ok (Err e) a f = a

-- the latest is tallied
pub tallied_latest : (all : List Begun) (old : Counts) (b : Begun) (n end : ℕ) (new : BTreeMap ℕ Tally)
    → old.latest ≡ Some b → n ≡ number_of b
    → ((k : ℕ) → get nat_cmp new k ≡ (if k == n then Some (one_more (get nat_cmp old.tallies n) (end - b.clock)) else get nat_cmp old.tallies k))
    → HasCounted all old → AreTallies all end new
tallied_latest all old b n end new latest is added noted =
    subst (λ xs. AreTallies xs end new) (sym (noted.all ∙ ap (λ l. noted.earlier ++ option_to_list l) latest))
    (add_numbered noted.earlier b n end old.tallies new is
    (subst (λ l. AreTallies noted.earlier (tallied_to l) old.tallies) latest noted.tallied) added)

pub if_text : {A E : Type 0} {P Q : A → Type 0} (result : Result A E) → IfOk result P → ((x : A) → P x → Q x) → IfOk result Q
if_text (Ok x) p f = f x p
if_text (Err e) p f = p

-- the clocks before the first beginning

pub first_stays : (all : List Begun) (old : Counts) (b : Begun) (end : ℕ) → old.latest ≡ Some b → HasCounted all old → old.first ≡ next_clock all end
first_stays all old b end latest noted =
    let first : old.first ≡ next_clock noted.earlier b.clock =
    subst (λ (l : Option Begun). IfSome l (λ b. old.first ≡ next_clock noted.earlier b.clock)) latest noted.first in
    let whole : noted.earlier ++ b ∷ [] ≡ all = sym (noted.all ∙ ap (λ l. noted.earlier ++ option_to_list l) latest) in
    first ∙ sym (next_more noted.earlier b end) ∙ ap (λ bs. next_clock bs end) whole

pub first_comes : (all : List Begun) (old : Counts) (end : ℕ) → old.latest ≡ None → HasCounted all old → end ≡ next_clock all end
first_comes all old end latest noted =
    let none : all ≡ [] = noted.all ∙ (λ i. noted.none latest i ++ option_to_list (latest i)) in
    sym (ap (λ bs. next_clock bs end) none)
