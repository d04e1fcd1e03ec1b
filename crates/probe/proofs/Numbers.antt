-- The numbers of what began, each once and rising, are the keys of the tallies.
use Rattle.std.proofs.Common.{◌≡◌, ℕ, zero, suc, ◌+◌, ◌==◌, if◌then◌else◌, Bool, true, false, List}
use Rattle.std.proofs.Common.{[], ◌∷◌, map, None, Some, refl, sym, ap, ◌∙◌, subst, arith}
use Rattle.std.proofs.lemmas.Bool.Decides.{nat_tests}
use Rattle.std.proofs.lemmas.List.Folds.{flat_map-map}
use Rattle.std.specs.Prelude.{◌||◌, cond, count_by, nat_lt}
use Rattle.std.specs.BTreeMap.{BTreeMap, is_at, IsOrdered}
use Rattle.std.specs.BTreeSet.{insert_key}
use Rattle.std.specs.List.{flat_map, list_any, AllByRecursion}
use Rattle.std.specs.List.Sorted.{IsStrictlySortedBy}
use Rattle.std.specs.Map.{keys_of, lookup}
use Rattle.std.specs.Ordering.{is_eq, match_ordering, nat_cmp}
use Rattle.std.specs.declared.cmp.Ordering.{Ordering}
use Rattle.std.specs.declared.cmp.Ordering.TheVariants.{Less, Equal, Greater}
use Rattle.board.specs.declared.one_turn.Begun.{Begun}
use Rattle.probe.specs.declared.counts.Tally.{Tally}
use Rattle.probe.specs.Counts.{clocks_from, is_number, lines_of, number_of, numbers_of}
use Rattle.probe.specs.Tallied.{tally_line, tally_of, AreTallies}
use Rattle.probe.proofs.Tallying.{count_first}

-- membership

abbrev pub is_in : ℕ → List ℕ → Bool
is_in q ks = list_any (is_at (nat_cmp q)) ks

same_number : (q k : ℕ) → is_eq (nat_cmp q k) ≡ (q == k)
same_number q k = grind (arith, nat_tests)

pub equal_numbers : (q k : ℕ) → nat_cmp q k ≡ Equal → q ≡ k
equal_numbers q k is = grind (arith, nat_tests, is)

or_twice : (a b c : Bool) → (a || (b || c)) ≡ (b || (a || c))
or_twice true true c = refl
or_twice true false c = refl
or_twice false true c = refl
or_twice false false c = refl

or_again : (a c : Bool) → (a || c) ≡ (a || (a || c))
or_again true c = refl
or_again false c = refl

in_put : (q k : ℕ) (ks : List ℕ) → is_in q (insert_key nat_cmp ks k) ≡ ((q == k) || is_in q ks)
in_put q k [] = ap (λ b. b || false) (same_number q k)
in_put q k (x ∷ ks) = by (nat_cmp k x) refl (in_put q k ks)
  where
    by : (o : Ordering) → nat_cmp k x ≡ o → is_in q (insert_key nat_cmp ks k) ≡ ((q == k) || is_in q ks)
        → is_in q (match_ordering o (k ∷ x ∷ ks) (x ∷ ks) (x ∷ insert_key nat_cmp ks k)) ≡ ((q == k) || is_in q (x ∷ ks))
    by Less is rest = ap (λ b. b || is_in q (x ∷ ks)) (same_number q k)
    by Equal is rest =
        or_again (is_eq (nat_cmp q x)) (is_in q ks)
        ∙ ap (λ b. b || is_in q (x ∷ ks)) (ap (λ n. is_eq (nat_cmp q n)) (sym (equal_numbers k x is)) ∙ same_number q k)
    by Greater is rest = ap (λ b. is_eq (nat_cmp q x) || b) rest ∙ or_twice (is_eq (nat_cmp q x)) (q == k) (is_in q ks)

-- a number is there if something with it began

in_more : (q k c : ℕ) (here : Bool) → (k == q) ≡ here → ((q == k) || nat_lt 0 c) ≡ nat_lt 0 ((if here then 1 else 0) + c)
in_more q k c true is =
    let turned : (q == k) ≡ true = grind (arith, nat_tests, is) in
    ap (λ b. b || nat_lt 0 c) turned ∙ (let some : nat_lt 0 (1 + c) ≡ true = grind (arith, nat_tests) in sym some)
in_more q k c false is = let turned : (q == k) ≡ false = grind (arith, nat_tests, is) in ap (λ b. b || nat_lt 0 c) turned ∙ ap (nat_lt 0) (omega arith)

pub in_numbers : (bs : List Begun) (q : ℕ) → is_in q (numbers_of bs) ≡ nat_lt 0 (count_by (is_number q) bs)
in_numbers [] q = refl
in_numbers (b ∷ bs) q =
    let k = number_of b in
    in_put q k (numbers_of bs) ∙ ap (λ x. (q == k) || x) (in_numbers bs q) ∙ in_more q k (count_by (is_number q) bs) (k == q) refl
    ∙ ap (nat_lt 0) (sym (count_first (is_number q) b bs))

-- the numbers rise

abbrev pub AreAbove : ℕ → List ℕ → Type 0
AreAbove x ks = AllByRecursion (λ y. nat_cmp x y ≡ Less) ks

less_then : (k x y : ℕ) → nat_cmp k x ≡ Less → nat_cmp x y ≡ Less → nat_cmp k y ≡ Less
less_then k x y first second = grind (arith, nat_tests, first, second)

pub less_turned : (k x : ℕ) → nat_cmp k x ≡ Greater → nat_cmp x k ≡ Less
less_turned k x is = grind (arith, nat_tests, is)

pub above_less : (k x : ℕ) (ks : List ℕ) → nat_cmp k x ≡ Less → AreAbove x ks → AreAbove k ks
above_less k x [] less above = tt
above_less k x (y ∷ ks) less above = (less_then k x y less above.0, above_less k x ks less above.1)

above_put : (x k : ℕ) (ks : List ℕ) → nat_cmp x k ≡ Less → AreAbove x ks → AreAbove x (insert_key nat_cmp ks k)
above_put x k [] less above = (less, tt)
above_put x k (y ∷ ks) less above = by (nat_cmp k y) (above_put x k ks less above.1)
  where
    by : (o : Ordering) → AreAbove x (insert_key nat_cmp ks k) → AreAbove x (match_ordering o (k ∷ y ∷ ks) (y ∷ ks) (y ∷ insert_key nat_cmp ks k))
    by Less rest = (less, above)
    by Equal rest = above
    by Greater rest = (above.0, rest)

put_rises : (k : ℕ) (ks : List ℕ) → IsStrictlySortedBy nat_cmp ks → IsStrictlySortedBy nat_cmp (insert_key nat_cmp ks k)
unfolding IsStrictlySortedBy
put_rises k [] sorted = (tt, tt)
put_rises k (x ∷ ks) sorted = by (nat_cmp k x) refl (put_rises k ks sorted.1)
  where
    by : (o : Ordering) → nat_cmp k x ≡ o → IsStrictlySortedBy nat_cmp (insert_key nat_cmp ks k)
        → IsStrictlySortedBy nat_cmp (match_ordering o (k ∷ x ∷ ks) (x ∷ ks) (x ∷ insert_key nat_cmp ks k))
    by Less is rest = ((is, above_less k x ks is sorted.0), sorted)
    by Equal is rest = sorted
    by Greater is rest = (above_put x k ks (less_turned k x is) sorted.0, rest)

pub numbers_rise : (bs : List Begun) → IsStrictlySortedBy nat_cmp (numbers_of bs)
unfolding IsStrictlySortedBy
numbers_rise [] = tt
numbers_rise (b ∷ bs) = put_rises (number_of b) (numbers_of bs) (numbers_rise bs)

-- tallies by their numbers

abbrev with_tally : (ℕ → Tally) → ℕ → ℕ × Tally
with_tally f k = (k, f k)

keys_with : (f : ℕ → Tally) (ks : List ℕ) → keys_of (map (with_tally f) ks) ≡ ks
keys_with f [] = refl
keys_with f (k ∷ ks) = ap (λ xs. k ∷ xs) (keys_with f ks)

lookup_with : (f : ℕ → Tally) (q : ℕ) (ks : List ℕ) → lookup (is_at (nat_cmp q)) (map (with_tally f) ks) ≡ (if is_in q ks then Some (f q) else None)
lookup_with f q [] = refl
lookup_with f q (k ∷ ks) = by (is_at (nat_cmp q) k) refl (lookup_with f q ks)
  where
    by : (here : Bool) → is_at (nat_cmp q) k ≡ here → lookup (is_at (nat_cmp q)) (map (with_tally f) ks) ≡ (if is_in q ks then Some (f q) else None)
        → cond here (Some (f k)) (lookup (is_at (nat_cmp q)) (map (with_tally f) ks)) ≡ (if here || is_in q ks then Some (f q) else None)
    by true is rest = let same : k ≡ q = grind (arith, nat_tests, is) in ap (λ n. Some (f n)) same
    by false is rest = rest

some_tally : (count clocks : ℕ) → (if nat_lt 0 count then Some (record { count = count; clocks = clocks }) else None) ≡ tally_of count clocks
some_tally zero clocks = refl
some_tally (suc n) clocks =
    let some : nat_lt 0 (suc n) ≡ true = grind (arith, nat_tests) in ap (λ b. if b then Some (record { count = suc n; clocks = clocks }) else None) some

abbrev tally_with : List Begun → ℕ → ℕ → Tally
tally_with bs end k = record { count = count_by (is_number k) bs; clocks = clocks_from (is_number k) bs end }

-- rising entries with the same tally at each number are the same

none_at : (q : ℕ) (es : List (ℕ × Tally)) → AreAbove q (keys_of es) → lookup (is_at (nat_cmp q)) es ≡ None
none_at q [] above = refl
none_at q (e ∷ es) above = ap (λ o. cond (is_eq o) (Some e.1) (lookup (is_at (nat_cmp q)) es)) above.0 ∙ none_at q es above.1

none_before : (q : ℕ) (e : ℕ × Tally) (es : List (ℕ × Tally)) → IsStrictlySortedBy nat_cmp (keys_of (e ∷ es)) → nat_cmp q e.0 ≡ Less
    → lookup (is_at (nat_cmp q)) (e ∷ es) ≡ None
unfolding IsStrictlySortedBy
none_before q e es sorted less = none_at q (e ∷ es) (less, above_less q e.0 (keys_of es) less sorted.0)

at_head : (e : ℕ × Tally) (es : List (ℕ × Tally)) → lookup (is_at (nat_cmp e.0)) (e ∷ es) ≡ Some e.1
at_head e es = let here : is_at (nat_cmp e.0) e.0 ≡ true = grind (arith, nat_tests) in ap (λ b. cond b (Some e.1) (lookup (is_at (nat_cmp e.0)) es)) here

never : {X : Type 0} (x : X) → None ≡ Some x → ⊥
never x is = cc

abbrev HaveSame : List (ℕ × Tally) → List (ℕ × Tally) → Type 0
HaveSame xs ys = (q : ℕ) → lookup (is_at (nat_cmp q)) xs ≡ lookup (is_at (nat_cmp q)) ys

same_rest : (q : ℕ) (x y : ℕ × Tally) (xs ys : List (ℕ × Tally)) (here : Bool) → is_at (nat_cmp q) x.0 ≡ here → x.0 ≡ y.0
    → AreAbove x.0 (keys_of xs) → AreAbove y.0 (keys_of ys) → lookup (is_at (nat_cmp q)) (x ∷ xs) ≡ lookup (is_at (nat_cmp q)) (y ∷ ys)
    → lookup (is_at (nat_cmp q)) xs ≡ lookup (is_at (nat_cmp q)) ys
same_rest q x y xs ys true is one first second same =
    let at : x.0 ≡ q = grind (arith, nat_tests, is) in
    none_at q xs (subst (λ n. AreAbove n (keys_of xs)) at first) ∙ sym (none_at q ys (subst (λ n. AreAbove n (keys_of ys)) (sym one ∙ at) second))
same_rest q x y xs ys false is one first second same =
    sym (ap (λ b. cond b (Some x.1) (lookup (is_at (nat_cmp q)) xs)) is) ∙ same
    ∙ ap (λ b. cond b (Some y.1) (lookup (is_at (nat_cmp q)) ys)) (ap (λ n. is_at (nat_cmp q) n) (sym one) ∙ is)

same_entries : (xs ys : List (ℕ × Tally)) → IsStrictlySortedBy nat_cmp (keys_of xs) → IsStrictlySortedBy nat_cmp (keys_of ys) → HaveSame xs ys → xs ≡ ys
unfolding IsStrictlySortedBy
same_entries [] [] first second same = refl
same_entries [] (y ∷ ys) first second same = absurd (never y.1 (same y.0 ∙ at_head y ys))
same_entries (x ∷ xs) [] first second same = absurd (never x.1 (sym (same x.0) ∙ at_head x xs))
same_entries (x ∷ xs) (y ∷ ys) first second same = by (nat_cmp x.0 y.0) refl (same_entries xs ys first.1 second.1)
  where
    by : (o : Ordering) → nat_cmp x.0 y.0 ≡ o → (HaveSame xs ys → xs ≡ ys) → x ∷ xs ≡ y ∷ ys
    by Less is rest = absurd (never x.1 (sym (none_before x.0 y ys second is) ∙ sym (same x.0) ∙ at_head x xs))
    by Greater is rest = absurd (never y.1 (sym (none_before y.0 x xs first (less_turned x.0 y.0 is)) ∙ same y.0 ∙ at_head y ys))
    by Equal is rest =
        let one : x.0 ≡ y.0 = equal_numbers x.0 y.0 is in
        let tally : Some x.1 ≡ Some y.1 = sym (at_head x xs) ∙ same x.0 ∙ ap (λ n. lookup (is_at (nat_cmp n)) (y ∷ ys)) one ∙ at_head y ys in
        let told : x.1 ≡ y.1 = cc in
        (λ k. (one k, told k) ∷ rest (λ q. same_rest q x y xs ys (is_at (nat_cmp q) x.0) refl one first.0 second.0 (same q)) k)

entries_are : (bs : List Begun) (end : ℕ) (m : BTreeMap ℕ Tally) → AreTallies bs end m → IsOrdered nat_cmp m
    → m.entries ≡ map (with_tally (tally_with bs end)) (numbers_of bs)
entries_are bs end m all ordered =
    let f : ℕ → Tally = tally_with bs end in
    let ks : List ℕ = numbers_of bs in
    same_entries m.entries (map (with_tally f) ks) ordered
    (subst (IsStrictlySortedBy nat_cmp) (sym (keys_with f ks)) (numbers_rise bs))
    (λ q. all q ∙ sym (some_tally (count_by (is_number q) bs) (clocks_from (is_number q) bs end))
    ∙ ap (λ b. if b then Some (f q) else None) (sym (in_numbers bs q)) ∙ sym (lookup_with f q ks))

-- a line for each
pub lines_are : (bs : List Begun) (end : ℕ) (m : BTreeMap ℕ Tally) → AreTallies bs end m → IsOrdered nat_cmp m
    → flat_map tally_line m.entries ≡ lines_of bs end
lines_are bs end m all ordered =
    ap (flat_map tally_line) (entries_are bs end m all ordered) ∙ flat_map-map tally_line (with_tally (tally_with bs end)) (numbers_of bs)
