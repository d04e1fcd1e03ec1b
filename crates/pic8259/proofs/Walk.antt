-- A walk along a list in search of its first element that passes a test.
use Rattle.pic8259.specs.AskingLevels.{is_pending}
use Rattle.std.proofs.Common.{◌≡◌, ℕ, ◌+◌, ◌%◌, ◌<◌, Bool, true, false, cond, All, List, [], ◌∷◌, map, length, take}
use Rattle.std.proofs.Common.{drop, get_or, find, None, Some, refl, not, ◌&&◌, ◌||◌, sym, ◌∙◌, ap, inl, inr, arith}
use Rattle.std.specs.Option.{option_or}
use Rattle.std.specs.List.{list_any}
use Rattle.std.proofs.lemmas.Bool.{cases_lt}
use Rattle.std.proofs.lemmas.List.{get_or_past, take_more, take-append-drop}
use Rattle.std.proofs.lemmas.List.Folds.{find-append, list_any_more}
use Rattle.std.proofs.lemmas.List.Elements.{All-head, All-tail, All-map, All-from_get_or}
use Rattle.pic8259.specs.Levels.{all_levels, no_levels, contains, order_with_lowest, up_to}
use Rattle.pic8259.specs.Pic.{PicState, blocks, may_be_taken}
use Rattle.pic8259.proofs.Order.{by_level}

-- the next element fails too
pub none_more : {X : Type 0} (p : X → Bool) (xs : List X) (i : ℕ) (d : X)
    → i < length xs → find p (take i xs) ≡ None → p (get_or xs i d) ≡ false → find p (take (i + 1) xs) ≡ None
none_more p xs i d within none fails = rw (take_more xs i d within, find-append p (take i xs) (get_or xs i d ∷ []), none, fails) refl

-- the next element is the one
pub found_next : {X : Type 0} (p : X → Bool) (xs : List X) (i : ℕ) (d : X)
    → i < length xs → find p (take i xs) ≡ None → p (get_or xs i d) ≡ true → find p xs ≡ Some (get_or xs i d)
found_next p xs i d within none passes =
    let upto : find p (take (i + 1) xs) ≡ Some (get_or xs i d) =
    rw (take_more xs i d within, find-append p (take i xs) (get_or xs i d ∷ []), none, passes) refl in
    ap (find p) (sym (take-append-drop (i + 1) xs)) ∙ find-append p (take (i + 1) xs) (drop (i + 1) xs) ∙ ap (λ o. option_or o (find p (drop (i + 1) xs))) upto

-- whether the level at a place may be taken, by what blocks up to it
pub may_be_taken_at : (s : PicState) (xs : List ℕ) (i : ℕ) (is_blocked : Bool) → xs ≡ s.order → up_to xs (get_or xs i 0) ≡ take (i + 1) xs
    → is_blocked ≡ list_any (blocks s) (take (i + 1) xs) → may_be_taken s (get_or xs i 0) ≡ (is_pending s (get_or xs i 0) && not is_blocked)
may_be_taken_at s xs i is_blocked items place blocked =
    ap (λ order. is_pending s (get_or xs i 0) && not (list_any (blocks s) order)) (ap (λ order. up_to order (get_or xs i 0)) (sym items) ∙ place)
    ∙ ap (λ b. is_pending s (get_or xs i 0) && not b) (sym blocked)

pub blocked_more : (s : PicState) (xs : List ℕ) (i : ℕ) (before here : Bool)
    → i < length xs → before ≡ list_any (blocks s) (take i xs) → here ≡ blocks s (get_or xs i 0) → (before || here) ≡ list_any (blocks s) (take (i + 1) xs)
blocked_more s xs i before here within is_before is_here =
    ap (λ b. b || here) is_before ∙ ap (λ b. list_any (blocks s) (take i xs) || b) is_here ∙ sym (list_any_more (blocks s) xs i 0 within)

-- none is found if each fails
find_none : {X : Type 0} (p : X → Bool) (xs : List X) → All (λ x. p x ≡ false) xs → find p xs ≡ None
find_none p [] all = refl
find_none p (x ∷ xs) all =
    ap (λ b. cond b (Some x) (find p xs)) (All-head (λ y. p y ≡ false) x xs all)
    ∙ find_none p xs (All-tail (λ y. p y ≡ false) x xs all)

pending_at : (s : PicState) (level : ℕ) → level < 8 → contains (map (is_pending s) all_levels) level ≡ is_pending s level
pending_at s level is_level =
    by_level (λ n. contains (map (is_pending s) all_levels) n ≡ is_pending s n) refl refl refl refl refl refl refl refl level is_level

nothing_at : (level : ℕ) → level < 8 → contains no_levels level ≡ false
nothing_at level is_level = by_level (λ n. contains no_levels n ≡ false) refl refl refl refl refl refl refl refl level is_level

-- if no level is pending, none may be taken
pub none_pending : (s : PicState) (lowest : ℕ) → s.order ≡ order_with_lowest lowest → map (is_pending s) all_levels ≡ no_levels
    → find (may_be_taken s) s.order ≡ None
unfolding order_with_lowest
none_pending s lowest is_order none =
    let idle : (level : ℕ) → level < 8 → may_be_taken s level ≡ false =
    λ level is_level. ap (λ b. b && not (list_any (blocks s) (up_to s.order level)))
    (sym (pending_at s level is_level) ∙ ap (λ levels. contains levels level) none ∙ nothing_at level is_level) in
    let turns : List ℕ = 1 ∷ 2 ∷ 3 ∷ 4 ∷ 5 ∷ 6 ∷ 7 ∷ 8 ∷ [] in
    ap (find (may_be_taken s)) is_order
    ∙ find_none (may_be_taken s) (order_with_lowest lowest)
    (All-map (λ level. may_be_taken s level ≡ false) (λ steps. (lowest + steps) % 8) turns
    (All-from_get_or (λ steps. may_be_taken s ((lowest + steps) % 8) ≡ false) turns 0 (λ i inside. idle ((lowest + get_or turns i 0) % 8) (omega arith))))

none_of : {X : Type 0} (p : X → Bool) (xs : List X) → ((x : X) → p x ≡ false) → list_any p xs ≡ false
none_of p [] none = refl
none_of p (x ∷ xs) none = ap (λ b. b || list_any p xs) (none x) ∙ none_of p xs none

out_of_eight : (level : ℕ) → contains no_levels level ≡ false
out_of_eight level = elim (cases_lt level 8) as (λ _. contains no_levels level ≡ false) [
  | inl is ↦ nothing_at level is
  | inr beyond ↦ get_or_past no_levels level false beyond
]

-- with no level in service none is blocked
pub none_blocks : (s : PicState) (xs : List ℕ) → s.served ≡ no_levels → list_any (blocks s) xs ≡ false
none_blocks s xs none =
    none_of (blocks s) xs (λ level. ap (λ b. b && not (s.special_mask && contains s.masked level)) (ap (λ set. contains set level) none ∙ out_of_eight level))
