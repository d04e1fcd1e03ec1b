-- The walk over the changed cells, one cell after another.
use Rattle.std.proofs.Common.{◌≡◌, ℕ, zero, suc, ◌+◌, ◌-◌, ◌<◌, ◌≤◌, Bool, true, false, cond, List, [], ◌∷◌, map, length, refl, ap, ◌∙◌, arith}
use Rattle.std.specs.List.{range_with_len, filter}
use Rattle.mda_text.specs.Mda.{MdaState, cell_count}
use Rattle.mda_text.specs.Screen.{place}
use Rattle.mda_text.specs.Marks.{is_changed, changed_among}
use Rattle.mda_text.proofs.Sizes.{cell_count_is}

first_of : (b : Bool) (n : ℕ) (rest : List ℕ) → map place (cond b (n ∷ rest) rest) ≡ cond b (place n ∷ map place rest) (map place rest)
first_of true n rest = refl
first_of false n rest = refl

pub more : (m : MdaState) (mark n k : ℕ)
    → changed_among m mark n (suc k) ≡ cond (is_changed m mark n) (place n ∷ changed_among m mark (n + 1) k) (changed_among m mark (n + 1) k)
unfolding changed_among
more m mark n k = first_of (is_changed m mark n) n (filter (is_changed m mark) (range_with_len (n + 1) k))

one_more : (m : MdaState) (mark n : ℕ) → n < 2000
    → changed_among m mark n (cell_count - n)
    ≡ cond (is_changed m mark n) (place n ∷ changed_among m mark (n + 1) (cell_count - (n + 1))) (changed_among m mark (n + 1) (cell_count - (n + 1)))
one_more m mark n below =
    let fewer : cell_count - n ≡ suc (cell_count - (n + 1)) = omega (arith, cell_count_is) in
    ap (changed_among m mark n) fewer ∙ more m mark n (cell_count - (n + 1))

pub skips : (m : MdaState) (mark n : ℕ) → n < 2000 → is_changed m mark n ≡ false
    → changed_among m mark n (cell_count - n) ≡ changed_among m mark (n + 1) (cell_count - (n + 1))
skips m mark n below same =
    one_more m mark n below
    ∙ ap (λ b. cond b (place n ∷ changed_among m mark (n + 1) (cell_count - (n + 1))) (changed_among m mark (n + 1) (cell_count - (n + 1)))) same

pub names : (m : MdaState) (mark n : ℕ) → n < 2000 → is_changed m mark n ≡ true
    → changed_among m mark n (cell_count - n) ≡ place n ∷ changed_among m mark (n + 1) (cell_count - (n + 1))
names m mark n below changed =
    one_more m mark n below
    ∙ ap (λ b. cond b (place n ∷ changed_among m mark (n + 1) (cell_count - (n + 1))) (changed_among m mark (n + 1) (cell_count - (n + 1)))) changed

pub ends : (m : MdaState) (mark n : ℕ) → 2000 ≤ n → changed_among m mark n (cell_count - n) ≡ []
unfolding changed_among
ends m mark n past =
    let none : cell_count - n ≡ 0 = omega (arith, cell_count_is) in
    ap (λ k. map place (filter (is_changed m mark) (range_with_len n k))) none

-- cells that haven't changed are passed over
pub skips_all : (m : MdaState) (mark n count : ℕ) → n + count ≤ 2000 → ((k : ℕ) → n ≤ k → k < n + count → is_changed m mark k ≡ false)
    → changed_among m mark n (cell_count - n) ≡ changed_among m mark (n + count) (cell_count - (n + count))
skips_all m mark n zero within same = ap (λ k. changed_among m mark k (cell_count - k)) (omega arith)
skips_all m mark n (suc count) within same =
    skips m mark n (omega arith) (same n (omega arith) (omega arith))
    ∙ skips_all m mark (n + 1) count (omega arith) (λ k from below. same k (omega arith) (omega arith))
    ∙ ap (λ k. changed_among m mark k (cell_count - k)) (omega arith)

-- each step of the walk
pub ruleset walk_steps = (skips, skips_all, names, ends)

chosen : (b : Bool) (x : ℕ × ℕ) (xs : List (ℕ × ℕ)) → length (cond b (x ∷ xs) xs) ≤ length xs + 1
chosen true x xs = omega arith
chosen false x xs = omega arith

no_more_than : (m : MdaState) (mark n k : ℕ) → length (changed_among m mark n k) ≤ k
unfolding changed_among
no_more_than m mark n zero = omega arith
no_more_than m mark n (suc k) =
    let here : length (changed_among m mark n (suc k))
    ≡ length (cond (is_changed m mark n) (place n ∷ changed_among m mark (n + 1) k) (changed_among m mark (n + 1) k)) =
    ap length (more m mark n k) in
    omega (arith, here, chosen (is_changed m mark n) (place n) (changed_among m mark (n + 1) k), no_more_than m mark (n + 1) k)

-- no more cells are named than there are
pub names_few : (m : MdaState) (mark : ℕ) → length (changed_among m mark 0 cell_count) ≤ 2000
names_few m mark = omega (arith, no_more_than m mark 0 cell_count, cell_count_is)
