-- The laws of `iterate`, `gathered` and `total`: none, one more, and one run after another.
use Rattle.std.proofs.Common.{◌≡◌, ℕ, zero, suc, ◌+◌, List, [], ◌++◌, refl, sym, ap, ◌∙◌, arith, append_assoc, add_assoc, append-nil}
use Rattle.board_types.specs.Iterate.{iterate, gathered, total}

one_more : (n : ℕ) → n + 1 ≡ suc n
one_more n = omega arith

more_after : (a b : ℕ) → a + suc b ≡ suc (a + b)
more_after a b = omega arith

none_after : (a : ℕ) → a + 0 ≡ a
none_after a = omega arith

pub iterate_zero : {S : Type 0} (step : S → S) (s : S) → iterate step 0 s ≡ s
unfolding iterate
iterate_zero step s = refl

iterate_suc : {S : Type 0} (step : S → S) (n : ℕ) (s : S) → iterate step (suc n) s ≡ step (iterate step n s)
unfolding iterate
iterate_suc step n s = refl

pub iterate_more : {S : Type 0} (step : S → S) (n : ℕ) (s : S) → iterate step (n + 1) s ≡ step (iterate step n s)
iterate_more step n s = ap (λ k. iterate step k s) (one_more n) ∙ iterate_suc step n s

pub iterate_add : {S : Type 0} (step : S → S) (a b : ℕ) (s : S) → iterate step (a + b) s ≡ iterate step b (iterate step a s)
iterate_add step a zero s = ap (λ k. iterate step k s) (none_after a) ∙ sym (iterate_zero step (iterate step a s))
iterate_add step a (suc b) s =
    ap (λ k. iterate step k s) (more_after a b) ∙ iterate_suc step (a + b) s ∙ ap step (iterate_add step a b s)
    ∙ sym (iterate_suc step b (iterate step a s))

-- a state that a step leaves as it is stays so
pub iterate_fixed : {S : Type 0} (step : S → S) (n : ℕ) (s : S) → step s ≡ s → iterate step n s ≡ s
iterate_fixed step zero s fixed = iterate_zero step s
iterate_fixed step (suc n) s fixed = iterate_suc step n s ∙ ap step (iterate_fixed step n s fixed) ∙ fixed

pub gathered_zero : {S A : Type 0} (step : S → S) (seen : S → List A) (s : S) → gathered step seen 0 s ≡ []
unfolding gathered
gathered_zero step seen s = refl

gathered_suc : {S A : Type 0} (step : S → S) (seen : S → List A) (n : ℕ) (s : S)
    → gathered step seen (suc n) s ≡ gathered step seen n s ++ seen (iterate step n s)
unfolding gathered
gathered_suc step seen n s = refl

pub gathered_more : {S A : Type 0} (step : S → S) (seen : S → List A) (n : ℕ) (s : S)
    → gathered step seen (n + 1) s ≡ gathered step seen n s ++ seen (iterate step n s)
gathered_more step seen n s = ap (λ k. gathered step seen k s) (one_more n) ∙ gathered_suc step seen n s

pub gathered_add : {S A : Type 0} (step : S → S) (seen : S → List A) (a b : ℕ) (s : S)
    → gathered step seen (a + b) s ≡ gathered step seen a s ++ gathered step seen b (iterate step a s)
gathered_add step seen a zero s =
    ap (λ k. gathered step seen k s) (none_after a) ∙ sym (append-nil (gathered step seen a s))
    ∙ ap (λ xs. gathered step seen a s ++ xs) (sym (gathered_zero step seen (iterate step a s)))
gathered_add step seen a (suc b) s =
    ap (λ k. gathered step seen k s) (more_after a b) ∙ gathered_suc step seen (a + b) s
    ∙ ap (λ xs. xs ++ seen (iterate step (a + b) s)) (gathered_add step seen a b s)
    ∙ ap (λ t. (gathered step seen a s ++ gathered step seen b (iterate step a s)) ++ seen t) (iterate_add step a b s)
    ∙ append_assoc (gathered step seen a s) (gathered step seen b (iterate step a s)) (seen (iterate step b (iterate step a s)))
    ∙ ap (λ xs. gathered step seen a s ++ xs) (sym (gathered_suc step seen b (iterate step a s)))

pub total_zero : {S : Type 0} (step : S → S) (cost : S → ℕ) (s : S) → total step cost 0 s ≡ 0
unfolding total
total_zero step cost s = refl

total_suc : {S : Type 0} (step : S → S) (cost : S → ℕ) (n : ℕ) (s : S) → total step cost (suc n) s ≡ total step cost n s + cost (iterate step n s)
unfolding total
total_suc step cost n s = refl

pub total_more : {S : Type 0} (step : S → S) (cost : S → ℕ) (n : ℕ) (s : S) → total step cost (n + 1) s ≡ total step cost n s + cost (iterate step n s)
total_more step cost n s = ap (λ k. total step cost k s) (one_more n) ∙ total_suc step cost n s

pub total_add : {S : Type 0} (step : S → S) (cost : S → ℕ) (a b : ℕ) (s : S)
    → total step cost (a + b) s ≡ total step cost a s + total step cost b (iterate step a s)
total_add step cost a zero s =
    ap (λ k. total step cost k s) (none_after a) ∙ sym (none_after (total step cost a s))
    ∙ ap (λ k. total step cost a s + k) (sym (total_zero step cost (iterate step a s)))
total_add step cost a (suc b) s =
    ap (λ k. total step cost k s) (more_after a b) ∙ total_suc step cost (a + b) s
    ∙ ap (λ k. k + cost (iterate step (a + b) s)) (total_add step cost a b s)
    ∙ ap (λ t. (total step cost a s + total step cost b (iterate step a s)) + cost t) (iterate_add step a b s)
    ∙ add_assoc (total step cost a s) (total step cost b (iterate step a s)) (cost (iterate step b (iterate step a s)))
    ∙ ap (λ k. total step cost a s + k) (sym (total_suc step cost b (iterate step a s)))

-- for a plain loop over steps
pub ruleset iterate_steps = (iterate_zero, iterate_more)

-- for a loop that also gathers what it sees
pub ruleset gathered_steps = (iterate_zero, iterate_more, gathered_zero, gathered_more)
