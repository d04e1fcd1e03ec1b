-- Steps whose states have a closed form, and steps that come round again.
use Rattle.std.proofs.Common.{◌≡◌, ℕ, zero, suc, ◌+◌, ◌*◌, ◌/◌, ◌%◌, ◌<◌, ◌≤◌, Bool, true, false, if◌then◌else◌, refl, sym, ap, ◌∙◌, subst, arith}
use Rattle.std.proofs.Math.Nat.{mod-add-div}
use Rattle.board_types.specs.Iterate.{iterate}
use Rattle.board_types.proofs.Iterate.{iterate_zero, iterate_more, iterate_add}

pub if_yes : {A : Type 0} (b : Bool) (x y : A) → b ≡ true → (if b then x else y) ≡ x
if_yes true x y holds = refl
if_yes false x y holds = cc

pub if_no : {A : Type 0} (b : Bool) (x y : A) → b ≡ false → (if b then x else y) ≡ y
if_no true x y fails = cc
if_no false x y fails = refl

-- a closed form that each of a number of steps keeps
pub by_steps : {S : Type 0} (step : S → S) (form : ℕ → S) (s : S) (steps : ℕ)
    → form 0 ≡ s → ((k : ℕ) → k < steps → step (form k) ≡ form (k + 1)) → (n : ℕ) → n ≤ steps → iterate step n s ≡ form n
by_steps step form s steps start keeps zero within = iterate_zero step s ∙ sym start
by_steps step form s steps start keeps (suc n) within =
    let more : suc n ≡ n + 1 = omega arith in
    ap (λ k. iterate step k s) more ∙ iterate_more step n s
    ∙ ap step (by_steps step form s steps start keeps n (omega arith))
    ∙ keeps n (omega arith) ∙ ap form (sym more)

-- a fact that each step keeps
pub keeping : {S : Type 0} (step : S → S) (P : S → Type 0) → ((s : S) → P s → P (step s)) → (n : ℕ) (s : S) → P s → P (iterate step n s)
keeping step P keeps zero s holds = subst P (sym (iterate_zero step s)) holds
keeping step P keeps (suc n) s holds =
    let more : suc n ≡ n + 1 = omega arith in
    subst P (sym (ap (λ k. iterate step k s) more ∙ iterate_more step n s)) (keeps (iterate step n s) (keeping step P keeps n s holds))

rounds : {S : Type 0} (step : S → S) (size : ℕ) (s : S) → iterate step size s ≡ s → (q : ℕ) → iterate step (size * q) s ≡ s
rounds step size s round zero =
    let none : size * 0 ≡ 0 = omega arith in
    ap (λ k. iterate step k s) none ∙ iterate_zero step s
rounds step size s round (suc q) =
    let more : size * suc q ≡ size + size * q = grind arith in
    ap (λ k. iterate step k s) more ∙ iterate_add step size (size * q) s ∙ ap (λ t. iterate step (size * q) t) round ∙ rounds step size s round q

-- steps that come round: only the remainder counts
pub round_again : {S : Type 0} (step : S → S) (size : ℕ) (s : S) → iterate step size s ≡ s → (n : ℕ) → iterate step n s ≡ iterate step (n % size) s
round_again step size s round n =
    let parts : n ≡ size * (n / size) + n % size = omega (arith, mod-add-div n size) in
    ap (λ k. iterate step k s) parts ∙ iterate_add step (size * (n / size)) (n % size) s
    ∙ ap (λ t. iterate step (n % size) t) (rounds step size s round (n / size))
