-- Runs of one step seen as runs of another, and runs that undo others.
use Rattle.std.proofs.Common.{◌≡◌, ℕ, zero, suc, refl, ap, ◌∙◌}
use Rattle.board_types.specs.Iterate.{iterate}

-- if a fact holds, a step keeps it and is seen as another step
pub record Simulates {A B : Type 0} (f : A → A) (g : B → B) (view : A → B) (Holds : A → Type 0) : Type 0 where
  pub seen : (a : A) → Holds a → view (f a) ≡ g (view a)
  pub kept : (a : A) → Holds a → Holds (f a)

pub kept_by_run : {A B : Type 0} (f : A → A) (g : B → B) (view : A → B) (Holds : A → Type 0)
    → Simulates f g view Holds → (n : ℕ) (a : A) → Holds a → Holds (iterate f n a)
unfolding iterate
kept_by_run f g view Holds s zero a h = h
kept_by_run f g view Holds s (suc n) a h = s.kept _ (kept_by_run f g view Holds s n a h)

pub run_seen : {A B : Type 0} (f : A → A) (g : B → B) (view : A → B) (Holds : A → Type 0)
    → Simulates f g view Holds → (n : ℕ) (a : A) → Holds a → view (iterate f n a) ≡ iterate g n (view a)
unfolding iterate
run_seen f g view Holds s zero a h = refl
run_seen f g view Holds s (suc n) a h =
    s.seen _ (kept_by_run f g view Holds s n a h) ∙ ap g (run_seen f g view Holds s n a h)

-- the first step outside
first_step : {A : Type 0} (f : A → A) (n : ℕ) (a : A) → iterate f (suc n) a ≡ iterate f n (f a)
unfolding iterate
first_step f zero a = refl
first_step f (suc n) a = ap f (first_step f n a)

-- if g undoes f, n steps of g undo n steps of f
pub run_undone : {A : Type 0} (f g : A → A) (Holds : A → Type 0)
    → Simulates f f (λ a. a) Holds → ((a : A) → Holds a → g (f a) ≡ a) → (n : ℕ) (a : A) → Holds a → iterate g n (iterate f n a) ≡ a
unfolding iterate
run_undone f g Holds s undo zero a h = refl
run_undone f g Holds s undo (suc n) a h =
    first_step g n (f (iterate f n a)) ∙ ap (iterate g n) (undo _ (kept_by_run f f (λ x. x) Holds s n a h)) ∙ run_undone f g Holds s undo n a h
