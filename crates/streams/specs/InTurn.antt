-- What several reads give, one after another.
-- To be believed by callers of this crate: the headline does not rest on it.
use Rattle.std.specs.Prelude.{ℕ, List, [], ◌++◌, Option, None, Some}
use Rattle.std.proofs.Common.{◌≡◌, ◌∙◌, take, refl, ap, sym, subst, append_assoc}
use Rattle.std.proofs.lemmas.List.{append-nil}
use Rattle.std.specs.Io.KnownBytes.{Consumes}

pub consumes_none : (known : Option (List ℕ)) → Consumes known known []
consumes_none None = tt
consumes_none (Some bytes) = refl

pub consumes_on : (old mid new : Option (List ℕ)) (front back : List ℕ) → Consumes old mid front → Consumes mid new back
    → Consumes old new (front ++ back)
consumes_on None mid new front back first second = tt
consumes_on (Some xs) None new front back first second = absurd first
consumes_on (Some xs) (Some ys) None front back first second = absurd second
consumes_on (Some xs) (Some ys) (Some zs) front back first second =
    first ∙ (ap (λ (l : List ℕ). front ++ l) second ∙ sym (append_assoc front back zs))

-- what was given stays as it is if the last read gave nothing
pub gave_end : {S : Type 0} (Gave : S → S → List ℕ → Type 0)
    → ((s t u : S) (front back : List ℕ) → Gave s t front → Gave t u back → Gave s u (front ++ back))
    → (s t u : S) (bytes more : List ℕ) (n : ℕ) → Gave s t bytes → Gave t u (take n more) → n ≡ 0 → Gave s u bytes
gave_end Gave on s t u bytes more n first second is =
    let nothing : Gave t u [] = subst (λ (k : ℕ). Gave t u (take k more)) is second in
    subst (Gave s u) (append-nil bytes) (on s t u bytes [] first nothing)

-- what a list that grows was given
pub grows_none : (bytes : List ℕ) → bytes ≡ bytes ++ []
grows_none bytes = sym (append-nil bytes)

pub grows_on : (old mid new front back : List ℕ) → mid ≡ old ++ front → new ≡ mid ++ back
    → new ≡ old ++ (front ++ back)
grows_on old mid new front back first second =
    second ∙ (ap (λ (l : List ℕ). l ++ back) first ∙ append_assoc old front back)
