-- What one step of reading gives.
-- To be believed by callers of this crate: the headline does not rest on it.
use Rattle.std.specs.Prelude.{ℕ, ◌≡◌, ◌==◌, Bool, false, List, [], ◌∷◌, ◌++◌, Option, MatchOption, MatchBool}

-- the input gave this byte, or nothing at its end
abbrev pub GivesByte : (List ℕ → Type 0) → Type 0 → Option ℕ → Type 0
GivesByte Gave Ended byte = MatchOption byte (Gave [] × Ended) (λ b. Gave (b ∷ []))

-- no line feed stands in it
abbrev pub NoFeed : List ℕ → Type 0
NoFeed [] = Unit {0}
NoFeed (b ∷ bs) = ((b == 10) ≡ false) × NoFeed bs

-- the input gave this line and its line feed, or, if it is the last, the line and then its end
abbrev pub GivesLine : (List ℕ → Type 0) → Type 0 → List ℕ → Bool → Type 0
GivesLine Gave Ended line last = NoFeed line × MatchBool last (Gave line × Ended) (Gave (line ++ 10 ∷ []))

-- the input gave something
abbrev pub GivesSome : (List ℕ → Type 0) → Type 0
GivesSome Gave = (bytes : List ℕ) × Gave bytes
