-- Inputs that may fail, and count how often they did.
-- To be believed: the headline rests on it.
use Rattle.std.specs.Prelude.{◌≡◌, ℕ, ◌+◌, List, [], ◌++◌, length, ⊤, ◌⊎◌, Option, None, Some, Result, MatchResult}

-- an input's count of failures stays, if it counts them
abbrev pub CountsNone : Option ℕ → Option ℕ → Type 0
CountsNone None new = ⊤
CountsNone (Some n) new = new ≡ Some n

-- an input's count of failures rises by one, if it counts them
abbrev pub CountsOne : Option ℕ → Option ℕ → Type 0
CountsOne None new = ⊤
CountsOne (Some n) new = new ≡ Some (n + 1)

-- a read counts one failure if it is refused, and none if it isn't
abbrev pub CountsRefusal : {A E : Type 0} → Option ℕ → Option ℕ → Result A E → Type 0
CountsRefusal old new r = MatchResult r (λ _. CountsNone old new) (λ _. CountsOne old new)

-- all that is wanted of an input: the bytes up to its end, or as many as the limit says
abbrev pub IsAllWanted : ℕ → Type 0 → List ℕ → Type 0
IsAllWanted limit Ended bytes = Ended ⊎ (length bytes ≡ limit)

-- an input gives these bytes, as far as it tells what it gives
abbrev pub ReadsAs : {I : Type 0} → (I → I → List ℕ → Type 0) → (I → Type 0) → I → List ℕ → Type 0
ReadsAs {I} Gave Ended input known =
    (after : I) (bytes : List ℕ) → Gave input after bytes
    → (rest : List ℕ) × (known ≡ bytes ++ rest) × (Ended after → rest ≡ [])
