-- Why lines are no words.
use Rattle.std.proofs.Common.{◌≡◌, ℕ, List, ◌∷◌, ◌++◌, ◌∙◌, ap}
use Rattle.std.specs.Str.{IsUtf8}
use Rattle.zebludor_program.specs.Programs.{HasUnreadable}

pub unreadable : (lines before rest : List (List ℕ)) (line : List ℕ) (after : List (List ℕ))
    → lines ≡ before ++ rest → rest ≡ line ∷ after → ¬ (IsUtf8 line) → HasUnreadable lines
unreadable lines before rest line after parted first bad =
    record { before = before; word = line; after = after; are_words = parted ∙ ap (λ more. before ++ more) first; is_unreadable = bad }
