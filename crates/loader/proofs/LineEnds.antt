-- Spaces at the end of a line.
use Rattle.std.proofs.Common.{◌≡◌, ℕ, ◌==◌, false, List, [], ◌∷◌, ◌++◌, refl, ap}
use Rattle.loader.specs.Lines.{unless_last, without_spaces}

-- spaces at a line's end go
pub space_goes : (line : List ℕ) → without_spaces (line ++ 32 ∷ []) ≡ without_spaces line
space_goes [] = refl
space_goes (b ∷ bs) = ap (unless_last b) (space_goes bs)

-- a line whose last byte is no space stays
pub others_stay : (line : List ℕ) (last : ℕ) → (last == 32) ≡ false → without_spaces (line ++ last ∷ []) ≡ line ++ last ∷ []
others_stay [] last other = rw other refl
others_stay (b ∷ []) last other = rw other refl
others_stay (b ∷ c ∷ cs) last other = ap (unless_last b) (others_stay (c ∷ cs) last other)
