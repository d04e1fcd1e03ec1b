-- What a line of a text holds.
-- To be believed: the headline rests on it.
use Rattle.std.specs.Prelude.{ℕ, ◌==◌, if◌then◌else◌, List, [], ◌∷◌}

abbrev pub unless_last : ℕ → List ℕ → List ℕ
unless_last b [] = if b == 32 then [] else b ∷ []
unless_last b (c ∷ cs) = b ∷ c ∷ cs

-- a line without the spaces at its end
abbrev pub without_spaces : List ℕ → List ℕ
without_spaces [] = []
without_spaces (b ∷ bs) = unless_last b (without_spaces bs)
