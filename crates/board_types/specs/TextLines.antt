-- The lines of a text.
-- To be believed: the headline rests on it.
use Rattle.std.specs.Prelude.{ℕ, ◌+◌, Bool, false, ◌==◌, ◌&&◌, if◌then◌else◌, List, [], ◌∷◌}

-- whether there is a first byte, and it passes the test
abbrev pub begins_with : (ℕ → Bool) → List ℕ → Bool
begins_with passes [] = false
begins_with passes (b ∷ bs) = passes b

-- b, put before the first of the parts; if there is none, b is a part by itself
abbrev pub onto_first : ℕ → List (List ℕ) → List (List ℕ)
onto_first b [] = (b ∷ []) ∷ []
onto_first b (part ∷ parts) = (b ∷ part) ∷ parts

-- A line feed, with a carriage return just before it, ends a line and isn't part of it; what follows the last line feed
-- is a line only if it isn't empty.
abbrev pub text_lines : List ℕ → List (List ℕ)
text_lines [] = []
text_lines (b ∷ bs) =
    if b == 10 then [] ∷ text_lines bs else (
    if b == 13 && begins_with (λ c. c == 10) bs then text_lines bs else
    onto_first b (text_lines bs))

-- how many bytes come before the first byte with this value, or before the end if there is none
abbrev pub size_before : ℕ → List ℕ → ℕ
size_before delimiter [] = 0
size_before delimiter (b ∷ bs) = if b == delimiter then 0 else 1 + size_before delimiter bs
