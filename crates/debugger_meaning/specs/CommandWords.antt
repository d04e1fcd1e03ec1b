-- The words of a line, and the numbers that words spell.
-- To be believed: the headline rests on it.
use Rattle.std.specs.Prelude.{ℕ, ◌-◌, ◌^◌, min, Bool, false, ◌==◌, ◌&&◌, nat_le, not}
use Rattle.std.specs.Prelude.{if◌then◌else◌, List, [], ◌∷◌, length, Option, None, Some}
use Rattle.board_types.specs.TextLines.{onto_first}
use Rattle.board_types.specs.Digits.{spelled}

abbrev pub is_space : ℕ → Bool
is_space b = b == 32

-- whether a list's first byte belongs to a word
abbrev pub begins_word : List ℕ → Bool
begins_word [] = false
begins_word (b ∷ bs) = not (is_space b)

-- the words of a line, which spaces separate
abbrev pub words_from : List ℕ → List (List ℕ)
words_from [] = []
words_from (b ∷ bs) =
    if is_space b then words_from bs else
    (if begins_word bs then onto_first b (words_from bs) else (b ∷ []) ∷ words_from bs)

unfoldable pub words_of : List ℕ → List (List ℕ)
words_of line = words_from line

-- a number of at least one and at most `most` hexadecimal digits
unfoldable pub hex_number : ℕ → List ℕ → Option ℕ
hex_number most word = if nat_le 1 (length word) && nat_le (length word) most then spelled 16 0 word else None

-- a count; one that is too large for 64 bits counts as the largest that isn't
abbrev pub at_most_greatest : Option ℕ → Option ℕ
at_most_greatest None = None
at_most_greatest (Some n) = Some (min n (2 ^ 64 - 1))

-- a count of one or more decimal digits
unfoldable pub count_of : List ℕ → Option ℕ
count_of word = if nat_le 1 (length word) then at_most_greatest (spelled 10 0 word) else None
