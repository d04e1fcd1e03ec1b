-- Marks: a mark keeps the characters that are shown, and later the cells whose character has changed since are named.
-- All of it is this board's choice.
-- To be believed by callers of this crate: the headline does not rest on it.
use Rattle.std.specs.Prelude.{ℕ, ◌+◌, ◌%◌, ◌^◌, ◌==◌, Bool, not, ◌&&◌, ◌||◌, if◌then◌else◌, List, map, slice_index}
use Rattle.std.specs.List.{range_with_len, filter}
use Rattle.mda_text.specs.Mda.{MdaState, cell_count}
use Rattle.mda_text.specs.Screen.{place, nth_character, characters}

-- the number of the mark after mark n: they rise from 1 to the greatest u64, and then are 0 for ever
abbrev pub number_after : ℕ → ℕ
number_after n = if n == 0 then 0 else (n + 1) % 2 ^ 64

-- the adapter after a mark, which gets the number that was the next one
unfoldable pub after_mark : MdaState → MdaState
after_mark m = record m { kept = characters m; last_mark = m.next_mark; next_mark = number_after m.next_mark }

-- whether this is the last mark; 0 never is
abbrev pub is_last : MdaState → ℕ → Bool
is_last m mark = mark == m.last_mark && not (mark == 0)

-- whether the n-th cell in reading order is named as changed since a mark: all cells are, unless it is the last mark
unfoldable pub is_changed : MdaState → ℕ → ℕ → Bool
is_changed m mark n = not (is_last m mark) || not (nth_character m n == slice_index m.kept n)

-- of `count` cells from the n-th on, in reading order, those that have changed since a mark
unfoldable pub changed_among : MdaState → ℕ → ℕ → ℕ → List (ℕ × ℕ)
changed_among m mark n count = map place (filter (is_changed m mark) (range_with_len n count))

-- the cells, by row and column in reading order, that have changed since a mark
abbrev pub changed_cells : MdaState → ℕ → List (ℕ × ℕ)
changed_cells m mark = changed_among m mark 0 cell_count
