-- How many lines a text has.
use Rattle.std.proofs.Common.{ℕ, suc, ◌≤◌, List, [], ◌∷◌, length, arith, Bool, true, false, ◌==◌, ◌&&◌, if◌then◌else◌}
use Rattle.board_types.specs.TextLines.{begins_with, onto_first, text_lines}

onto_count : (b n : ℕ) (lines : List (List ℕ)) → length lines ≤ n → length (onto_first b lines) ≤ suc n
onto_count b n [] few = omega arith
onto_count b n (line ∷ lines) few = omega arith

line_count : (ends returns : Bool) (b n : ℕ) (lines : List (List ℕ)) → length lines ≤ n
    → length (if ends then [] ∷ lines else (if returns then lines else onto_first b lines)) ≤ suc n
line_count true returns b n lines few = omega arith
line_count false true b n lines few = omega arith
line_count false false b n lines few = onto_count b n lines few

-- a text has no more lines than bytes
pub few_lines : (text : List ℕ) → length (text_lines text) ≤ length text
few_lines [] = omega arith
few_lines (b ∷ bs) = line_count (b == 10) (b == 13 && begins_with (λ c. c == 10) bs) b (length bs) (text_lines bs) (few_lines bs)
