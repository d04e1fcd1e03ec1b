-- A queue copied in two parts.
use Rattle.std.proofs.Common.{◌≡◌, ℕ, ◌+◌, ◌-◌, ◌≤◌, List, [], ◌++◌, length, arith, refl, length-append, ap, ◌∙◌, sym}
use Rattle.circular_buffer.specs.Buffer.{keep_last}

all_kept : (n : ℕ) (xs : List ℕ) → length xs ≤ n → keep_last n xs ≡ xs
all_kept n xs within = let none : length xs - n ≡ 0 = omega arith in rw none refl

-- nothing is lost of two parts that fit together
pub parts_kept : (n : ℕ) (first rest all : List ℕ) → first ++ rest ≡ all → length all ≤ n → keep_last n (keep_last n ([] ++ first) ++ rest) ≡ all
parts_kept n first rest all parts within =
    let size : length first + length rest ≡ length all = sym (length-append first rest) ∙ ap length parts in
    let head : keep_last n ([] ++ first) ≡ first = all_kept n first (omega arith) in
    ap (λ xs. keep_last n (xs ++ rest)) head ∙ ap (keep_last n) parts ∙ all_kept n all within
