-- How long a name is.
use Rattle.std.proofs.Common.{◌≡◌, ℕ, zero, suc, ◌+◌, ◌<◌, List, [], ◌∷◌, length, get_or, refl, arith, true, nat_lt}
use Rattle.std.specs.List.{prefix_len}
use Rattle.std.proofs.lemmas.Bool.Decides.{nat_tests}

-- the first n bytes are letters
abbrev pub AreLetters : List ℕ → ℕ → Type 0
AreLetters letters n = (k : ℕ) → k < n → 0 < get_or letters k 0

lt_yes : (a b : ℕ) → a < b → nat_lt a b ≡ true
lt_yes a b h = grind (arith, nat_tests)

letters_after : (b : ℕ) (bs : List ℕ) (n : ℕ) → AreLetters (b ∷ bs) (suc n) → AreLetters bs n
letters_after b bs n are k within = are (suc k) (omega arith)

sym_one : (m n : ℕ) → m ≡ n → suc m ≡ 1 + n
sym_one m n is = omega arith

-- the first byte that is no letter ends the letters
pub ends_at : (letters : List ℕ) (n : ℕ) → AreLetters letters n → n < length letters → get_or letters n 0 ≡ 0
    → n ≡ prefix_len (λ (letter : ℕ). nat_lt 0 letter) letters
ends_at [] n are within is = absurd (omega arith)
ends_at (b ∷ bs) zero are within is = rw is refl
ends_at (b ∷ bs) (suc n) are within is =
    rw (lt_yes 0 b (are 0 (omega arith)))
    (sym_one n (prefix_len (λ (letter : ℕ). nat_lt 0 letter) bs) (ends_at bs n (letters_after b bs n are) (omega arith) is))

pub ends_all : (letters : List ℕ) (n : ℕ) → AreLetters letters n → n ≡ length letters → n ≡ prefix_len (λ (letter : ℕ). nat_lt 0 letter) letters
ends_all [] n are is = is
ends_all (b ∷ bs) zero are is = absurd (omega arith)
ends_all (b ∷ bs) (suc n) are is =
    rw (lt_yes 0 b (are 0 (omega arith))) (sym_one n (prefix_len (λ (letter : ℕ). nat_lt 0 letter) bs) (ends_all bs n (letters_after b bs n are) (omega arith)))
