-- How words stand at the front of a line.
use Rattle.std.proofs.Common.{◌≡◌, ℕ, ◌+◌, ◌-◌, ◌≤◌, List, [], ◌∷◌, length, take, drop, refl, ap, arith, Bool, true, false, not, if◌then◌else◌, suc}
use Rattle.board_types.specs.TextLines.{onto_first, size_before}
use Rattle.debugger_meaning.specs.CommandWords.{is_space, begins_word, words_from}

one_more : (n : ℕ) → 1 + n ≡ suc n
one_more n = omega arith

-- a word has more than its first byte, or not
word_by : (b c : ℕ) (cs : List ℕ) (space : Bool)
    → (space ≡ false → words_from (c ∷ cs) ≡ (c ∷ take (size_before 32 cs) cs) ∷ words_from (drop (size_before 32 cs) cs))
    → (if not space then onto_first b (words_from (c ∷ cs)) else (b ∷ []) ∷ words_from (c ∷ cs))
    ≡ (b ∷ take (if space then 0 else 1 + size_before 32 cs) (c ∷ cs)) ∷ words_from (drop (if space then 0 else 1 + size_before 32 cs) (c ∷ cs))
word_by b c cs false split = rw (one_more (size_before 32 cs)) (ap (onto_first b) (split refl))
word_by b c cs true split = refl

pub word_split : (b : ℕ) (bs : List ℕ) → is_space b ≡ false → words_from (b ∷ bs) ≡ (b ∷ take (size_before 32 bs) bs) ∷ words_from (drop (size_before 32 bs) bs)
word_split b [] word = rw word refl
word_split b (c ∷ cs) word = rw word (word_by b c cs (is_space c) (λ is. word_split c cs is))

pub space_first : (b : ℕ) (bs : List ℕ) → is_space b ≡ true → words_from (b ∷ bs) ≡ words_from bs
space_first b bs space = rw space refl

take_whole : (bs : List ℕ) → take (length bs) bs ≡ bs
take_whole [] = refl
take_whole (b ∷ bs) = ap (λ (r : List ℕ). b ∷ r) (take_whole bs)

take_all : (bs : List ℕ) → take (suc (length bs) - 1) bs ≡ bs
take_all bs = let size : suc (length bs) - 1 ≡ length bs = omega arith in rw size (take_whole bs)

pub word_at : (t : List ℕ) (n : ℕ) → 1 ≤ length t → begins_word t ≡ true → n ≡ size_before 32 (take (length t - 1) (drop 1 t))
    → words_from t ≡ take (1 + n) t ∷ words_from (drop (1 + n) t)
word_at [] n some word size = absurd (omega arith)
word_at (b ∷ bs) n some word size = rw (size, take_all bs, one_more (size_before 32 bs)) (word_split b bs (not_space (is_space b) word))
  where
    not_space : (space : Bool) → not space ≡ true → space ≡ false
    not_space true is = let never : false ≡ true = is in cc
    not_space false is = refl
