-- How lexemes stand at the front of a text.
use Rattle.std.proofs.Common.{◌≡◌, ℕ, ◌+◌, ◌-◌, ◌≤◌, List, [], ◌∷◌, length, take, drop, refl, ap}
use Rattle.std.proofs.Common.{◌∙◌, arith, Bool, true, false, ◌==◌, ◌&&◌, if◌then◌else◌, suc, get_or}
use Rattle.std.proofs.lemmas.Bool.Decides.{nat_tests}
use Rattle.assembler_lexeme.specs.Lexemes.{is_word_byte, is_blank, lexemes_from, word_size, text_size}
use Rattle.board_types.specs.TextLines.{begins_with, onto_first}

-- a byte of a word is neither a semicolon, nor a blank, nor a quote
no_comment : (b : ℕ) → is_word_byte b ≡ true → (b == 59) ≡ false
no_comment b word = grind (arith, nat_tests)

no_blank : (b : ℕ) → is_word_byte b ≡ true → is_blank b ≡ false
no_blank b word = grind (arith, nat_tests)

no_quote : (b : ℕ) → is_word_byte b ≡ true → (b == 39) ≡ false
no_quote b word = grind (arith, nat_tests)

one_more : (n : ℕ) → 1 + n ≡ suc n
one_more n = omega arith

-- the first lexeme of a text that begins with a byte of a word
pub word_start : (b : ℕ) (bs : List ℕ) → is_word_byte b ≡ true
    → lexemes_from false (b ∷ bs) ≡ (if begins_with is_word_byte bs then onto_first b (lexemes_from false bs) else (b ∷ []) ∷ lexemes_from false bs)
word_start b bs word =
    chosen (b == 59) (is_blank b) (b == 39) (is_word_byte b) (begins_with is_word_byte bs)
    (lexemes_from false bs) _ _ _ (no_comment b word) (no_blank b word) (no_quote b word) word
  where
    chosen : (comment blank quote word more : Bool) (skipped quoted joined parted : List (List ℕ))
        → comment ≡ false → blank ≡ false → quote ≡ false → word ≡ true
        → (if comment then [] else (if blank then skipped else (if quote then quoted else (if word && more then joined else parted))))
        ≡ (if more then joined else parted)
    chosen comment blank quote word more skipped quoted joined parted p q r s = rw (p, q, r, s) refl

word_by : (b c : ℕ) (cs : List ℕ) (more : Bool)
    → (more ≡ true → lexemes_from false (c ∷ cs) ≡ (c ∷ take (word_size cs) cs) ∷ lexemes_from false (drop (word_size cs) cs))
    → (if more then onto_first b (lexemes_from false (c ∷ cs)) else (b ∷ []) ∷ lexemes_from false (c ∷ cs))
    ≡ (b ∷ take (if more then 1 + word_size cs else 0) (c ∷ cs)) ∷ lexemes_from false (drop (if more then 1 + word_size cs else 0) (c ∷ cs))
word_by b c cs true split = rw (one_more (word_size cs)) (ap (onto_first b) (split refl))
word_by b c cs false split = refl

pub word_split : (b : ℕ) (bs : List ℕ) → is_word_byte b ≡ true
    → lexemes_from false (b ∷ bs) ≡ (b ∷ take (word_size bs) bs) ∷ lexemes_from false (drop (word_size bs) bs)
word_split b [] word = word_start b [] word
word_split b (c ∷ cs) word = word_start b (c ∷ cs) word ∙ word_by b c cs (is_word_byte c) (λ is. word_split c cs is)

quote_is : (b : ℕ) → (b == 39) ≡ true → b ≡ 39
quote_is b is = grind (arith, nat_tests)

text_by : (b : ℕ) (bs : List ℕ) (ends : Bool) → (ends ≡ true → b ≡ 39)
    → lexemes_from true bs ≡ take (text_size bs) bs ∷ lexemes_from false (drop (text_size bs) bs)
    → (if ends then (39 ∷ []) ∷ lexemes_from false bs else onto_first b (lexemes_from true bs))
    ≡ take (if ends then 1 else 1 + text_size bs) (b ∷ bs) ∷ lexemes_from false (drop (if ends then 1 else 1 + text_size bs) (b ∷ bs))
text_by b bs true same split = rw (same refl) refl
text_by b bs false same split = rw (one_more (text_size bs)) (ap (onto_first b) split)

pub text_split : (bs : List ℕ) → lexemes_from true bs ≡ take (text_size bs) bs ∷ lexemes_from false (drop (text_size bs) bs)
text_split [] = refl
text_split (b ∷ bs) = text_by b bs (b == 39) (quote_is b) (text_split bs)

take_whole : (bs : List ℕ) → take (length bs) bs ≡ bs
take_whole [] = refl
take_whole (b ∷ bs) = ap (λ (r : List ℕ). b ∷ r) (take_whole bs)

take_all : (bs : List ℕ) → take (suc (length bs) - 1) bs ≡ bs
take_all bs = let size : suc (length bs) - 1 ≡ length bs = omega arith in rw size (take_whole bs)

pub text_at : (t : List ℕ) (n : ℕ) → 1 ≤ length t → get_or t 0 0 ≡ 39 → n ≡ text_size (take (length t - 1) (drop 1 t))
    → lexemes_from false t ≡ take (1 + n) t ∷ lexemes_from false (drop (1 + n) t)
text_at [] n some quote size = absurd (omega arith)
text_at (b ∷ bs) n some quote size = rw (quote, size, take_all bs, one_more (text_size bs)) (ap (onto_first 39) (text_split bs))

pub word_at : (t : List ℕ) (n : ℕ) → 1 ≤ length t → is_word_byte (get_or t 0 0) ≡ true → n ≡ word_size (take (length t - 1) (drop 1 t))
    → lexemes_from false t ≡ take (1 + n) t ∷ lexemes_from false (drop (1 + n) t)
word_at [] n some word size = absurd (omega arith)
word_at (b ∷ bs) n some word size = rw (size, take_all bs, one_more (word_size bs)) (word_split b bs word)
