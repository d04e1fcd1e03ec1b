-- Case outside quotes doesn't count in tokens.
use Rattle.std.proofs.Common.{◌≡◌, ℕ, ◌+◌, ◌-◌, ◌*◌, Bool, true, false, ◌==◌, ◌||◌, if◌then◌else◌, nat_lt, List, [], ◌∷◌, ◌++◌}
use Rattle.std.proofs.Common.{length, map, take, replicate, codes, Option, Some, None, option_and_then, refl, sym, ap, ◌∙◌, arith}
use Rattle.std.specs.Prelude.{slice_index}
use Rattle.std.specs.Option.{option_map, option_map_or}
use Rattle.std.specs.Char.{to_ascii_lowercase, to_ascii_uppercase}
use Rattle.std.specs.Str.{bytes_eq}
use Rattle.std.proofs.lemmas.List.{length-map, take-map}
use Rattle.std.proofs.lemmas.Bool.Decides.{nat_tests}
use Rattle.std.proofs.lemmas.Slice.Eq.{bytes_eq-Decides}
use Rattle.std.proofs.Math.ListN.{get_or-map}
use Rattle.dialect.specs.Words.{meaning_of, spells}
use Rattle.dialect.proofs.Once.{case_is_nothing}
use Rattle.assembler_lexeme.specs.declared.name.Name.{Name}
use Rattle.assembler_lexeme.specs.declared.token.Token.TheVariants.{Named, Word, Punctuator}
use Rattle.assembler_lexeme.specs.Lexemes.{folded, is_letter, is_digit}
use Rattle.board_types.specs.Digits.{digit_of, spelled}
use Rattle.assembler_lexeme.specs.Numbers.{in_bounds, number_to, number_of, last_byte, without_last}
use Rattle.assembler_lexeme.specs.Faults.{all_of, wanted}
use Rattle.assembler_lexeme.specs.Tokens.{name_of, word_token, number_token, punctuator_of, punctuator_token, token_of, tokens_of}

abbrev low : ℕ → ℕ
low = to_ascii_lowercase

letter_low : (b : ℕ) → is_letter (low b) ≡ is_letter b
letter_low b = grind (arith, nat_tests)

digit_low : (b : ℕ) → is_digit (low b) ≡ is_digit b
digit_low b = grind (arith, nat_tests)

quote_low : (b : ℕ) → (low b == 39) ≡ (b == 39)
quote_low b = grind (arith, nat_tests)

upper_low : (b : ℕ) → to_ascii_uppercase (low b) ≡ to_ascii_uppercase b
upper_low b = grind (arith, nat_tests)

low_low : (b : ℕ) → low (low b) ≡ low b
low_low b = grind (arith, nat_tests)

value_low : (b : ℕ) → digit_of (low b) ≡ digit_of b
value_low b = grind (arith, nat_tests)

hex_low : (b : ℕ) → (low b == 72 || low b == 104) ≡ (b == 72 || b == 104)
hex_low b = grind (arith, nat_tests)

binary_low : (b : ℕ) → (low b == 66 || low b == 98) ≡ (b == 66 || b == 98)
binary_low b = grind (arith, nat_tests)

one_low : (b : ℕ) → (low b == 49) ≡ (b == 49)
one_low b = grind (arith, nat_tests)

map_again : (f : ℕ → ℕ) (bs : List ℕ) → ((b : ℕ) → f (low b) ≡ f b) → map f (map low bs) ≡ map f bs
map_again f [] same = refl
map_again f (b ∷ bs) same = let first = same b in let rest = map_again f bs same in cc

-- a mark is no letter
punctuator_low : (b : ℕ) → is_letter b ≡ false → punctuator_of (low b) ≡ punctuator_of b
punctuator_low b other = let same : low b ≡ b = grind (arith, nat_tests) in ap punctuator_of same

alike : (word : List ℕ) → spells (map low word) word ≡ true
unfolding spells
alike word =
    let same = map_again low word low_low in
    grind (arith, bytes_eq-Decides (map to_ascii_lowercase (map to_ascii_lowercase word)) (map to_ascii_lowercase word))

meaning_low : (word : List ℕ) → meaning_of (map low word) ≡ meaning_of word
meaning_low word = case_is_nothing (map low word) word (alike word)

name_low : (word : List ℕ) → name_of (map low word) ≡ name_of word
name_low word =
    let name : List ℕ → ℕ → Name = λ letters size. record { letters = letters ++ replicate (31 - size) 0 } in
    let letters = map_again to_ascii_uppercase word upper_low in
    let size = length-map word low in
    ap (λ (l : List ℕ). name l (length (map low word))) letters ∙ ap (λ (n : ℕ). name (map to_ascii_uppercase word) n) size

word_low : (word : List ℕ) → word_token (map low word) ≡ word_token word
unfolding word_token
word_low word =
    ap (λ (n : ℕ). if nat_lt 31 n then None else Some (option_map_or Word (meaning_of (map low word)) (Named (name_of (map low word))))) (length-map word low)
    ∙ ap (λ m. if nat_lt 31 (length word) then None else Some (option_map_or Word m (Named (name_of (map low word))))) (meaning_low word)
    ∙ ap (λ (n : Name). if nat_lt 31 (length word) then None else Some (option_map_or Word (meaning_of word) (Named n))) (name_low word)

last_low : (word : List ℕ) → last_byte (map low word) ≡ low (last_byte word)
last_low word =
    ap (λ (n : ℕ). slice_index (map low word) (n - 1)) (length-map word low) ∙ get_or-map low word (length word - 1) 0

without_last_low : (word : List ℕ) → without_last (map low word) ≡ map low (without_last word)
without_last_low word =
    ap (λ (n : ℕ). take (n - 1) (map low word)) (length-map word low) ∙ take-map low (length word - 1) word

spelled_low : (base front : ℕ) (digits : List ℕ) → spelled base front (map low digits) ≡ spelled base front digits
spelled_low base front [] = refl
spelled_low base front (b ∷ bs) =
    ap (λ (d : ℕ). if nat_lt d base then spelled base (front * base + d) (map low bs) else None) (value_low b)
    ∙ ap (λ (r : Option ℕ). if nat_lt (digit_of b) base then r else None) (spelled_low base (front * base + digit_of b) bs)

number_to_low : (base : ℕ) (digits : List ℕ) → number_to base (map low digits) ≡ number_to base digits
unfolding number_to
number_to_low base digits = ap (option_and_then in_bounds) (spelled_low base 0 digits)

number_low : (word : List ℕ) → number_of (map low word) ≡ number_of word
unfolding number_of
number_low word =
    let is_hex = ap (λ (b : ℕ). b == 72 || b == 104) (last_low word) ∙ hex_low (last_byte word) in
    let is_binary = ap (λ (b : ℕ). b == 66 || b == 98) (last_low word) ∙ binary_low (last_byte word) in
    let hex = ap (number_to 16) (without_last_low word) ∙ number_to_low 16 (without_last word) in
    let binary = ap (number_to 2) (without_last_low word) ∙ number_to_low 2 (without_last word) in
    let decimal = number_to_low 10 word in
    rw (is_hex, is_binary, hex, binary, decimal) refl

one_word_low : (word : List ℕ) → bytes_eq (map low word) (codes "1") ≡ bytes_eq word (codes "1")
one_word_low [] = refl
one_word_low (b ∷ []) = rw (one_low b) refl
one_word_low (b ∷ c ∷ cs) = rw (one_low b) refl

number_token_low : (word : List ℕ) → number_token (map low word) ≡ number_token word
unfolding number_token
number_token_low word = rw (one_word_low word, number_low word) refl

punctuator_token_low : (b : ℕ) (bs : List ℕ) → is_letter b ≡ false → punctuator_token (map low (b ∷ bs)) ≡ punctuator_token (b ∷ bs)
punctuator_token_low b [] other = ap (option_map Punctuator) (punctuator_low b other)
punctuator_token_low b (c ∷ cs) other = refl

-- a lexeme outside quotes
by_kind : (letter digit : Bool) (b : ℕ) (bs : List ℕ) → is_letter b ≡ letter
    → (if letter then word_token (map low (b ∷ bs)) else (if digit then number_token (map low (b ∷ bs)) else punctuator_token (map low (b ∷ bs))))
    ≡ (if letter then word_token (b ∷ bs) else (if digit then number_token (b ∷ bs) else punctuator_token (b ∷ bs)))
by_kind true digit b bs is = word_low (b ∷ bs)
by_kind false true b bs is = number_token_low (b ∷ bs)
by_kind false false b bs is = punctuator_token_low b bs is

token_low : (b : ℕ) (bs : List ℕ) → (b == 39) ≡ false → token_of (map low (b ∷ bs)) ≡ token_of (b ∷ bs)
unfolding token_of
token_low b bs quote =
    let quote_of_low = quote_low b ∙ quote in
    rw (letter_low b, digit_low b, quote_of_low, quote) (by_kind (is_letter b) (is_digit b) b bs refl)

token_folded : (lexeme : List ℕ) → token_of (folded lexeme) ≡ token_of lexeme
token_folded [] = refl
token_folded (b ∷ bs) = by_quote (b == 39) refl
  where
    by_quote : (quote : Bool) → (b == 39) ≡ quote → token_of (if quote then b ∷ bs else map low (b ∷ bs)) ≡ token_of (b ∷ bs)
    by_quote true is = refl
    by_quote false is = token_low b bs is

tokens_folded : (ls : List (List ℕ)) → all_of (λ lexeme. wanted (token_of lexeme)) (map folded ls) ≡ all_of (λ lexeme. wanted (token_of lexeme)) ls
tokens_folded [] = refl
tokens_folded (l ∷ ls) =
    let first = token_folded l in
    let rest = tokens_folded ls in
    rw (first, rest) refl

pub tokens_alike : (s t : List (List ℕ)) → map folded s ≡ map folded t → tokens_of s ≡ tokens_of t
unfolding tokens_of
tokens_alike s t same = sym (tokens_folded s) ∙ ap (all_of (λ lexeme. wanted (token_of lexeme))) same ∙ tokens_folded t
