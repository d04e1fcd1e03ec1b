-- The tokens of a line weigh no more than it has bytes.
use Rattle.std.proofs.Common.{◌≡◌, ℕ, ◌+◌, ◌-◌, ◌≤◌, zero, suc, Bool, true, false, ◌==◌, ◌&&◌, if◌then◌else◌, nat_lt, nat_le}
use Rattle.std.proofs.Common.{List, [], ◌∷◌, length, take, drop, Option, Some, None, refl, ap, ◌∙◌, arith, Result, Ok, Err}
use Rattle.std.specs.Prelude.{sum_by}
use Rattle.std.specs.List.{list_all}
use Rattle.std.specs.Option.{option_map, option_map_or}
use Rattle.std.proofs.lemmas.Bool.{and_from, and_parts}
use Rattle.std.proofs.lemmas.Bool.Decides.{nat_tests}
use Rattle.std.proofs.lemmas.List.{length-take}
use Rattle.std.proofs.lemmas.List.Sums.{sum_by-cons}
use Rattle.dialect.specs.declared.meaning.Meaning.{Meaning}
use Rattle.dialect.specs.Words.{meaning_of}
use Rattle.assembler_lexeme.specs.declared.fault.SyntaxFault.{SyntaxFault}
use Rattle.assembler_lexeme.specs.declared.name.Name.{Name}
use Rattle.assembler_lexeme.specs.declared.token.Token.{Token}
use Rattle.assembler_lexeme.specs.declared.token.Token.TheVariants.{One, Number, Named, Quoted, Word, Punctuator}
use Rattle.assembler_lexeme.specs.declared.token.Punctuator.{Punctuator as PunctuatorType}
use Rattle.assembler_lexeme.specs.Lexemes.{is_letter, is_digit, is_blank, is_word_byte, lexemes_from, lexemes}
use Rattle.board_types.specs.TextLines.{begins_with, onto_first}
use Rattle.assembler_lexeme.specs.Numbers.{last_byte, number_of}
use Rattle.assembler_lexeme.specs.Faults.{◌>>=◌, all_of, wanted}
use Rattle.assembler_lexeme.specs.Tokens.{name_of, word_token, number_token, text_token, between_quotes}
use Rattle.assembler_lexeme.specs.Tokens.{quoted_token, punctuator_of, punctuator_token, token_of, tokens_of}

pub is_le : (a b : ℕ) → a ≤ b → nat_le a b ≡ true
is_le a b le = grind (arith, nat_tests)

pub from_le : (a b : ℕ) → nat_le a b ≡ true → a ≤ b
from_le a b is = grind (arith, nat_tests)

-- the sum of f over a list, by cases
abbrev pub total : {A : Type 0} → (A → ℕ) → List A → ℕ
total f [] = 0
total f (x ∷ xs) = f x + total f xs

pub sum_total : {A : Type 0} (f : A → ℕ) (xs : List A) → sum_by f xs ≡ total f xs
sum_total f [] = refl
sum_total f (x ∷ xs) = sum_by-cons f x xs ∙ ap (λ (n : ℕ). f x + n) (sum_total f xs)

pub total_around : {A : Type 0} (f : A → ℕ) (k : ℕ) (xs : List A) → total f (take k xs) + total f (drop (suc k) xs) ≤ total f xs
total_around f k [] = by k
  where
    by : (n : ℕ) → total f (take n []) + 0 ≤ 0
    by zero = omega arith
    by (suc n) = omega arith
total_around f zero (x ∷ xs) = omega arith
total_around f (suc k) (x ∷ xs) = let rest = total_around f k xs in omega arith

-- a reader whose parts are each no heavier than what they are read from
all_by : {B : Type 0} (v : B → ℕ) (r : Result B SyntaxFault) (rs : Result (List B) SyntaxFault) (zs : List B) (a b : ℕ)
    → ((y : B) → r ≡ Ok y → v y ≤ a) → ((ys : List B) → rs ≡ Ok ys → total v ys ≤ b)
    → (r >>= λ y. rs >>= λ ys. Ok (y ∷ ys)) ≡ Ok zs → total v zs ≤ a + b
all_by v (Ok y) (Ok ys) zs a b first rest is =
    let same : y ∷ ys ≡ zs = cc in
    let one = first y refl in
    let others = rest ys refl in
    rw (← same) (omega arith)
all_by v (Ok y) (Err fault) zs a b first rest is = absurd (cc)
all_by v (Err fault) rs zs a b first rest is = absurd (cc)

pub all_weight : {A B : Type 0} (f : A → Result B SyntaxFault) (u : A → ℕ) (v : B → ℕ) → ((x : A) (y : B) → f x ≡ Ok y → v y ≤ u x)
    → (xs : List A) (ys : List B) → all_of f xs ≡ Ok ys → total v ys ≤ total u xs
all_weight f u v each [] ys is = let same : [] ≡ ys = cc in rw (← same) (omega arith)
all_weight f u v each (x ∷ xs) ys is = all_by v (f x) (all_of f xs) ys (u x) (total u xs) (each x) (all_weight f u v each xs) is

pass_by : {B : Type 0} (p : B → Bool) (r : Result B SyntaxFault) (rs : Result (List B) SyntaxFault) (zs : List B)
    → ((y : B) → r ≡ Ok y → p y ≡ true) → ((ys : List B) → rs ≡ Ok ys → list_all p ys ≡ true)
    → (r >>= λ y. rs >>= λ ys. Ok (y ∷ ys)) ≡ Ok zs → list_all p zs ≡ true
pass_by p (Ok y) (Ok ys) zs first rest is =
    let same : y ∷ ys ≡ zs = cc in
    rw (← same) (and_from (p y) (list_all p ys) (first y refl) (rest ys refl))
pass_by p (Ok y) (Err fault) zs first rest is = absurd (cc)
pass_by p (Err fault) rs zs first rest is = absurd (cc)

-- each part that is read of one of weight at most n passes
pub all_pass : {A B : Type 0} (f : A → Result B SyntaxFault) (u : A → ℕ) (p : B → Bool) (n : ℕ) → ((x : A) (y : B) → u x ≤ n → f x ≡ Ok y → p y ≡ true)
    → (xs : List A) (ys : List B) → total u xs ≤ n → all_of f xs ≡ Ok ys → list_all p ys ≡ true
all_pass f u p n each [] ys le is = let same : [] ≡ ys = cc in rw (← same) refl
all_pass f u p n each (x ∷ xs) ys le is =
    let here : u x ≤ n = omega arith in
    let following : total u xs ≤ n = omega arith in
    pass_by p (f x) (all_of f xs) ys (λ y. each x y here) (λ zs. all_pass f u p n each xs zs following) is

-- the lexemes of a text have no more bytes than the text
abbrev bytes : List (List ℕ) → ℕ
bytes ls = total (λ (l : List ℕ). length l) ls

onto_bytes : (b : ℕ) (ls : List (List ℕ)) → bytes (onto_first b ls) ≡ suc (bytes ls)
onto_bytes b [] = refl
onto_bytes b (l ∷ ls) = omega arith

quoted_by : (b : ℕ) (inner outer : List (List ℕ)) (n : ℕ) (ends : Bool) → bytes inner ≤ n → bytes outer ≤ n
    → bytes (if ends then (39 ∷ []) ∷ outer else onto_first b inner) ≤ suc n
quoted_by b inner outer n true in_le out_le = omega arith
quoted_by b inner outer n false in_le out_le = rw (onto_bytes b inner) (omega arith)

plain_by : (b : ℕ) (inner outer : List (List ℕ)) (n : ℕ) (comment blank quote word : Bool) → bytes inner ≤ n → bytes outer ≤ n
    → bytes
    (if comment then [] else (if blank then outer else (if quote then onto_first 39 inner else (if word then onto_first b outer else (b ∷ []) ∷ outer))))
    ≤ suc n
plain_by b inner outer n true blank quote word in_le out_le = omega arith
plain_by b inner outer n false true quote word in_le out_le = omega arith
plain_by b inner outer n false false true word in_le out_le = rw (onto_bytes 39 inner) (omega arith)
plain_by b inner outer n false false false true in_le out_le = rw (onto_bytes b outer) (omega arith)
plain_by b inner outer n false false false false in_le out_le = omega arith

lexemes_bytes : (is_quoted : Bool) (bs : List ℕ) → bytes (lexemes_from is_quoted bs) ≤ length bs
lexemes_bytes true [] = omega arith
lexemes_bytes false [] = omega arith
lexemes_bytes true (b ∷ bs) =
    quoted_by b (lexemes_from true bs) (lexemes_from false bs) (length bs) (b == 39) (lexemes_bytes true bs) (lexemes_bytes false bs)
lexemes_bytes false (b ∷ bs) =
    plain_by b (lexemes_from true bs) (lexemes_from false bs) (length bs) (b == 59) (is_blank b) (b == 39)
    (is_word_byte b && begins_with is_word_byte bs) (lexemes_bytes true bs) (lexemes_bytes false bs)

-- a quoted text weighs more than its characters, any other token one
abbrev pub token_weight : Token → ℕ
token_weight (Quoted text) = 1 + length text
token_weight t = 1

abbrev pub weight : List Token → ℕ
weight ts = total token_weight ts

pub some_weight : (t : Token) → 1 ≤ token_weight t
some_weight (Quoted text) = omega arith
some_weight t = omega arith

begun : (passes : ℕ → Bool) (l : List ℕ) → begins_with passes l ≡ true → 1 ≤ length l
begun passes [] is = absurd (cc)
begun passes (b ∷ bs) is = omega arith

word_is : (is_long : Bool) (m : Option Meaning) (name : Name) (t : Token) → (if is_long then None else Some (option_map_or Word m (Named name))) ≡ Some t
    → token_weight t ≡ 1
word_is true m name t is = absurd (cc)
word_is false (Some m) name t is = let same : Word m ≡ t = cc in rw (← same) refl
word_is false None name t is = let same : Named name ≡ t = cc in rw (← same) refl

word_le : (l : List ℕ) (t : Token) → 1 ≤ length l → word_token l ≡ Some t → token_weight t ≤ length l
unfolding word_token
word_le l t some is = let one = word_is (nat_lt 31 (length l)) (meaning_of l) (name_of l) t is in omega arith

number_is : (is_one : Bool) (n : Option ℕ) (t : Token) → (if is_one then Some One else option_map Number n) ≡ Some t → token_weight t ≡ 1
number_is true n t is = let same : One ≡ t = cc in rw (← same) refl
number_is false (Some n) t is = let same : Number n ≡ t = cc in rw (← same) refl
number_is false None t is = absurd (cc)

number_le : (l : List ℕ) (t : Token) → 1 ≤ length l → number_token l ≡ Some t → token_weight t ≤ length l
unfolding number_token
number_le l t some is = let one = number_is _ (number_of l) t is in omega arith

text_le : (text : List ℕ) → token_weight (text_token text) ≤ 1 + length text
text_le [] = omega arith
text_le (c ∷ []) = omega arith
text_le (c ∷ d ∷ ds) = omega arith

between_le : (l : List ℕ) → 3 ≤ length l → 1 + length (between_quotes l) ≤ length l
between_le l long = omega (arith, length-take (length l - 2) (drop 1 l))

quoted_is : (l : List ℕ) (test : Bool) (t : Token) → (test ≡ true → 3 ≤ length l) → (if test then Some (text_token (between_quotes l)) else None) ≡ Some t
    → token_weight t ≤ length l
quoted_is l true t long is =
    let same : text_token (between_quotes l) ≡ t = cc in
    let text = text_le (between_quotes l) in
    let inner = between_le l (long refl) in
    rw (← same) (omega arith)
quoted_is l false t long is = absurd (cc)

quoted_le : (l : List ℕ) (t : Token) → quoted_token l ≡ Some t → token_weight t ≤ length l
unfolding quoted_token
quoted_le l t is =
    quoted_is l (nat_le 3 (length l) && last_byte l == 39) t (λ test. from_le 3 (length l) ((and_parts (nat_le 3 (length l)) (last_byte l == 39) test).0)) is

punctuator_is : (m : Option PunctuatorType) (t : Token) → option_map Punctuator m ≡ Some t → token_weight t ≡ 1
punctuator_is (Some m) t is = let same : Punctuator m ≡ t = cc in rw (← same) refl
punctuator_is None t is = absurd (cc)

punctuator_le : (l : List ℕ) (t : Token) → punctuator_token l ≡ Some t → token_weight t ≤ length l
punctuator_le [] t is = absurd (cc)
punctuator_le (b ∷ []) t is = let one = punctuator_is (punctuator_of b) t is in omega arith
punctuator_le (b ∷ c ∷ cs) t is = absurd (cc)

kind_le : (l : List ℕ) (t : Token) (letter digit quote : Bool) → (letter ≡ true → 1 ≤ length l) → (digit ≡ true → 1 ≤ length l)
    → (if letter then word_token l else (if digit then number_token l else (if quote then quoted_token l else punctuator_token l))) ≡ Some t
    → token_weight t ≤ length l
kind_le l t true digit quote is_word is_number is = word_le l t (is_word refl) is
kind_le l t false true quote is_word is_number is = number_le l t (is_number refl) is
kind_le l t false false true is_word is_number is = quoted_le l t is
kind_le l t false false false is_word is_number is = punctuator_le l t is

token_le : (l : List ℕ) (t : Token) → token_of l ≡ Some t → token_weight t ≤ length l
unfolding token_of
token_le l t is =
    kind_le l t (begins_with is_letter l) (begins_with is_digit l) (begins_with (λ b. b == 39) l) (begun is_letter l) (begun is_digit l) is

wanted_is : {A : Type 0} (o : Option A) (x : A) → wanted o ≡ Ok x → o ≡ Some x
wanted_is (Some y) x is = cc
wanted_is None x is = absurd (cc)

pub tokens_le : (text : List ℕ) (ts : List Token) → tokens_of (lexemes text) ≡ Ok ts → weight ts ≤ length text
unfolding tokens_of lexemes
tokens_le text ts is =
    let read = all_weight (λ lexeme. wanted (token_of lexeme)) (λ (l : List ℕ). length l) token_weight
    (λ l t found. token_le l t (wanted_is (token_of l) t found)) (lexemes_from false text) ts is in
    let all = lexemes_bytes false text in
    omega arith
