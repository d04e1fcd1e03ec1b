-- How pieces of a text are read as tokens, whatever follows them.
use Rattle.std.proofs.Common.{◌≡◌, ◌∙◌, ℕ, suc, ◌+◌, ◌*◌, ◌/◌, ◌%◌, ◌<◌, List, [], ◌∷◌, ◌++◌, length, append_assoc, refl, sym, ap, subst}
use Rattle.std.proofs.Common.{arith, Bool, true, false, ◌&&◌, if◌then◌else◌, Option, None, Some, Ok, option_and_then, nat_lt, nat_le}
use Rattle.std.specs.List.{list_all}
use Rattle.std.specs.Option.{option_map}
use Rattle.std.specs.Fmt.{digit_glyph}
use Rattle.std.proofs.lemmas.Bool.{and_from, and_parts}
use Rattle.std.proofs.lemmas.Bool.Decides.{nat_tests}
use Rattle.dialect.specs.declared.meaning.Meaning.{Meaning}
use Rattle.dialect.specs.Words.{meaning_of}
use Rattle.board_types.specs.Digits.{digit_of, spelled}
use Rattle.board_types.specs.TextLines.{begins_with, onto_first}
use Rattle.assembler_lexeme.specs.declared.token.Token.{Token}
use Rattle.assembler_lexeme.specs.declared.token.Token.TheVariants.{Number, Word}
use Rattle.assembler_lexeme.specs.Lexemes.{is_character, is_letter, is_word_byte, lexemes_from}
use Rattle.assembler_lexeme.specs.Numbers.{in_bounds, number_of, number_to}
use Rattle.assembler_lexeme.specs.Tokens.{number_token, token_of, tokens_of, word_token}
use Rattle.assembler_lexeme.proofs.Scanning.{word_start}
use Rattle.disassembler.specs.Text.{byte_text, word_text}

-- a text of characters that has these tokens
pub record Reads (text : List ℕ) (ts : List Token) : Type 0 where
  pub characters : list_all is_character text ≡ true
  pub tokens : tokens_of (lexemes_from false text) ≡ Ok ts

pub reads_nothing : Reads [] []
unfolding tokens_of
reads_nothing = record { characters = refl; tokens = refl }

-- what may follow a piece that ends with a word: another byte than a word's, or the end
abbrev pub stops : List ℕ → Type 0
stops rest = begins_with is_word_byte rest ≡ false

abbrev pub Says : List ℕ → List Token → Type 0
Says a ts = (rest : List ℕ) (us : List Token) → stops rest → Reads rest us → Reads (a ++ rest) (ts ++ us)

-- a piece that ends with a mark or a blank is read as its tokens, whatever follows it
abbrev pub Opens : List ℕ → List Token → Type 0
Opens a ts = (rest : List ℕ) (us : List Token) → Reads rest us → Reads (a ++ rest) (ts ++ us)

pub open_says : (a : List ℕ) (ts : List Token) → Opens a ts → Says a ts
open_says a ts opens rest us here reads = opens rest us reads

-- pieces in turn
assoc_reads : (a b rest : List ℕ) (ts us vs : List Token) → Reads (a ++ (b ++ rest)) (ts ++ (us ++ vs)) → Reads ((a ++ b) ++ rest) ((ts ++ us) ++ vs)
assoc_reads a b rest ts us vs reads =
    subst (λ (xs : List ℕ). Reads xs ((ts ++ us) ++ vs)) (sym (append_assoc a b rest))
    (subst (λ (xs : List Token). Reads (a ++ (b ++ rest)) xs) (sym (append_assoc ts us vs)) reads)

pub opens_then : (a b : List ℕ) (ts us : List Token) → Opens a ts → Says b us → Says (a ++ b) (ts ++ us)
opens_then a b ts us one two rest vs here reads = assoc_reads a b rest ts us vs (one (b ++ rest) (us ++ vs) (two rest vs here reads))

pub opens_opens : (a b : List ℕ) (ts us : List Token) → Opens a ts → Opens b us → Opens (a ++ b) (ts ++ us)
opens_opens a b ts us one two rest vs reads = assoc_reads a b rest ts us vs (one (b ++ rest) (us ++ vs) (two rest vs reads))

-- a byte that is none of a word, in front of anything
pub says_then : (a : List ℕ) (c : ℕ) (b : List ℕ) (ts us : List Token) → is_word_byte c ≡ false → Says a ts → Says (c ∷ b) us → Says (a ++ (c ∷ b)) (ts ++ us)
says_then a c b ts us parts one two rest vs here reads =
    assoc_reads a (c ∷ b) rest ts us vs (one (c ∷ (b ++ rest)) (us ++ vs) parts (two rest vs here reads))

pub says_opens : (a : List ℕ) (c : ℕ) (b : List ℕ) (ts us : List Token)
    → is_word_byte c ≡ false → Says a ts → Opens (c ∷ b) us → Opens (a ++ (c ∷ b)) (ts ++ us)
says_opens a c b ts us parts one two rest vs reads =
    assoc_reads a (c ∷ b) rest ts us vs (one (c ∷ (b ++ rest)) (us ++ vs) parts (two rest vs reads))

-- ---- marks and blanks
token_more : (lexeme : List ℕ) (lexemes : List (List ℕ)) (t : Token) (ts : List Token) → token_of lexeme ≡ Some t → tokens_of lexemes ≡ Ok ts
    → tokens_of (lexeme ∷ lexemes) ≡ Ok (t ∷ ts)
unfolding tokens_of
token_more lexeme lexemes t ts is more = rw (is, more) refl

pub opens_blank : Opens (32 ∷ []) []
opens_blank rest us reads = record { characters = reads.characters; tokens = reads.tokens }

pub opens_punctuator : (b : ℕ) (t : Token) → ((rest : List ℕ) → lexemes_from false (b ∷ rest) ≡ (b ∷ []) ∷ lexemes_from false rest)
    → is_character b ≡ true → token_of (b ∷ []) ≡ Some t → Opens (b ∷ []) (t ∷ [])
opens_punctuator b t alone character is rest us reads = record {
  characters = and_from (is_character b) (list_all is_character rest) character reads.characters;
  tokens = ap tokens_of (alone rest) ∙ token_more (b ∷ []) (lexemes_from false rest) t us is reads.tokens;
}

-- ---- words
all_characters : (w rest : List ℕ) → list_all is_word_byte w ≡ true → list_all is_character rest ≡ true → list_all is_character (w ++ rest) ≡ true
all_characters [] rest all more = more
all_characters (b ∷ bs) rest all more =
    let parts = and_parts (is_word_byte b) (list_all is_word_byte bs) all in
    and_from (is_character b) (list_all is_character (bs ++ rest)) (a_character b parts.0) (all_characters bs rest parts.1 more)
  where
    a_character : (b : ℕ) → is_word_byte b ≡ true → is_character b ≡ true
    a_character b word = grind (arith, nat_tests)

word_alone : (b : ℕ) (bs rest : List ℕ) → list_all is_word_byte (b ∷ bs) ≡ true → stops rest
    → lexemes_from false ((b ∷ bs) ++ rest) ≡ (b ∷ bs) ∷ lexemes_from false rest
word_alone b [] rest all here =
    word_start b rest (and_parts (is_word_byte b) true all).0
    ∙ ap (λ (more : Bool). if more then onto_first b (lexemes_from false rest) else (b ∷ []) ∷ lexemes_from false rest) here
word_alone b (c ∷ cs) rest all here =
    let parts = and_parts (is_word_byte b) (list_all is_word_byte (c ∷ cs)) all in
    let next = and_parts (is_word_byte c) (list_all is_word_byte cs) parts.1 in
    word_start b ((c ∷ cs) ++ rest) parts.0
    ∙ ap (λ (goes : Bool). if goes then onto_first b (lexemes_from false ((c ∷ cs) ++ rest)) else (b ∷ []) ∷ lexemes_from false ((c ∷ cs) ++ rest)) next.0
    ∙ ap (onto_first b) (word_alone c cs rest parts.1 here)

pub says_word : (b : ℕ) (bs : List ℕ) (t : Token) → list_all is_word_byte (b ∷ bs) ≡ true → token_of (b ∷ bs) ≡ Some t → Says (b ∷ bs) (t ∷ [])
says_word b bs t all is rest us here reads = record {
  characters = all_characters (b ∷ bs) rest all reads.characters;
  tokens = ap tokens_of (word_alone b bs rest all here) ∙ token_more (b ∷ bs) (lexemes_from false rest) t us is reads.tokens;
}

-- a word of the dialect
abbrev pub is_plain : List ℕ → Bool
is_plain [] = false
is_plain (b ∷ bs) = is_letter b && (list_all is_word_byte (b ∷ bs) && nat_le (length bs) 30)

meant_token : (w : List ℕ) (m : Meaning) → begins_with is_letter w ≡ true → nat_lt 31 (length w) ≡ false → meaning_of w ≡ Some m → token_of w ≡ Some (Word m)
unfolding token_of word_token
meant_token w m letter short means = rw (letter, short, means) refl

short_word : (n : ℕ) → nat_le n 30 ≡ true → nat_lt 31 (suc n) ≡ false
short_word n small = grind (arith, nat_tests)

pub says_meant : (w : List ℕ) (m : Meaning) → is_plain w ≡ true → meaning_of w ≡ Some m → Says w (Word m ∷ [])
says_meant [] m plain means = absurd (let never : false ≡ true = plain in cc)
says_meant (b ∷ bs) m plain means =
    let one = and_parts (is_letter b) (list_all is_word_byte (b ∷ bs) && nat_le (length bs) 30) plain in
    let two = and_parts (list_all is_word_byte (b ∷ bs)) (nat_le (length bs) 30) one.1 in
    says_word b bs (Word m) two.0 (meant_token (b ∷ bs) m one.0 (short_word (length bs) two.1) means)

-- ---- numbers
glyph_digit : (d : ℕ) → d < 16 → digit_of (digit_glyph true d) ≡ d
glyph_digit d small = grind (arith, nat_tests)

glyph_word : (d : ℕ) → d < 16 → is_word_byte (digit_glyph true d) ≡ true
glyph_word d small = grind (arith, nat_tests)

in_range : (n : ℕ) → n < 65536 → in_bounds n ≡ Some n
in_range n small = let fits : nat_lt n 4294967296 ≡ true = grind (arith, nat_tests) in rw fits refl

spelled_more : (front d : ℕ) (bs : List ℕ) → d < 16 → spelled 16 front (digit_glyph true d ∷ bs) ≡ spelled 16 (front * 16 + d) bs
spelled_more front d bs small =
    let is : digit_of (digit_glyph true d) ≡ d = glyph_digit d small in
    let below : nat_lt d 16 ≡ true = grind (arith, nat_tests) in
    step (digit_of (digit_glyph true d)) d is below
  where
    step : (v d : ℕ) → v ≡ d → nat_lt d 16 ≡ true → (if nat_lt v 16 then spelled 16 (front * 16 + v) bs else None) ≡ spelled 16 (front * 16 + d) bs
    step v d is below = rw (is, below) refl

two_digits : (a b : ℕ) → a < 16 → b < 16 → spelled 16 0 (48 ∷ digit_glyph true a ∷ digit_glyph true b ∷ []) ≡ Some (a * 16 + b)
two_digits a b p q =
    spelled_more 0 a (digit_glyph true b ∷ []) p ∙ (spelled_more (0 * 16 + a) b [] q ∙ ap Some (omega arith))

four_digits : (a b c d : ℕ) → a < 16 → b < 16 → c < 16 → d < 16
    → spelled 16 0 (48 ∷ digit_glyph true a ∷ digit_glyph true b ∷ digit_glyph true c ∷ digit_glyph true d ∷ []) ≡ Some (((a * 16 + b) * 16 + c) * 16 + d)
four_digits a b c d p q r s =
    spelled_more 0 a (digit_glyph true b ∷ digit_glyph true c ∷ digit_glyph true d ∷ []) p
    ∙ (spelled_more (0 * 16 + a) b (digit_glyph true c ∷ digit_glyph true d ∷ []) q
    ∙ (spelled_more ((0 * 16 + a) * 16 + b) c (digit_glyph true d ∷ []) r
    ∙ (spelled_more (((0 * 16 + a) * 16 + b) * 16 + c) d [] s ∙ ap Some (omega arith))))

byte_token : (a b n : ℕ) → spelled 16 0 (48 ∷ a ∷ b ∷ []) ≡ Some n → n < 65536 → token_of (48 ∷ a ∷ b ∷ 104 ∷ []) ≡ Some (Number n)
unfolding token_of number_token number_of number_to
byte_token a b n is small = ap (λ (o : Option ℕ). option_map Number (option_and_then in_bounds o)) is ∙ ap (option_map Number) (in_range n small)

word_number : (a b c d n : ℕ) → spelled 16 0 (48 ∷ a ∷ b ∷ c ∷ d ∷ []) ≡ Some n → n < 65536 → token_of (48 ∷ a ∷ b ∷ c ∷ d ∷ 104 ∷ []) ≡ Some (Number n)
unfolding token_of number_token number_of number_to
word_number a b c d n is small = ap (λ (o : Option ℕ). option_map Number (option_and_then in_bounds o)) is ∙ ap (option_map Number) (in_range n small)

pub says_byte : (n : ℕ) → n < 256 → Says (byte_text n) (Number n ∷ [])
says_byte n small =
    let high : n / 16 < 16 = omega arith in
    let low : n % 16 < 16 = omega arith in
    let one : is_word_byte (digit_glyph true (n / 16)) ≡ true = glyph_word (n / 16) high in
    let two : is_word_byte (digit_glyph true (n % 16)) ≡ true = glyph_word (n % 16) low in
    let value : n / 16 * 16 + n % 16 ≡ n = omega arith in
    says_word 48 (digit_glyph true (n / 16) ∷ digit_glyph true (n % 16) ∷ 104 ∷ []) (Number n) (rw (one, two) refl)
    (byte_token (digit_glyph true (n / 16)) (digit_glyph true (n % 16)) n (two_digits (n / 16) (n % 16) high low ∙ ap Some value) (omega arith))

pub says_number : (n : ℕ) → n < 65536 → Says (word_text n) (Number n ∷ [])
says_number n small =
    let h : n / 256 / 16 < 16 = omega arith in
    let i : n / 256 % 16 < 16 = omega arith in
    let j : n % 256 / 16 < 16 = omega arith in
    let k : n % 256 % 16 < 16 = omega arith in
    let one : is_word_byte (digit_glyph true (n / 256 / 16)) ≡ true = glyph_word (n / 256 / 16) h in
    let two : is_word_byte (digit_glyph true (n / 256 % 16)) ≡ true = glyph_word (n / 256 % 16) i in
    let three : is_word_byte (digit_glyph true (n % 256 / 16)) ≡ true = glyph_word (n % 256 / 16) j in
    let four : is_word_byte (digit_glyph true (n % 256 % 16)) ≡ true = glyph_word (n % 256 % 16) k in
    let value : ((n / 256 / 16 * 16 + n / 256 % 16) * 16 + n % 256 / 16) * 16 + n % 256 % 16 ≡ n = omega arith in
    says_word 48
    (digit_glyph true (n / 256 / 16) ∷ digit_glyph true (n / 256 % 16) ∷ digit_glyph true (n % 256 / 16) ∷ digit_glyph true (n % 256 % 16) ∷ 104 ∷ [])
    (Number n) (rw (one, two, three, four) refl)
    (word_number (digit_glyph true (n / 256 / 16)) (digit_glyph true (n / 256 % 16)) (digit_glyph true (n % 256 / 16)) (digit_glyph true (n % 256 % 16)) n
    (four_digits (n / 256 / 16) (n / 256 % 16) (n % 256 / 16) (n % 256 % 16) h i j k ∙ ap Some value) small)
