-- The quoted texts that are read of a line are bytes.
use Rattle.std.proofs.Common.{◌≡◌, ◌∙◌, ℕ, zero, suc, ◌+◌, ◌-◌, ◌<◌, Bool, true, false, ◌==◌, ◌&&◌, if◌then◌else◌, nat_lt}
use Rattle.std.proofs.Common.{nat_le, List, [], ◌∷◌, length, take, drop, Option, Some, None, refl, arith, Result, Ok, Err}
use Rattle.std.specs.Prelude.{position}
use Rattle.std.specs.List.{list_all}
use Rattle.std.specs.Option.{option_map, option_map_or}
use Rattle.std.proofs.lemmas.Bool.{and_from, and_parts}
use Rattle.std.proofs.lemmas.Bool.Decides.{nat_tests}
use Rattle.isa.specs.declared.form.Prefix.{Prefix}
use Rattle.isa.specs.declared.form.Prefix.TheVariants as prefixes
use Rattle.isa.specs.declared.register.SegmentRegister.{SegmentRegister}
use Rattle.dialect.specs.declared.meaning.Meaning.{Meaning}
use Rattle.dialect.specs.declared.meaning.Meaning.TheVariants as meanings
use Rattle.dialect.specs.declared.mnemonic.Mnemonic.{Mnemonic}
use Rattle.dialect.specs.declared.register.Register.TheVariants as registers
use Rattle.dialect.specs.declared.keyword.Keyword.{Keyword}
use Rattle.dialect.specs.declared.keyword.Keyword.TheVariants as keywords
use Rattle.dialect.specs.Words.{meaning_of}
use Rattle.board_types.specs.TextLines.{begins_with, onto_first}
use Rattle.assembler_lexeme.specs.declared.fault.SyntaxFault.{SyntaxFault}
use Rattle.assembler_lexeme.specs.declared.fault.SyntaxFault.TheVariants.{BadLine, UnknownName, BadCharacter}
use Rattle.assembler_lexeme.specs.declared.name.Name.{Name}
use Rattle.assembler_lexeme.specs.declared.token.Token.{Token}
use Rattle.assembler_lexeme.specs.declared.token.Token.TheVariants.{One, Number, Named, Quoted, Word, Punctuator}
use Rattle.assembler_lexeme.specs.declared.token.Punctuator.{Punctuator as PunctuatorType}
use Rattle.assembler_lexeme.specs.declared.token.Punctuator.TheVariants as punctuators
use Rattle.assembler_lexeme.specs.Lexemes.{is_character, is_letter, is_digit, is_blank, is_word_byte, lexemes_from, lexemes}
use Rattle.assembler_lexeme.specs.Faults.{◌>>=◌, all_of, wanted}
use Rattle.assembler_lexeme.specs.Numbers.{last_byte, number_of}
use Rattle.assembler_lexeme.specs.Tokens.{name_of, word_token, number_token, text_token, between_quotes}
use Rattle.assembler_lexeme.specs.Tokens.{quoted_token, punctuator_of, punctuator_token, token_of, tokens_of}
use Rattle.assembler_syntax.specs.declared.expression.Term.{Term}
use Rattle.assembler_syntax.specs.declared.statement.DataWidth.{DataWidth}
use Rattle.assembler_syntax.specs.declared.statement.DataWidth.TheVariants as widths
use Rattle.assembler_syntax.specs.declared.statement.Piece.{Piece}
use Rattle.assembler_syntax.specs.declared.statement.Piece.TheVariants as pieces
use Rattle.assembler_syntax.specs.declared.statement.Item.{Item}
use Rattle.assembler_syntax.specs.declared.statement.Item.TheVariants as items
use Rattle.assembler_syntax.specs.declared.statement.Statement.{Statement}
use Rattle.assembler_syntax.specs.declared.statement.Statement.TheVariants as statements
use Rattle.assembler_syntax.specs.declared.statement.Line.{Line}
use Rattle.assembler_syntax.specs.PartSteps.{parts, parts_from, parts_here, is_open_after, onto_part, at_place, around}
use Rattle.assembler_syntax.specs.PartSteps.{closed, is_colon, is_open_parenthesis, is_close_parenthesis, is_dup}
use Rattle.assembler_syntax.specs.ExpressionSteps.{expression_of, constant_of}
use Rattle.assembler_syntax.specs.OperandSteps.{operands_of}
use Rattle.assembler_syntax.specs.ItemSteps.{value_piece, single_piece, piece_of, pieces_of, in_parentheses, repeated, item_by, item_of, items_of}
use Rattle.assembler_syntax.specs.StatementSteps.{segment_by, is_at, segment_of, ends_of, org_of, data_of, equ_of, directive_of}
use Rattle.assembler_syntax.specs.StatementSteps.{instruction_of, onto_prefixes, segment_token, prefixes_of, is_directive, keyword_statement}
use Rattle.assembler_syntax.specs.StatementSteps.{word_statement, led_statement, statement_after, prefixed_statement, is_equ, statement_of}
use Rattle.assembler_syntax.specs.LineSteps.{with_label, labelled, line_of, read_line as read_in_steps}
use Rattle.assembler_syntax.specs.Lines.{read_line}
use Rattle.assembler_syntax.proofs.Alike.{text_alike}

-- ---- bytes
unfoldable pub is_byte : ℕ → Bool
is_byte b = nat_lt b 256

abbrev pub are_bytes : List ℕ → Bool
are_bytes bytes = list_all is_byte bytes

pub byte_below : (b : ℕ) → is_byte b ≡ true → b < 256
unfolding is_byte
byte_below b is = grind (arith, nat_tests)

pub below_byte : (b : ℕ) → b < 256 → is_byte b ≡ true
unfolding is_byte
below_byte b is = grind (arith, nat_tests)

character_byte : (b : ℕ) → is_character b ≡ true → is_byte b ≡ true
unfolding is_byte
character_byte b is = grind (arith, nat_tests)

characters_bytes : (text : List ℕ) → list_all is_character text ≡ true → are_bytes text ≡ true
characters_bytes [] all = refl
characters_bytes (b ∷ bs) all =
    let both = and_parts (is_character b) (list_all is_character bs) all in
    and_from (is_byte b) (are_bytes bs) (character_byte b both.0) (characters_bytes bs both.1)

-- ---- a test that all elements pass is passed by those of a part
all_taken : {A : Type 0} (p : A → Bool) (k : ℕ) (xs : List A) → list_all p xs ≡ true → list_all p (take k xs) ≡ true
all_taken p zero xs all = refl
all_taken p (suc k) [] all = refl
all_taken p (suc k) (x ∷ xs) all =
    let both = and_parts (p x) (list_all p xs) all in and_from (p x) (list_all p (take k xs)) both.0 (all_taken p k xs both.1)

all_dropped : {A : Type 0} (p : A → Bool) (k : ℕ) (xs : List A) → list_all p xs ≡ true → list_all p (drop k xs) ≡ true
all_dropped p zero xs all = all
all_dropped p (suc k) [] all = refl
all_dropped p (suc k) (x ∷ xs) all = all_dropped p k xs ((and_parts (p x) (list_all p xs) all).1)

-- what is read of parts that pass passes
pass_by : {B : Type 0} (p : B → Bool) (r : Result B SyntaxFault) (rs : Result (List B) SyntaxFault) (zs : List B) → ((y : B) → r ≡ Ok y → p y ≡ true)
    → ((ys : List B) → rs ≡ Ok ys → list_all p ys ≡ true) → (r >>= λ y. rs >>= λ ys. Ok (y ∷ ys)) ≡ Ok zs → list_all p zs ≡ true
pass_by p (Ok y) (Ok ys) zs first rest is = let same : y ∷ ys ≡ zs = cc in rw (← same) (and_from (p y) (list_all p ys) (first y refl) (rest ys refl))
pass_by p (Ok y) (Err fault) zs first rest is = absurd (cc)
pass_by p (Err fault) rs zs first rest is = absurd (cc)

all_read : {A B : Type 0} (f : A → Result B SyntaxFault) (q : A → Bool) (p : B → Bool) → ((x : A) (y : B) → q x ≡ true → f x ≡ Ok y → p y ≡ true)
    → (xs : List A) (ys : List B) → list_all q xs ≡ true → all_of f xs ≡ Ok ys → list_all p ys ≡ true
all_read f q p each [] ys all is = let same : [] ≡ ys = cc in rw (← same) refl
all_read f q p each (x ∷ xs) ys all is =
    let both = and_parts (q x) (list_all q xs) all in
    pass_by p (f x) (all_of f xs) ys (λ y. each x y both.0) (λ zs. all_read f q p each xs zs both.1) is

-- ---- lexemes
onto_bytes : (b : ℕ) (ls : List (List ℕ)) → is_byte b ≡ true → list_all are_bytes ls ≡ true → list_all are_bytes (onto_first b ls) ≡ true
onto_bytes b [] is all = and_from (is_byte b && true) true (and_from (is_byte b) true is refl) refl
onto_bytes b (l ∷ ls) is all =
    let both = and_parts (are_bytes l) (list_all are_bytes ls) all in
    and_from (is_byte b && are_bytes l) (list_all are_bytes ls) (and_from (is_byte b) (are_bytes l) is both.0) both.1

alone_bytes : (b : ℕ) (ls : List (List ℕ)) → is_byte b ≡ true → list_all are_bytes ls ≡ true → list_all are_bytes ((b ∷ []) ∷ ls) ≡ true
alone_bytes b ls is all = and_from (is_byte b && true) (list_all are_bytes ls) (and_from (is_byte b) true is refl) all

quote_byte : is_byte 39 ≡ true
unfolding is_byte
quote_byte = refl

quoted_by : (b : ℕ) (inner outer : List (List ℕ)) (ends : Bool) → is_byte b ≡ true → list_all are_bytes inner ≡ true → list_all are_bytes outer ≡ true
    → list_all are_bytes (if ends then (39 ∷ []) ∷ outer else onto_first b inner) ≡ true
quoted_by b inner outer true is in_all out_all = alone_bytes 39 outer quote_byte out_all
quoted_by b inner outer false is in_all out_all = onto_bytes b inner is in_all

plain_by : (b : ℕ) (inner outer : List (List ℕ)) (comment blank quote word : Bool) → is_byte b ≡ true → list_all are_bytes inner ≡ true
    → list_all are_bytes outer ≡ true
    → list_all are_bytes
    (if comment then [] else (if blank then outer else (if quote then onto_first 39 inner else (if word then onto_first b outer else (b ∷ []) ∷ outer))))
    ≡ true
plain_by b inner outer true blank quote word is in_all out_all = refl
plain_by b inner outer false true quote word is in_all out_all = out_all
plain_by b inner outer false false true word is in_all out_all = onto_bytes 39 inner quote_byte in_all
plain_by b inner outer false false false true is in_all out_all = onto_bytes b outer is out_all
plain_by b inner outer false false false false is in_all out_all = alone_bytes b outer is out_all

lexemes_bytes : (is_quoted : Bool) (bs : List ℕ) → are_bytes bs ≡ true → list_all are_bytes (lexemes_from is_quoted bs) ≡ true
lexemes_bytes true [] all = refl
lexemes_bytes false [] all = refl
lexemes_bytes true (b ∷ bs) all =
    let both = and_parts (is_byte b) (are_bytes bs) all in
    quoted_by b (lexemes_from true bs) (lexemes_from false bs) (b == 39) both.0 (lexemes_bytes true bs both.1) (lexemes_bytes false bs both.1)
lexemes_bytes false (b ∷ bs) all =
    let both = and_parts (is_byte b) (are_bytes bs) all in
    plain_by b (lexemes_from true bs) (lexemes_from false bs) (b == 59) (is_blank b) (b == 39) (is_word_byte b && begins_with is_word_byte bs) both.0
    (lexemes_bytes true bs both.1) (lexemes_bytes false bs both.1)

-- ---- tokens
abbrev pub has_bytes : Token → Bool
has_bytes (Quoted text) = are_bytes text
has_bytes t = true

abbrev pub have_bytes : List Token → Bool
have_bytes ts = list_all has_bytes ts

word_is : (is_long : Bool) (m : Option Meaning) (name : Name) (t : Token)
    → (if is_long then None else Some (option_map_or Word m (Named name))) ≡ Some t → has_bytes t ≡ true
word_is true m name t is = absurd (cc)
word_is false (Some m) name t is = let same : Word m ≡ t = cc in rw (← same) refl
word_is false None name t is = let same : Named name ≡ t = cc in rw (← same) refl

word_in : (l : List ℕ) (t : Token) → word_token l ≡ Some t → has_bytes t ≡ true
unfolding word_token
word_in l t is = word_is (nat_lt 31 (length l)) (meaning_of l) (name_of l) t is

number_is : (is_one : Bool) (n : Option ℕ) (t : Token) → (if is_one then Some One else option_map Number n) ≡ Some t → has_bytes t ≡ true
number_is true n t is = let same : One ≡ t = cc in rw (← same) refl
number_is false (Some n) t is = let same : Number n ≡ t = cc in rw (← same) refl
number_is false None t is = absurd (cc)

number_in : (l : List ℕ) (t : Token) → number_token l ≡ Some t → has_bytes t ≡ true
unfolding number_token
number_in l t is = number_is _ (number_of l) t is

text_in : (text : List ℕ) → are_bytes text ≡ true → has_bytes (text_token text) ≡ true
text_in [] all = refl
text_in (c ∷ []) all = refl
text_in (c ∷ d ∷ ds) all = all

quoted_is : (l : List ℕ) (test : Bool) (t : Token) → are_bytes l ≡ true
    → (if test then Some (text_token (between_quotes l)) else None) ≡ Some t → has_bytes t ≡ true
quoted_is l true t all is =
    let same : text_token (between_quotes l) ≡ t = cc in
    rw (← same) (text_in (between_quotes l) (all_taken is_byte (length l - 2) (drop 1 l) (all_dropped is_byte 1 l all)))
quoted_is l false t all is = absurd (cc)

quoted_in : (l : List ℕ) (t : Token) → are_bytes l ≡ true → quoted_token l ≡ Some t → has_bytes t ≡ true
unfolding quoted_token
quoted_in l t all is = quoted_is l (nat_le 3 (length l) && last_byte l == 39) t all is

punctuator_is : (m : Option PunctuatorType) (t : Token) → option_map Punctuator m ≡ Some t → has_bytes t ≡ true
punctuator_is (Some m) t is = let same : Punctuator m ≡ t = cc in rw (← same) refl
punctuator_is None t is = absurd (cc)

punctuator_in : (l : List ℕ) (t : Token) → punctuator_token l ≡ Some t → has_bytes t ≡ true
punctuator_in [] t is = absurd (cc)
punctuator_in (b ∷ []) t is = punctuator_is (punctuator_of b) t is
punctuator_in (b ∷ c ∷ cs) t is = absurd (cc)

kind_in : (l : List ℕ) (t : Token) (letter digit quote : Bool) → are_bytes l ≡ true
    → (if letter then word_token l else (if digit then number_token l else (if quote then quoted_token l else punctuator_token l))) ≡ Some t
    → has_bytes t ≡ true
kind_in l t true digit quote all is = word_in l t is
kind_in l t false true quote all is = number_in l t is
kind_in l t false false true all is = quoted_in l t all is
kind_in l t false false false all is = punctuator_in l t is

wanted_is : {A : Type 0} (o : Option A) (x : A) → wanted o ≡ Ok x → o ≡ Some x
wanted_is (Some y) x is = cc
wanted_is None x is = absurd (cc)

token_in : (l : List ℕ) (t : Token) → are_bytes l ≡ true → wanted (token_of l) ≡ Ok t → has_bytes t ≡ true
unfolding token_of
token_in l t all is = kind_in l t (begins_with is_letter l) (begins_with is_digit l) (begins_with (λ b. b == 39) l) all (wanted_is (token_of l) t is)

tokens_in : (text : List ℕ) (ts : List Token) → are_bytes text ≡ true → tokens_of (lexemes text) ≡ Ok ts → have_bytes ts ≡ true
unfolding tokens_of lexemes
tokens_in text ts all is =
    all_read (λ lexeme. wanted (token_of lexeme)) are_bytes has_bytes token_in (lexemes_from false text) ts (lexemes_bytes false text all) is

-- ---- parts of tokens
onto_have : (t : Token) (ps : List (List Token)) → has_bytes t ≡ true → list_all have_bytes ps ≡ true → list_all have_bytes (onto_part t ps) ≡ true
onto_have t [] is all = and_from (has_bytes t && true) true (and_from (has_bytes t) true is refl) refl
onto_have t (p ∷ ps) is all =
    let both = and_parts (have_bytes p) (list_all have_bytes ps) all in
    and_from (has_bytes t && have_bytes p) (list_all have_bytes ps) (and_from (has_bytes t) (have_bytes p) is both.0) both.1

parts_by : (t : Token) (ended going : List (List Token)) (here : Bool) → has_bytes t ≡ true → list_all have_bytes ended ≡ true
    → list_all have_bytes going ≡ true → list_all have_bytes (if here then [] ∷ ended else onto_part t going) ≡ true
parts_by t ended going true is ended_all going_all = ended_all
parts_by t ended going false is ended_all going_all = onto_have t going is going_all

parts_from_in : (is_open : Bool) (ts : List Token) → have_bytes ts ≡ true → list_all have_bytes (parts_from is_open ts) ≡ true
parts_from_in is_open [] all = refl
parts_from_in is_open (t ∷ ts) all =
    let both = and_parts (has_bytes t) (have_bytes ts) all in
    parts_by t (parts_from false ts) (parts_from (is_open_after is_open t) ts) (parts_here is_open t) both.0 (parts_from_in false ts both.1)
    (parts_from_in (is_open_after is_open t) ts both.1)

parts_in : (ts : List Token) → have_bytes ts ≡ true → list_all have_bytes (parts ts) ≡ true
unfolding parts
parts_in ts all = parts_from_in false ts all

record HaveBoth (p : List Token × List Token) : Type 0 where
  front : have_bytes p.0 ≡ true
  back : have_bytes p.1 ≡ true

at_in : (ts : List Token) (place : Option ℕ) (p : List Token × List Token) → have_bytes ts ≡ true → at_place ts place ≡ Some p → HaveBoth p
at_in ts (Some k) p all is =
    let same : (take k ts, drop (k + 1) ts) ≡ p = cc in
    rw (← same) (record { front = all_taken has_bytes k ts all; back = all_dropped has_bytes (k + 1) ts all })
at_in ts None p all is = absurd (cc)

around_in : (passes : Token → Bool) (ts : List Token) (p : List Token × List Token) → have_bytes ts ≡ true → around passes ts ≡ Some p → HaveBoth p
around_in passes ts p all is = at_in ts (position passes ts) p all is

closed_is : (found : Option (List Token × List Token)) (inner : List Token) → closed found ≡ Ok inner → found ≡ Some (inner, [])
closed_is (Some (front, [])) inner is = cc
closed_is (Some (front, t ∷ ts)) inner is = absurd (cc)
closed_is None inner is = absurd (cc)

-- ---- data
abbrev pub is_bytes_piece : Piece → Bool
is_bytes_piece (pieces.Value value) = true
is_bytes_piece (pieces.Text text) = are_bytes text

abbrev pub is_bytes_item : Item → Bool
is_bytes_item (items.Once piece) = is_bytes_piece piece
is_bytes_item (items.Repeated count each) = list_all is_bytes_piece each

abbrev pub has_bytes_texts : Statement → Bool
has_bytes_texts (statements.Data width each) = list_all is_bytes_item each
has_bytes_texts statement = true

value_by : (r : Result (List Term) SyntaxFault) (p : Piece) → (r >>= λ value. Ok (pieces.Value value)) ≡ Ok p → is_bytes_piece p ≡ true
value_by (Ok terms) p is = let same : pieces.Value terms ≡ p = cc in rw (← same) refl
value_by (Err fault) p is = absurd (cc)

value_in : (ts : List Token) (p : Piece) → value_piece ts ≡ Ok p → is_bytes_piece p ≡ true
value_in ts p is = value_by (expression_of ts) p is

text_piece : (text : List ℕ) (p : Piece) → are_bytes text ≡ true → pieces.Text text ≡ p → is_bytes_piece p ≡ true
text_piece text p all same = rw (← same) all

single_in : (width : DataWidth) (t : Token) (p : Piece) → has_bytes t ≡ true → single_piece width t ≡ Ok p → is_bytes_piece p ≡ true
single_in widths.Byte (Quoted text) p all is = text_piece text p all (cc)
single_in widths.Byte One p all is = value_in (One ∷ []) p is
single_in widths.Byte (Number k) p all is = value_in (Number k ∷ []) p is
single_in widths.Byte (Named name) p all is = value_in (Named name ∷ []) p is
single_in widths.Byte (Word meaning) p all is = value_in (Word meaning ∷ []) p is
single_in widths.Byte (Punctuator punctuator) p all is = value_in (Punctuator punctuator ∷ []) p is
single_in widths.Word t p all is = value_in (t ∷ []) p is
single_in widths.Double t p all is = value_in (t ∷ []) p is

piece_in : (width : DataWidth) (ts : List Token) (p : Piece) → have_bytes ts ≡ true → piece_of width ts ≡ Ok p → is_bytes_piece p ≡ true
unfolding piece_of
piece_in width [] p all is = value_in [] p is
piece_in width (t ∷ []) p all is = single_in width t p ((and_parts (has_bytes t) true all).0) is
piece_in width (t ∷ u ∷ ts) p all is = value_in (t ∷ u ∷ ts) p is

pieces_in : (width : DataWidth) (ts : List Token) (ps : List Piece) → have_bytes ts ≡ true → pieces_of width ts ≡ Ok ps → list_all is_bytes_piece ps ≡ true
unfolding pieces_of
pieces_in width ts ps all is = all_read (piece_of width) have_bytes is_bytes_piece (piece_in width) (parts ts) ps (parts_in ts all) is

once_by : (r : Result Piece SyntaxFault) (i : Item) → ((p : Piece) → r ≡ Ok p → is_bytes_piece p ≡ true)
    → (r >>= λ piece. Ok (items.Once piece)) ≡ Ok i → is_bytes_item i ≡ true
once_by (Ok p) i in_piece is = let same : items.Once p ≡ i = cc in rw (← same) (in_piece p refl)
once_by (Err fault) i in_piece is = absurd (cc)

each_by : (count : List Term) (r : Result (List Piece) SyntaxFault) (i : Item) → ((ps : List Piece) → r ≡ Ok ps → list_all is_bytes_piece ps ≡ true)
    → (r >>= λ ps. Ok (items.Repeated count ps)) ≡ Ok i → is_bytes_item i ≡ true
each_by count (Ok ps) i in_pieces is = let same : items.Repeated count ps ≡ i = cc in rw (← same) (in_pieces ps refl)
each_by count (Err fault) i in_pieces is = absurd (cc)

repeated_by : (width : DataWidth) (r : Result (List Term) SyntaxFault) (s : Result (List Token) SyntaxFault) (i : Item)
    → ((inner : List Token) → s ≡ Ok inner → have_bytes inner ≡ true)
    → (r >>= λ count. s >>= λ inner. pieces_of width inner >>= λ each. Ok (items.Repeated count each)) ≡ Ok i → is_bytes_item i ≡ true
repeated_by width (Ok count) (Ok inner) i in_inner is = each_by count (pieces_of width inner) i (λ ps. pieces_in width inner ps (in_inner inner refl)) is
repeated_by width (Ok count) (Err fault) i in_inner is = absurd (cc)
repeated_by width (Err fault) s i in_inner is = absurd (cc)

parenthesis_by : (ts inner : List Token) (is_open : Bool) → have_bytes ts ≡ true
    → (if is_open then closed (around is_close_parenthesis ts) else Err BadLine) ≡ Ok inner → have_bytes inner ≡ true
parenthesis_by ts inner true all is = (around_in is_close_parenthesis ts (inner, []) all (closed_is (around is_close_parenthesis ts) inner is)).front
parenthesis_by ts inner false all is = absurd (cc)

parentheses_in : (ts inner : List Token) → have_bytes ts ≡ true → in_parentheses ts ≡ Ok inner → have_bytes inner ≡ true
parentheses_in [] inner all is = absurd (cc)
parentheses_in (t ∷ ts) inner all is = parenthesis_by ts inner (is_open_parenthesis t) ((and_parts (has_bytes t) (have_bytes ts) all).1) is

repeated_in : (width : DataWidth) (front back : List Token) (i : Item) → have_bytes back ≡ true → repeated width front back ≡ Ok i → is_bytes_item i ≡ true
unfolding repeated
repeated_in width front back i all is = repeated_by width (constant_of front) (in_parentheses back) i (λ inner. parentheses_in back inner all) is

item_by_in : (width : DataWidth) (ts : List Token) (found : Option (List Token × List Token)) (i : Item) → have_bytes ts ≡ true
    → ((p : List Token × List Token) → found ≡ Some p → HaveBoth p) → item_by found width ts ≡ Ok i → is_bytes_item i ≡ true
item_by_in width ts (Some p) i all both is = repeated_in width p.0 p.1 i ((both p refl).back) is
item_by_in width ts None i all both is = once_by (piece_of width ts) i (λ p. piece_in width ts p all) is

item_in : (width : DataWidth) (ts : List Token) (i : Item) → have_bytes ts ≡ true → item_of width ts ≡ Ok i → is_bytes_item i ≡ true
unfolding item_of
item_in width ts i all is = item_by_in width ts (around is_dup ts) i all (λ p. around_in is_dup ts p all) is

items_in : (width : DataWidth) (ts : List Token) (is : List Item) → have_bytes ts ≡ true → items_of width ts ≡ Ok is → list_all is_bytes_item is ≡ true
unfolding items_of
items_in width ts is all read = all_read (item_of width) have_bytes is_bytes_item (item_in width) (parts ts) is (parts_in ts all) read

-- ---- statements
data_by : (width : DataWidth) (r : Result (List Item) SyntaxFault) (s : Statement) → ((each : List Item) → r ≡ Ok each → list_all is_bytes_item each ≡ true)
    → (r >>= λ each. Ok (statements.Data width each)) ≡ Ok s → has_bytes_texts s ≡ true
data_by width (Ok each) s in_items is = let same : statements.Data width each ≡ s = cc in rw (← same) (in_items each refl)
data_by width (Err fault) s in_items is = absurd (cc)

data_in : (width : DataWidth) (ts : List Token) (s : Statement) → have_bytes ts ≡ true → data_of width ts ≡ Ok s → has_bytes_texts s ≡ true
unfolding data_of
data_in width ts s all is = data_by width (items_of width ts) s (λ each. items_in width ts each all) is

-- a statement that is made of what is read
made_by : {A : Type 0} (make : A → Statement) (r : Result A SyntaxFault) (s : Statement)
    → ((x : A) → has_bytes_texts (make x) ≡ true) → (r >>= λ x. Ok (make x)) ≡ Ok s → has_bytes_texts s ≡ true
made_by make (Ok x) s each is = let same : make x ≡ s = cc in rw (← same) (each x)
made_by make (Err fault) s each is = absurd (cc)

segment_by_in : (t : Token) (ts : List Token) (s : Statement) → segment_by t ts ≡ Ok s → has_bytes_texts s ≡ true
segment_by_in (Named name) ts s is = made_by (statements.Segment name) (constant_of ts) s (λ terms. refl) is
segment_by_in t ts s is = absurd (cc)

at_by : (t : Token) (ts : List Token) (s : Statement) (test : Bool) → (if test then segment_by t ts else Err BadLine) ≡ Ok s → has_bytes_texts s ≡ true
at_by t ts s true is = segment_by_in t ts s is
at_by t ts s false is = absurd (cc)

segment_in : (ts : List Token) (s : Statement) → segment_of ts ≡ Ok s → has_bytes_texts s ≡ true
unfolding segment_of
segment_in [] s is = absurd (cc)
segment_in (t ∷ []) s is = absurd (cc)
segment_in (t ∷ u ∷ ts) s is = at_by t ts s (is_at u) is

ends_in : (ts : List Token) (s : Statement) → ends_of ts ≡ Ok s → has_bytes_texts s ≡ true
unfolding ends_of
ends_in [] s is = let same : statements.Ends ≡ s = cc in rw (← same) refl
ends_in (t ∷ ts) s is = absurd (cc)

org_in : (ts : List Token) (s : Statement) → org_of ts ≡ Ok s → has_bytes_texts s ≡ true
unfolding org_of
org_in ts s is = made_by statements.Org (constant_of ts) s (λ terms. refl) is

equ_in : (t : Token) (ts : List Token) (s : Statement) → equ_of t ts ≡ Ok s → has_bytes_texts s ≡ true
unfolding equ_of
equ_in (Named name) ts s is = made_by (statements.Equ name) (constant_of ts) s (λ terms. refl) is
equ_in t ts s is = absurd (cc)

directive_in : (k : Keyword) (ts : List Token) (s : Statement) → have_bytes ts ≡ true → directive_of k ts ≡ Ok s → has_bytes_texts s ≡ true
unfolding directive_of
directive_in keywords.Segment ts s all is = segment_in ts s is
directive_in keywords.Ends ts s all is = ends_in ts s is
directive_in keywords.Org ts s all is = org_in ts s is
directive_in keywords.Db ts s all is = data_in widths.Byte ts s all is
directive_in keywords.Dw ts s all is = data_in widths.Word ts s all is
directive_in keywords.Dd ts s all is = data_in widths.Double ts s all is
directive_in k ts s all is = absurd (cc)

instruction_in : (ps : List Prefix) (m : Mnemonic) (ts : List Token) (s : Statement) → instruction_of ps m ts ≡ Ok s → has_bytes_texts s ≡ true
unfolding instruction_of
instruction_in ps m ts s is =
    made_by (λ operands. statements.Instruction (record { prefixes = ps; mnemonic = m; operands = operands })) (operands_of ts) s (λ operands. refl) is

prefixes_by : (s : SegmentRegister) (t : Token) (ts : List Token) (test : Bool) → have_bytes (prefixes_of ts).1 ≡ true → have_bytes (t ∷ ts) ≡ true
    → have_bytes (if test then onto_prefixes (prefixes.Segment s) (prefixes_of ts) else ([], segment_token s ∷ t ∷ ts)).1 ≡ true
prefixes_by s t ts true all more = all
prefixes_by s t ts false all more = more

prefixes_in : (ts : List Token) → have_bytes ts ≡ true → have_bytes (prefixes_of ts).1 ≡ true
prefixes_in (Word (meanings.Prefix p) ∷ ts) all = prefixes_in ts all
prefixes_in (Word (meanings.Register (registers.Segment s)) ∷ t ∷ ts) all =
    prefixes_by s t ts (is_colon t) (prefixes_in ts ((and_parts (has_bytes t) (have_bytes ts) all).1)) all
prefixes_in ts all = all

keyword_by : (s : Statement) (test : Bool) → ◌≡◌ {A = Result Statement SyntaxFault} (if test then Err BadLine else Err UnknownName) (Ok s)
    → has_bytes_texts s ≡ true
keyword_by s true is = absurd (cc)
keyword_by s false is = absurd (cc)

keyword_in : (ps : List Prefix) (k : Keyword) (ts : List Token) (s : Statement)
    → have_bytes ts ≡ true → keyword_statement ps k ts ≡ Ok s → has_bytes_texts s ≡ true
keyword_in [] k ts s all is = directive_in k ts s all is
keyword_in (p ∷ ps) k ts s all is = keyword_by s (is_directive k) is

word_statement_in : (ps : List Prefix) (m : Meaning) (ts : List Token) (s : Statement)
    → have_bytes ts ≡ true → word_statement ps m ts ≡ Ok s → has_bytes_texts s ≡ true
word_statement_in ps (meanings.Mnemonic m) ts s all is = instruction_in ps m ts s is
word_statement_in ps (meanings.Keyword k) ts s all is = keyword_in ps k ts s all is
word_statement_in ps m ts s all is = absurd (cc)

led_in : (ps : List Prefix) (t : Token) (ts : List Token) (s : Statement) → have_bytes ts ≡ true → led_statement ps t ts ≡ Ok s → has_bytes_texts s ≡ true
led_in ps (Word m) ts s all is = word_statement_in ps m ts s all is
led_in ps t ts s all is = absurd (cc)

after_in : (ps : List Prefix) (ts : List Token) (s : Statement) → have_bytes ts ≡ true → statement_after ps ts ≡ Ok s → has_bytes_texts s ≡ true
unfolding statement_after
after_in ps [] s all is = absurd (cc)
after_in ps (t ∷ ts) s all is = led_in ps t ts s ((and_parts (has_bytes t) (have_bytes ts) all).1) is

prefixed_in : (ts : List Token) (s : Statement) → have_bytes ts ≡ true → prefixed_statement ts ≡ Ok s → has_bytes_texts s ≡ true
unfolding prefixed_statement
prefixed_in ts s all is = after_in (prefixes_of ts).0 (prefixes_of ts).1 s (prefixes_in ts all) is

second_by : (t u : Token) (ts : List Token) (s : Statement) (test : Bool) → have_bytes (t ∷ u ∷ ts) ≡ true
    → (if test then equ_of t ts else prefixed_statement (t ∷ u ∷ ts)) ≡ Ok s → has_bytes_texts s ≡ true
second_by t u ts s true all is = equ_in t ts s is
second_by t u ts s false all is = prefixed_in (t ∷ u ∷ ts) s all is

statement_in : (ts : List Token) (s : Statement) → have_bytes ts ≡ true → statement_of ts ≡ Ok s → has_bytes_texts s ≡ true
unfolding statement_of
statement_in [] s all is = let same : statements.Empty ≡ s = cc in rw (← same) refl
statement_in (t ∷ []) s all is = prefixed_in (t ∷ []) s all is
statement_in (t ∷ u ∷ ts) s all is = second_by t u ts s (is_equ u) all is

-- ---- lines
with_label_by : (label : Option Name) (r : Result Statement SyntaxFault) (line : Line) → ((s : Statement) → r ≡ Ok s → has_bytes_texts s ≡ true)
    → (r >>= λ s. Ok (record { label = label; statement = s })) ≡ Ok line → has_bytes_texts line.statement ≡ true
with_label_by label (Ok s) line in_statement is = let same : record { label = label; statement = s } ≡ line = cc in rw (← same) (in_statement s refl)
with_label_by label (Err fault) line in_statement is = absurd (cc)

with_label_in : (label : Option Name) (ts : List Token) (line : Line)
    → have_bytes ts ≡ true → with_label label ts ≡ Ok line → has_bytes_texts line.statement ≡ true
with_label_in label ts line all is = with_label_by label (statement_of ts) line (λ s. statement_in ts s all) is

named_in : (label : Name) (u : Token) (ts : List Token) (line : Line) → have_bytes (u ∷ ts) ≡ true → labelled (Named label) u ts ≡ Ok line
    → has_bytes_texts line.statement ≡ true
named_in label (Punctuator punctuators.Colon) ts line all is = with_label_in (Some label) ts line all is
named_in label u ts line all is = with_label_in None (Named label ∷ u ∷ ts) line all is

labelled_in : (t u : Token) (ts : List Token) (line : Line) → have_bytes (t ∷ u ∷ ts) ≡ true → labelled t u ts ≡ Ok line → has_bytes_texts line.statement ≡ true
labelled_in (Named label) u ts line all is = named_in label u ts line all is
labelled_in t u ts line all is = with_label_in None (t ∷ u ∷ ts) line all is

line_in : (ts : List Token) (line : Line) → have_bytes ts ≡ true → line_of ts ≡ Ok line → has_bytes_texts line.statement ≡ true
unfolding line_of
line_in [] line all is = with_label_in None [] line all is
line_in (t ∷ []) line all is = with_label_in None (t ∷ []) line all is
line_in (t ∷ u ∷ ts) line all is = labelled_in t u ts line all is

read_by : (r : Result (List Token) SyntaxFault) (line : Line) (test : Bool) → (test ≡ true → (ts : List Token) → r ≡ Ok ts → have_bytes ts ≡ true)
    → (if test then (r >>= line_of) else Err BadCharacter) ≡ Ok line → has_bytes_texts line.statement ≡ true
read_by (Ok ts) line true in_tokens is = line_in ts line (in_tokens refl ts refl) is
read_by (Err fault) line true in_tokens is = absurd (cc)
read_by r line false in_tokens is = absurd (cc)

steps_are_bytes : (text : List ℕ) (line : Line) → read_in_steps text ≡ Ok line → has_bytes_texts line.statement ≡ true
unfolding read_in_steps
steps_are_bytes text line is = read_by (tokens_of (lexemes text)) line (list_all is_character text) (λ all ts. tokens_in text ts (characters_bytes text all)) is

-- the quoted texts that are read of a line are bytes
pub texts_are_bytes : (text : List ℕ) (line : Line) → read_line text ≡ Ok line → has_bytes_texts line.statement ≡ true
texts_are_bytes text line is = steps_are_bytes text line (text_alike text ∙ is)
