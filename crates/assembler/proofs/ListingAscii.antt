-- The names of a source are ASCII.
use Rattle.std.proofs.Common.{◌≡◌, ◌∙◌, ℕ, zero, suc, ◌-◌, ◌<◌, ◌==◌, List, [], ◌∷◌, ◌++◌, length, map, take, replicate, refl, sym, ap}
use Rattle.std.proofs.Common.{subst, arith, Bool, true, false, ◌&&◌, Option, None, Some, Result, Ok, Err, nat_le, nat_lt, if◌then◌else◌}
use Rattle.std.specs.Prelude.{slice_get, codes, ℤ}
use Rattle.std.specs.List.{AllByRecursion, list_all}
use Rattle.std.specs.Char.{to_ascii_uppercase}
use Rattle.std.specs.Option.{option_map, option_map_or}
use Rattle.std.specs.Str.{IsAscii, bytes_eq}
use Rattle.std.proofs.lemmas.Bool.{and_parts}
use Rattle.std.proofs.lemmas.Str.{IsAscii-append}
use Rattle.isa.specs.declared.form.Prefix.{Prefix as PrefixType}
use Rattle.dialect.specs.declared.mnemonic.Mnemonic.{Mnemonic as MnemonicType}
use Rattle.dialect.specs.declared.meaning.Meaning.{Meaning}
use Rattle.dialect.specs.declared.meaning.Meaning.TheVariants.{Mnemonic, Register, Prefix, Keyword}
use Rattle.dialect.specs.declared.register.Register.TheVariants as registers
use Rattle.dialect.specs.declared.keyword.Keyword.{Keyword as KeywordType}
use Rattle.dialect.specs.declared.keyword.Keyword.TheVariants as keywords
use Rattle.dialect.specs.Words.{meaning_of}
use Rattle.assembler_lexeme.specs.declared.fault.SyntaxFault.{SyntaxFault}
use Rattle.assembler_lexeme.specs.declared.fault.SyntaxFault.TheVariants.{BadCharacter, BadLine}
use Rattle.assembler_lexeme.specs.declared.name.Name.{Name}
use Rattle.assembler_syntax.specs.declared.expression.Term.{Term}
use Rattle.assembler_syntax.specs.declared.operand.Operand.{Operand}
use Rattle.assembler_syntax.specs.declared.statement.DataWidth.{DataWidth}
use Rattle.assembler_syntax.specs.declared.statement.Item.{Item}
use Rattle.assembler_syntax.specs.declared.statement.Line.{Line}
use Rattle.assembler_syntax.specs.declared.statement.Statement.{Statement}
use Rattle.assembler_syntax.specs.declared.statement.Statement.TheVariants as statements
use Rattle.assembler_lexeme.specs.declared.token.Token.{Token}
use Rattle.assembler_lexeme.specs.declared.token.Token.TheVariants.{One, Number, Named, Word, Punctuator}
use Rattle.assembler_lexeme.specs.declared.token.Punctuator.{Punctuator as PunctuatorType}
use Rattle.assembler_lexeme.specs.declared.token.Punctuator.TheVariants.{Colon}
use Rattle.assembler_lexeme.specs.Lexemes.{is_blank, is_character, is_digit, is_letter, is_word_byte, lexemes, lexemes_from}
use Rattle.board_types.specs.TextLines.{begins_with, onto_first, text_lines}
use Rattle.assembler_lexeme.specs.Numbers.{number_of, last_byte}
use Rattle.assembler_lexeme.specs.Faults.{◌>>=◌, wanted, all_of}
use Rattle.assembler_lexeme.specs.Tokens.{between_quotes, punctuator_of, punctuator_token, name_of, number_token}
use Rattle.assembler_lexeme.specs.Tokens.{quoted_token, text_token, token_of, tokens_of, word_token}
use Rattle.assembler_syntax.specs.ExpressionSteps.{constant_of}
use Rattle.assembler_syntax.specs.OperandSteps.{operands_of}
use Rattle.assembler_syntax.specs.ItemSteps.{items_of}
use Rattle.assembler_syntax.specs.PartSteps.{is_colon}
use Rattle.assembler_syntax.specs.StatementSteps.{data_of, directive_of, ends_of, equ_of, instruction_of, is_at, is_directive, is_equ}
use Rattle.assembler_syntax.specs.StatementSteps.{keyword_statement, led_statement, onto_prefixes, org_of, prefixed_statement, prefixes_of}
use Rattle.assembler_syntax.specs.StatementSteps.{segment_by, segment_of, segment_token, statement_after, statement_of, word_statement}
use Rattle.assembler_syntax.specs.LineSteps.{labelled, line_of, read_line as read_in_steps, with_label}
use Rattle.assembler_syntax.specs.Lines.{read_line}
use Rattle.assembler_syntax.proofs.Alike.{text_alike}
use Rattle.assembler_meaning.specs.declared.symbol.Location.{Location}
use Rattle.assembler_meaning.specs.declared.symbol.Symbol.{Symbol}
use Rattle.assembler.specs.declared.kept_line.KeptLine.{KeptLine}
use Rattle.assembler_meaning.specs.Values.{Names, constant_of as constant_in, symbol_value}
use Rattle.assembler.specs.KeptLines.{Reads}
use Rattle.assembler.specs.Listing.{letters_of, symbol_at}
use Rattle.assembler.specs.LocatedLines.{AreLocatedLines, LocatedLine, constant_definition, label_definition, names_of, statement_definition, statement_name}
use Rattle.assembler.proofs.ListingTexts.{character_below}

nil_ascii : IsAscii []
nil_ascii i = omega arith

cons_ascii : (b : ℕ) (bs : List ℕ) → b < 128 → IsAscii bs → IsAscii (b ∷ bs)
cons_ascii b bs low ascii zero = low
cons_ascii b bs low ascii (suc i) = ascii i

tail_ascii : (b : ℕ) (bs : List ℕ) → IsAscii (b ∷ bs) → IsAscii bs
tail_ascii b bs ascii i = ascii (suc i)

either_way : {A : Type 0} (P : A → Type 0) (test : Bool) (x y : A) → P x → P y → P (if test then x else y)
either_way P true x y left right = left
either_way P false x y left right = right

-- lexemes of ASCII characters
abbrev AreAscii : List (List ℕ) → Type 0
AreAscii parts = AllByRecursion IsAscii parts

onto_ascii : (b : ℕ) (parts : List (List ℕ)) → b < 128 → AreAscii parts → AreAscii (onto_first b parts)
onto_ascii b [] low all = (cons_ascii b [] low nil_ascii, tt)
onto_ascii b (part ∷ parts) low all = (cons_ascii b part low all.0, all.1)

quote_ascii : IsAscii (39 ∷ [])
quote_ascii = cons_ascii 39 [] (omega arith) nil_ascii

lexemes_ascii : (within : Bool) (text : List ℕ) → list_all is_character text ≡ true → AreAscii (lexemes_from within text)
lexemes_ascii true [] all = (nil_ascii, tt)
lexemes_ascii false [] all = tt
lexemes_ascii true (b ∷ bs) all =
    let parts = and_parts (is_character b) (list_all is_character bs) all in
    either_way AreAscii (b == 39) ((39 ∷ []) ∷ lexemes_from false bs) (onto_first b (lexemes_from true bs))
    (quote_ascii, lexemes_ascii false bs parts.1) (onto_ascii b (lexemes_from true bs) (character_below b parts.0) (lexemes_ascii true bs parts.1))
lexemes_ascii false (b ∷ bs) all =
    let parts = and_parts (is_character b) (list_all is_character bs) all in
    let low : b < 128 = character_below b parts.0 in
    let outside : AreAscii (lexemes_from false bs) = lexemes_ascii false bs parts.1 in
    either_way AreAscii (b == 59) [] _ tt
    (either_way AreAscii (is_blank b) (lexemes_from false bs) _ outside
    (either_way AreAscii (b == 39) (onto_first 39 (lexemes_from true bs)) _ (onto_ascii 39 (lexemes_from true bs) (omega arith) (lexemes_ascii true bs parts.1))
    (either_way AreAscii (is_word_byte b && begins_with is_word_byte bs) (onto_first b (lexemes_from false bs)) ((b ∷ []) ∷ lexemes_from false bs)
    (onto_ascii b (lexemes_from false bs) low outside) (cons_ascii b [] low nil_ascii, outside))))

-- names of ASCII words
abbrev pub IsAsciiName : Name → Type 0
IsAsciiName name = IsAscii name.letters

upper_below : (b : ℕ) → b < 128 → to_ascii_uppercase b < 128
upper_below b low = either_way (λ (n : ℕ). n < 128) (nat_lt b 97) b _ low (either_way (λ (n : ℕ). n < 128) (nat_lt b 123) (b - 32) b (omega arith) low)

upper_ascii : (word : List ℕ) → IsAscii word → IsAscii (map to_ascii_uppercase word)
upper_ascii [] ascii = nil_ascii
upper_ascii (b ∷ bs) ascii = cons_ascii (to_ascii_uppercase b) (map to_ascii_uppercase bs) (upper_below b (ascii 0)) (upper_ascii bs (tail_ascii b bs ascii))

zeros_ascii : (n : ℕ) → IsAscii (replicate n 0)
zeros_ascii zero = nil_ascii
zeros_ascii (suc n) = cons_ascii 0 (replicate n 0) (omega arith) (zeros_ascii n)

name_ascii : (word : List ℕ) → IsAscii word → IsAsciiName (name_of word)
name_ascii word ascii = IsAscii-append (map to_ascii_uppercase word) (replicate (31 - length word) 0) (upper_ascii word ascii) (zeros_ascii (31 - length word))

abbrev IsAsciiToken : Token → Type 0
IsAsciiToken (Named name) = IsAsciiName name
IsAsciiToken t = Unit {0}

abbrev AsciiIfSome : Option Token → Type 0
AsciiIfSome (Some t) = IsAsciiToken t
AsciiIfSome None = Unit {0}

meant_ascii : (o : Option Meaning) (name : Name) → IsAsciiName name → AsciiIfSome (Some (option_map_or Word o (Named name)))
meant_ascii None name ascii = ascii
meant_ascii (Some m) name ascii = tt

word_ascii : (word : List ℕ) → IsAscii word → AsciiIfSome (word_token word)
unfolding word_token
word_ascii word ascii = either_way AsciiIfSome (nat_lt 31 (length word)) None _ tt (meant_ascii (meaning_of word) (name_of word) (name_ascii word ascii))

some_number : (o : Option ℕ) → AsciiIfSome (option_map Number o)
some_number None = tt
some_number (Some n) = tt

number_ascii : (word : List ℕ) → AsciiIfSome (number_token word)
unfolding number_token
number_ascii word = either_way AsciiIfSome (bytes_eq word (codes "1")) (Some One) (option_map Number (number_of word)) tt (some_number (number_of word))

text_ascii : (text : List ℕ) → AsciiIfSome (Some (text_token text))
text_ascii [] = tt
text_ascii (c ∷ []) = tt
text_ascii (c ∷ d ∷ text) = tt

quoted_ascii : (lexeme : List ℕ) → AsciiIfSome (quoted_token lexeme)
unfolding quoted_token
quoted_ascii lexeme =
    either_way AsciiIfSome (nat_le 3 (length lexeme) && last_byte lexeme == 39)
    (Some (text_token (between_quotes lexeme))) None (text_ascii (between_quotes lexeme)) tt

some_punctuator : (o : Option PunctuatorType) → AsciiIfSome (option_map Punctuator o)
some_punctuator None = tt
some_punctuator (Some m) = tt

punctuator_ascii : (lexeme : List ℕ) → AsciiIfSome (punctuator_token lexeme)
punctuator_ascii [] = tt
punctuator_ascii (b ∷ []) = some_punctuator (punctuator_of b)
punctuator_ascii (b ∷ c ∷ lexeme) = tt

token_ascii : (lexeme : List ℕ) → IsAscii lexeme → AsciiIfSome (token_of lexeme)
unfolding token_of
token_ascii lexeme ascii =
    either_way AsciiIfSome (begins_with is_letter lexeme) (word_token lexeme) _ (word_ascii lexeme ascii)
    (either_way AsciiIfSome (begins_with is_digit lexeme) (number_token lexeme) _ (number_ascii lexeme)
    (either_way AsciiIfSome (begins_with (λ b. b == 39) lexeme) (quoted_token lexeme)
    (punctuator_token lexeme) (quoted_ascii lexeme) (punctuator_ascii lexeme)))

abbrev AllAscii : List Token → Type 0
AllAscii ts = AllByRecursion IsAsciiToken ts

abbrev AsciiTokens : Result (List Token) SyntaxFault → Type 0
AsciiTokens (Ok ts) = AllAscii ts
AsciiTokens (Err fault) = Unit {0}

onto_tokens : (o : Option Token) (r : Result (List Token) SyntaxFault) → AsciiIfSome o → AsciiTokens r
    → AsciiTokens (wanted o >>= (λ t. r >>= (λ ts. Ok (t ∷ ts))))
onto_tokens None r first rest = tt
onto_tokens (Some t) (Ok ts) first rest = (first, rest)
onto_tokens (Some t) (Err fault) first rest = tt

all_tokens : (ls : List (List ℕ)) → AreAscii ls → AsciiTokens (all_of (λ lexeme. wanted (token_of lexeme)) ls)
all_tokens [] all = tt
all_tokens (l ∷ ls) all = onto_tokens (token_of l) (all_of (λ lexeme. wanted (token_of lexeme)) ls) (token_ascii l all.0) (all_tokens ls all.1)

tokens_ascii : (ls : List (List ℕ)) → AreAscii ls → AsciiTokens (tokens_of ls)
unfolding tokens_of
tokens_ascii ls all = all_tokens ls all

-- the name that a statement defines
abbrev AsciiName : Option Name → Type 0
AsciiName None = Unit {0}
AsciiName (Some name) = IsAsciiName name

abbrev AsciiStatement : Result Statement SyntaxFault → Type 0
AsciiStatement (Ok s) = AsciiName (statement_name s)
AsciiStatement (Err fault) = Unit {0}

equ_with : (name : Name) (r : Result (List Term) SyntaxFault) → IsAsciiName name → AsciiStatement (r >>= (λ value. Ok (statements.Equ name value)))
equ_with name (Ok value) ascii = ascii
equ_with name (Err fault) ascii = tt

segment_with : (name : Name) (r : Result (List Term) SyntaxFault) → IsAsciiName name → AsciiStatement (r >>= (λ value. Ok (statements.Segment name value)))
segment_with name (Ok value) ascii = ascii
segment_with name (Err fault) ascii = tt

org_with : (r : Result (List Term) SyntaxFault) → AsciiStatement (r >>= (λ value. Ok (statements.Org value)))
org_with (Ok value) = tt
org_with (Err fault) = tt

data_with : (width : DataWidth) (r : Result (List Item) SyntaxFault) → AsciiStatement (r >>= (λ items. Ok (statements.Data width items)))
data_with width (Ok items) = tt
data_with width (Err fault) = tt

instruction_with : (ps : List PrefixType) (m : MnemonicType) (r : Result (List Operand) SyntaxFault)
    → AsciiStatement (r >>= (λ operands. Ok (statements.Instruction (record { prefixes = ps; mnemonic = m; operands = operands }))))
instruction_with ps m (Ok operands) = tt
instruction_with ps m (Err fault) = tt

equ_ascii : (t : Token) (ts : List Token) → IsAsciiToken t → AsciiStatement (equ_of t ts)
unfolding equ_of
equ_ascii (Named name) ts ascii = equ_with name (constant_of ts) ascii
equ_ascii t ts ascii = tt

segment_by_ascii : (t : Token) (ts : List Token) → IsAsciiToken t → AsciiStatement (segment_by t ts)
segment_by_ascii (Named name) ts ascii = segment_with name (constant_of ts) ascii
segment_by_ascii t ts ascii = tt

segment_ascii : (ts : List Token) → AllAscii ts → AsciiStatement (segment_of ts)
unfolding segment_of
segment_ascii [] all = tt
segment_ascii (t ∷ []) all = tt
segment_ascii (t ∷ u ∷ ts) all = either_way AsciiStatement (is_at u) (segment_by t ts) (Err BadLine) (segment_by_ascii t ts all.0) tt

ends_ascii : (ts : List Token) → AsciiStatement (ends_of ts)
unfolding ends_of
ends_ascii [] = tt
ends_ascii (t ∷ ts) = tt

org_ascii : (ts : List Token) → AsciiStatement (org_of ts)
unfolding org_of
org_ascii ts = org_with (constant_of ts)

data_ascii : (width : DataWidth) (ts : List Token) → AsciiStatement (data_of width ts)
unfolding data_of
data_ascii width ts = data_with width (items_of width ts)

directive_ascii : (k : KeywordType) (ts : List Token) → AllAscii ts → AsciiStatement (directive_of k ts)
unfolding directive_of
directive_ascii keywords.Segment ts all = segment_ascii ts all
directive_ascii keywords.Ends ts all = ends_ascii ts
directive_ascii keywords.Org ts all = org_ascii ts
directive_ascii keywords.Db ts all = data_ascii _ ts
directive_ascii keywords.Dw ts all = data_ascii _ ts
directive_ascii keywords.Dd ts all = data_ascii _ ts
directive_ascii k ts all = tt

instruction_ascii : (ps : List PrefixType) (m : MnemonicType) (ts : List Token) → AsciiStatement (instruction_of ps m ts)
unfolding instruction_of
instruction_ascii ps m ts = instruction_with ps m (operands_of ts)

keyword_ascii : (ps : List PrefixType) (k : KeywordType) (ts : List Token) → AllAscii ts → AsciiStatement (keyword_statement ps k ts)
keyword_ascii [] k ts all = directive_ascii k ts all
keyword_ascii (p ∷ ps) k ts all = either_way AsciiStatement (is_directive k) (Err BadLine) _ tt tt

word_statement_ascii : (ps : List PrefixType) (meaning : Meaning) (ts : List Token) → AllAscii ts → AsciiStatement (word_statement ps meaning ts)
word_statement_ascii ps (Mnemonic m) ts all = instruction_ascii ps m ts
word_statement_ascii ps (Keyword k) ts all = keyword_ascii ps k ts all
word_statement_ascii ps (Register r) ts all = tt
word_statement_ascii ps (Prefix p) ts all = tt

led_ascii : (ps : List PrefixType) (t : Token) (ts : List Token) → AllAscii ts → AsciiStatement (led_statement ps t ts)
led_ascii ps (Word meaning) ts all = word_statement_ascii ps meaning ts all
led_ascii ps t ts all = tt

after_ascii : (ps : List PrefixType) (ts : List Token) → AllAscii ts → AsciiStatement (statement_after ps ts)
unfolding statement_after
after_ascii ps [] all = tt
after_ascii ps (t ∷ ts) all = led_ascii ps t ts all.1

abbrev AsciiAfter : (List PrefixType × List Token) → Type 0
AsciiAfter split = AllAscii split.1

prefixes_ascii : (ts : List Token) → AllAscii ts → AsciiAfter (prefixes_of ts)
prefixes_ascii (Word (Prefix p) ∷ ts) all = prefixes_ascii ts all.1
prefixes_ascii (Word (Register (registers.Segment s)) ∷ t ∷ ts) all =
    either_way AsciiAfter (is_colon t) (onto_prefixes _ (prefixes_of ts)) ([], segment_token s ∷ t ∷ ts) (prefixes_ascii ts all.1.1) all
prefixes_ascii ts all = all

prefixed_ascii : (ts : List Token) → AllAscii ts → AsciiStatement (prefixed_statement ts)
unfolding prefixed_statement
prefixed_ascii ts all = after_ascii ((prefixes_of ts).0) ((prefixes_of ts).1) (prefixes_ascii ts all)

statement_ascii : (ts : List Token) → AllAscii ts → AsciiStatement (statement_of ts)
unfolding statement_of
statement_ascii [] all = tt
statement_ascii (t ∷ []) all = prefixed_ascii (t ∷ []) all
statement_ascii (t ∷ u ∷ ts) all =
    either_way AsciiStatement (is_equ u) (equ_of t ts) (prefixed_statement (t ∷ u ∷ ts)) (equ_ascii t ts all.0) (prefixed_ascii (t ∷ u ∷ ts) all)

-- the names of a line
pub record AsciiLine (line : Line) : Type 0 where
  pub label : AsciiName line.label
  pub statement : AsciiName (statement_name line.statement)

abbrev AsciiRead : Result Line SyntaxFault → Type 0
AsciiRead (Ok line) = AsciiLine line
AsciiRead (Err fault) = Unit {0}

label_with : (label : Option Name) (r : Result Statement SyntaxFault) → AsciiName label → AsciiStatement r
    → AsciiRead (r >>= (λ s. Ok (record { label = label; statement = s })))
label_with label (Ok s) ascii names = record { label = ascii; statement = names }
label_with label (Err fault) ascii names = tt

with_label_ascii : (label : Option Name) (ts : List Token) → AsciiName label → AllAscii ts → AsciiRead (with_label label ts)
with_label_ascii label ts ascii all = label_with label (statement_of ts) ascii (statement_ascii ts all)

labelled_ascii : (t u : Token) (ts : List Token) → AllAscii (t ∷ u ∷ ts) → AsciiRead (labelled t u ts)
labelled_ascii (Named label) (Punctuator Colon) ts all = with_label_ascii (Some label) ts all.0 all.1.1
labelled_ascii t u ts all = with_label_ascii None (t ∷ u ∷ ts) tt all

line_ascii : (ts : List Token) → AllAscii ts → AsciiRead (line_of ts)
unfolding line_of
line_ascii [] all = with_label_ascii None [] tt all
line_ascii (t ∷ []) all = with_label_ascii None (t ∷ []) tt all
line_ascii (t ∷ u ∷ ts) all = labelled_ascii t u ts all

lines_with : (r : Result (List Token) SyntaxFault) → AsciiTokens r → AsciiRead (r >>= line_of)
lines_with (Ok ts) all = line_ascii ts all
lines_with (Err fault) all = tt

where_true : (b : Bool) (r : Result Line SyntaxFault) → (b ≡ true → AsciiRead r) → AsciiRead (if b then r else Err BadCharacter)
where_true true r there = there refl
where_true false r there = tt

text_read : (text : List ℕ) → AsciiRead (read_in_steps text)
unfolding read_in_steps lexemes
text_read text =
    where_true (list_all is_character text) (tokens_of (lexemes text) >>= line_of)
    (λ all. lines_with (tokens_of (lexemes text)) (tokens_ascii (lexemes text) (lexemes_ascii false text all)))

read_ascii : (text : List ℕ) (line : Line) → read_line text ≡ Ok line → AsciiLine line
read_ascii text line is = subst AsciiRead (text_alike text ∙ is) (text_read text)

-- the names that rows define
abbrev pub AsciiNames : Names → Type 0
AsciiNames names = AllByRecursion (λ (entry : Name × Symbol). IsAsciiName entry.0) names

both_ascii : (xs ys : Names) → AsciiNames xs → AsciiNames ys → AsciiNames (xs ++ ys)
both_ascii [] ys left right = right
both_ascii (x ∷ xs) ys left right = (left.0, both_ascii xs ys left.1 right)

label_names : (location : Option Location) (label : Option Name) → AsciiName label → AsciiNames (label_definition location label)
label_names None label ascii = tt
label_names (Some location) None ascii = tt
label_names (Some location) (Some name) ascii = (ascii, tt)

constant_names : (name : Name) (o : Option ℤ) → IsAsciiName name → AsciiNames (constant_definition name o)
constant_names name None ascii = tt
constant_names name (Some n) ascii = (ascii, tt)

statement_names : (known : Names) (s : Statement) → AsciiName (statement_name s) → AsciiNames (statement_definition known s)
statement_names known (statements.Segment name n) ascii = constant_names name (constant_in known n) ascii
statement_names known (statements.Equ name n) ascii = constant_names name (constant_in known n) ascii
statement_names known s ascii = tt

pub names_ascii : (before : List LocatedLine) (texts : List (List ℕ)) (located_lines : List LocatedLine)
    → AreLocatedLines before texts located_lines → AsciiNames (names_of located_lines)
names_ascii before [] [] are = tt
names_ascii before [] (located ∷ located_lines) are = absurd are
names_ascii before (text ∷ texts) [] are = absurd are
names_ascii before (text ∷ texts) (located ∷ located_lines) are =
    let line : AsciiLine located.line = read_ascii text located.line are.0.is_located_line.reads in
    both_ascii located.names (names_of located_lines)
    (subst AsciiNames (sym are.0.is_located_line.names)
    (both_ascii (label_definition _ located.line.label) (statement_definition (names_of before) located.line.statement)
    (label_names _ located.line.label line.label) (statement_names (names_of before) located.line.statement line.statement)))
    (names_ascii (before ++ located ∷ []) texts located_lines are.1)

take_ascii : (n : ℕ) (xs : List ℕ) → IsAscii xs → IsAscii (take n xs)
take_ascii zero xs ascii = nil_ascii
take_ascii (suc n) [] ascii = nil_ascii
take_ascii (suc n) (x ∷ xs) ascii = cons_ascii x (take n xs) (ascii 0) (take_ascii n xs (tail_ascii x xs ascii))

none_entry : (entry : Name × Symbol) → None ≡ Some entry → ⊥
none_entry entry is = cc

same_entry : (a b : Name × Symbol) → Some a ≡ Some b → a ≡ b
same_entry a b is = cc

-- the letters of a name that is defined
pub letters_ascii : (names : Names) (i : ℕ) (entry : Name × Symbol) → AsciiNames names → slice_get names i ≡ Some entry → IsAscii (letters_of entry.0)
letters_ascii [] i entry all is = absurd (none_entry entry is)
letters_ascii (x ∷ names) zero entry all is =
    take_ascii _ entry.0.letters (subst (λ (e : Name × Symbol). IsAsciiName e.0) (same_entry x entry is) all.0)
letters_ascii (x ∷ names) (suc i) entry all is = letters_ascii names i entry all.1 is

-- what a listing answers of its names
pub no_symbol : (names : Names) (i : ℕ) → None ≡ slice_get names i → None ≡ symbol_at names i
no_symbol names i is = ap (λ (o : Option (Name × Symbol)). option_map (λ (entry : Name × Symbol). (letters_of entry.0, symbol_value entry.1)) o) is

pub own_symbol : (names : Names) (i : ℕ) (name : Name) (symbol : Symbol) → Some (name, symbol) ≡ slice_get names i
    → Some (letters_of name, symbol_value symbol) ≡ symbol_at names i
own_symbol names i name symbol is = ap (λ (o : Option (Name × Symbol)). option_map (λ (entry : Name × Symbol). (letters_of entry.0, symbol_value entry.1)) o) is

pub own_letters : (source : List ℕ) (names : Names) (kepts : List KeptLine) (i : ℕ) (name : Name) (symbol : Symbol)
    → Reads source names kepts → Some (name, symbol) ≡ slice_get names i → IsAscii (letters_of name)
own_letters source names kepts i name symbol reads is =
    letters_ascii names i (name, symbol)
    (subst AsciiNames (sym reads.names_are) (names_ascii [] (text_lines source) reads.located_lines reads.are_located_lines)) (sym is)
