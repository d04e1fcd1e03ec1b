-- Each spelling of a line is read.
use Rattle.std.proofs.Common.{◌≡◌, ◌∙◌, ℕ, Bool, true, false, not, if◌then◌else◌, List, [], ◌∷◌, ◌++◌}
use Rattle.std.proofs.Common.{append_assoc, refl, sym, ap, subst, inl, inr, Option, Some, None, Result, Ok, Err}
use Rattle.std.proofs.lemmas.Bool.{and_parts}
use Rattle.std.specs.List.{list_all}
use Rattle.isa.specs.declared.form.Prefix.{Prefix as PrefixType}
use Rattle.isa.specs.declared.form.Prefix.TheVariants as prefixes
use Rattle.dialect.specs.declared.meaning.Meaning.{Meaning}
use Rattle.dialect.specs.declared.meaning.Meaning.TheVariants as meanings
use Rattle.dialect.specs.declared.mnemonic.Mnemonic.{Mnemonic}
use Rattle.dialect.specs.declared.register.Register.TheVariants as registers
use Rattle.dialect.specs.declared.keyword.Keyword.{Keyword}
use Rattle.dialect.specs.declared.keyword.Keyword.TheVariants as keywords
use Rattle.assembler_lexeme.specs.declared.fault.SyntaxFault.{SyntaxFault}
use Rattle.assembler_lexeme.specs.declared.fault.SyntaxFault.TheVariants.{BadCharacter}
use Rattle.assembler_lexeme.specs.declared.name.Name.{Name}
use Rattle.assembler_lexeme.specs.declared.token.Token.{Token}
use Rattle.assembler_lexeme.specs.declared.token.Token.TheVariants.{Named, Word, Punctuator}
use Rattle.assembler_lexeme.specs.declared.token.Punctuator.TheVariants.{Colon}
use Rattle.assembler_lexeme.specs.Faults.{◌>>=◌}
use Rattle.assembler_lexeme.specs.Lexemes.{is_character, lexemes}
use Rattle.assembler_lexeme.specs.Tokens.{tokens_of}
use Rattle.assembler_syntax.specs.declared.expression.Term.{Term}
use Rattle.assembler_syntax.specs.declared.operand.Operand.{Operand}
use Rattle.assembler_syntax.specs.declared.statement.DataWidth.{DataWidth}
use Rattle.assembler_syntax.specs.declared.statement.DataWidth.TheVariants as widths
use Rattle.assembler_syntax.specs.declared.statement.Item.{Item}
use Rattle.assembler_syntax.specs.declared.statement.Statement.{Statement}
use Rattle.assembler_syntax.specs.declared.statement.Statement.TheVariants as statements
use Rattle.assembler_syntax.specs.declared.statement.Line.{Line}
use Rattle.assembler_syntax.specs.StatementSteps.{segment_of, ends_of, org_of, data_of, equ_of, directive_of, instruction_of}
use Rattle.assembler_syntax.specs.StatementSteps.{onto_prefixes, prefixes_of, statement_after, prefixed_statement, is_equ, statement_of}
use Rattle.assembler_syntax.specs.LineSteps.{with_label, line_of, read_line}
use Rattle.assembler_syntax.specs.Spelling.{keyword, label_tokens, prefix_tokens, width_keyword}
use Rattle.assembler_syntax.specs.Spellings.{Exactly, InTurn, SpellsConstant, SpellsItem, SpellsOperands}
use Rattle.assembler_syntax.specs.Spellings.{SpellsPrefix, SpellsPrefixes, SpellsStatement, WithCommas, SpellsLine}
use Rattle.assembler_syntax.specs.SyntaxLaws.{EachSpellingIsRead, EachTextIsReadAsItSays, Says}
use Rattle.assembler_syntax.proofs.Around.{AllPass, EachPasses, both_pass, exactly_passes, fails, turn_passes}
use Rattle.assembler_syntax.proofs.EachTerms.{constant_read, led}
use Rattle.assembler_syntax.proofs.EachOperands.{operands_no_equ, operands_read}
use Rattle.assembler_syntax.proofs.BackLines.{read_is_spelled}
use Rattle.assembler_syntax.proofs.BackTerms.{no_ok, reads}
use Rattle.assembler_syntax.proofs.EachItems.{constant_no_equ, items_no_equ, items_read}
use Rattle.assembler_syntax.proofs.Alike.{line_alike, text_alike}

not_true : (b : Bool) → not b ≡ true → b ≡ false
not_true true e = absurd (cc)
not_true false e = refl

-- ---- a statement without EQU after its first token
without_equ : (t : Token) (ts : List Token) → AllPass (fails is_equ) ts → statement_of (t ∷ ts) ≡ prefixed_statement (t ∷ ts)
unfolding statement_of
without_equ t [] none = refl
without_equ t (u ∷ ts) none =
    let other = not_true (is_equ u) ((and_parts (not (is_equ u)) (list_all (fails is_equ) ts) none).0) in
    rw other refl

by_keyword : (k : Keyword) (ts : List Token) → prefixed_statement (keyword k ∷ ts) ≡ directive_of k ts
unfolding prefixed_statement statement_after
by_keyword k ts = refl

directive_read : (k : Keyword) (ts : List Token) → AllPass (fails is_equ) ts → statement_of (keyword k ∷ ts) ≡ directive_of k ts
directive_read k ts none = without_equ (keyword k) ts none ∙ by_keyword k ts

segment_read : (name : Name) (paragraph : List Term) (ts : List Token) → SpellsConstant paragraph ts
    → statement_of (keyword keywords.Segment ∷ Named name ∷ keyword keywords.At ∷ ts) ≡ Ok (statements.Segment name paragraph)
unfolding directive_of segment_of
segment_read name paragraph ts is =
    directive_read keywords.Segment (Named name ∷ keyword keywords.At ∷ ts) (constant_no_equ paragraph ts is)
    ∙ ap (λ (r : Result (List Term) SyntaxFault). r >>= λ p. Ok (statements.Segment name p)) (constant_read paragraph ts is)

org_read : (location : List Term) (ts : List Token) → SpellsConstant location ts → statement_of (keyword keywords.Org ∷ ts) ≡ Ok (statements.Org location)
unfolding directive_of org_of
org_read location ts is =
    directive_read keywords.Org ts (constant_no_equ location ts is)
    ∙ ap (λ (r : Result (List Term) SyntaxFault). r >>= λ l. Ok (statements.Org l)) (constant_read location ts is)

equ_read : (name : Name) (value : List Term) (ts : List Token) → SpellsConstant value ts
    → statement_of (Named name ∷ keyword keywords.Equ ∷ ts) ≡ Ok (statements.Equ name value)
unfolding statement_of equ_of
equ_read name value ts is = ap (λ (r : Result (List Term) SyntaxFault). r >>= λ v. Ok (statements.Equ name v)) (constant_read value ts is)

data_by : (width : DataWidth) (ts : List Token) → directive_of (width_keyword width) ts ≡ data_of width ts
unfolding directive_of
data_by widths.Byte ts = refl
data_by widths.Word ts = refl
data_by widths.Double ts = refl

data_is : (width : DataWidth) (its : List Item) (ts : List Token) → WithCommas (SpellsItem width) its ts → data_of width ts ≡ Ok (statements.Data width its)
unfolding data_of
data_is width its ts is = ap (λ (r : Result (List Item) SyntaxFault). r >>= λ its. Ok (statements.Data width its)) (items_read width its ts is)

data_read : (width : DataWidth) (its : List Item) (ts : List Token) → WithCommas (SpellsItem width) its ts
    → statement_of (keyword (width_keyword width) ∷ ts) ≡ Ok (statements.Data width its)
data_read width its ts is = directive_read (width_keyword width) ts (items_no_equ width its ts is) ∙ data_by width ts ∙ data_is width its ts is

-- ---- prefixes stand before a mnemonic
abbrev mnemonic : Mnemonic → Token
mnemonic m = Word (meanings.Mnemonic m)

plain_prefix : (p : PrefixType) (ts : List Token) → prefixes_of (prefix_tokens p ++ ts) ≡ onto_prefixes p (prefixes_of ts)
plain_prefix (prefixes.Segment s) ts = refl
plain_prefix prefixes.Lock ts = refl
plain_prefix (prefixes.Repeat r) ts = refl

one_prefix : (p : PrefixType) (us ts : List Token) → SpellsPrefix p us → prefixes_of (us ++ ts) ≡ onto_prefixes p (prefixes_of ts)
one_prefix p us ts (inl is) = ap (λ (vs : List Token). prefixes_of (vs ++ ts)) is ∙ plain_prefix p ts
one_prefix p us ts (inr is) = ap (λ (vs : List Token). prefixes_of (vs ++ ts)) is

prefixes_read : (ps : List PrefixType) (us : List Token) (m : Mnemonic) (ts : List Token) → SpellsPrefixes ps us
    → prefixes_of (us ++ mnemonic m ∷ ts) ≡ (ps, mnemonic m ∷ ts)
prefixes_read [] us m ts is = ap (λ (vs : List Token). prefixes_of (vs ++ mnemonic m ∷ ts)) is
prefixes_read (p ∷ ps) us m ts is =
    ap (λ (vs : List Token). prefixes_of (vs ++ mnemonic m ∷ ts)) is.are
    ∙ ap prefixes_of (append_assoc is.front is.back (mnemonic m ∷ ts))
    ∙ one_prefix p is.front (is.back ++ mnemonic m ∷ ts) is.first
    ∙ ap (onto_prefixes p) (prefixes_read ps is.back m ts is.second)

following : (ps : List PrefixType) (m : Mnemonic) (ts : List Token) → statement_after ps (mnemonic m ∷ ts) ≡ instruction_of ps m ts
unfolding statement_after
following ps m ts = refl

prefixed_read : (ps : List PrefixType) (us : List Token) (m : Mnemonic) (ts : List Token) → SpellsPrefixes ps us
    → prefixed_statement (us ++ mnemonic m ∷ ts) ≡ instruction_of ps m ts
unfolding prefixed_statement
prefixed_read ps us m ts is =
    ap (λ (found : List PrefixType × List Token). statement_after found.0 found.1) (prefixes_read ps us m ts is) ∙ following ps m ts

prefix_no_equ : (p : PrefixType) → AllPass (fails is_equ) (prefix_tokens p)
prefix_no_equ (prefixes.Segment s) = refl
prefix_no_equ prefixes.Lock = refl
prefix_no_equ (prefixes.Repeat r) = refl

spelled_no_equ : (p : PrefixType) → EachPasses (fails is_equ) (SpellsPrefix p)
spelled_no_equ p ts (inl is) = exactly_passes (fails is_equ) (prefix_tokens p) (prefix_no_equ p) ts is
spelled_no_equ p ts (inr is) = exactly_passes (fails is_equ) (Word (meanings.Prefix p) ∷ []) refl ts is

prefixes_no_equ : (ps : List PrefixType) → EachPasses (fails is_equ) (SpellsPrefixes ps)
prefixes_no_equ [] = exactly_passes (fails is_equ) [] refl
prefixes_no_equ (p ∷ ps) = turn_passes (fails is_equ) (SpellsPrefix p) (SpellsPrefixes ps) (spelled_no_equ p) (prefixes_no_equ ps)

-- ---- a word stands at the front of an instruction
record BeginsWord (ts : List Token) : Type 0 where
  meaning : Meaning
  rest : List Token
  are : ts ≡ Word meaning ∷ rest

word_before : (us back : List Token) → BeginsWord us → BeginsWord (us ++ back)
word_before us back b = record { meaning = b.meaning; rest = b.rest ++ back; are = ap (λ (vs : List Token). vs ++ back) b.are }

plain_prefix_word : (p : PrefixType) → BeginsWord (prefix_tokens p)
plain_prefix_word (prefixes.Segment s) = record { meaning = meanings.Register (registers.Segment s); rest = Punctuator Colon ∷ []; are = refl }
plain_prefix_word prefixes.Lock = record { meaning = meanings.Prefix prefixes.Lock; rest = []; are = refl }
plain_prefix_word (prefixes.Repeat r) = record { meaning = meanings.Prefix (prefixes.Repeat r); rest = []; are = refl }

prefix_word : (p : PrefixType) (us : List Token) → SpellsPrefix p us → BeginsWord us
prefix_word p us (inl is) = subst BeginsWord (sym is) (plain_prefix_word p)
prefix_word p us (inr is) = record { meaning = meanings.Prefix p; rest = []; are = is }

prefixes_word : (ps : List PrefixType) (us : List Token) (m : Mnemonic) (ts : List Token) → SpellsPrefixes ps us → BeginsWord (us ++ mnemonic m ∷ ts)
prefixes_word [] us m ts is = record { meaning = meanings.Mnemonic m; rest = ts; are = ap (λ (vs : List Token). vs ++ mnemonic m ∷ ts) is }
prefixes_word (p ∷ ps) us m ts is =
    subst (λ (vs : List Token). BeginsWord (vs ++ mnemonic m ∷ ts)) (sym is.are)
    (word_before (is.front ++ is.back) (mnemonic m ∷ ts) (word_before is.front is.back (prefix_word p is.front is.first)))

worded_read : (ts : List Token) → BeginsWord ts → AllPass (fails is_equ) ts → statement_of ts ≡ prefixed_statement ts
worded_read ts b none =
    let all : AllPass (fails is_equ) (Word b.meaning ∷ b.rest) = sym (ap (list_all (fails is_equ)) b.are) ∙ none in
    ap statement_of b.are
    ∙ without_equ (Word b.meaning) b.rest ((and_parts (not (is_equ (Word b.meaning))) (list_all (fails is_equ) b.rest) all).1)
    ∙ sym (ap prefixed_statement b.are)

-- the tokens of an instruction
record Instructs (ps : List PrefixType) (m : Mnemonic) (ops : List Operand) (ts : List Token) : Type 0 where
  front : List Token
  back : List Token
  are : ts ≡ front ++ mnemonic m ∷ back
  prefixes : SpellsPrefixes ps front
  operands : SpellsOperands ops back

instructs : (ps : List PrefixType) (m : Mnemonic) (ops : List Operand) (ts : List Token)
    → InTurn (SpellsPrefixes ps) (InTurn (Exactly (mnemonic m ∷ [])) (SpellsOperands ops)) ts → Instructs ps m ops ts
instructs ps m ops ts is =
    let following = led (mnemonic m ∷ []) (SpellsOperands ops) is.back is.second in
    record {
      front = is.front;
      back = following.back;
      are = is.are ∙ ap (λ (us : List Token). is.front ++ us) following.are;
      prefixes = is.first;
      operands = following.other;
    }

instruction_is : (ps : List PrefixType) (m : Mnemonic) (ops : List Operand) (ts : List Token) → SpellsOperands ops ts
    → instruction_of ps m ts ≡ Ok (statements.Instruction (record { prefixes = ps; mnemonic = m; operands = ops }))
unfolding instruction_of
instruction_is ps m ops ts is =
    ap (λ (r : Result (List Operand) SyntaxFault). r >>= λ ops. Ok (statements.Instruction (record { prefixes = ps; mnemonic = m; operands = ops })))
    (operands_read ops ts is)

instruction_read : (ps : List PrefixType) (m : Mnemonic) (ops : List Operand) (ts : List Token) → Instructs ps m ops ts
    → statement_of ts ≡ Ok (statements.Instruction (record { prefixes = ps; mnemonic = m; operands = ops }))
instruction_read ps m ops ts made =
    let tokens : List Token = made.front ++ mnemonic m ∷ made.back in
    ap statement_of made.are
    ∙ worded_read tokens (prefixes_word ps made.front m made.back made.prefixes)
    (both_pass (fails is_equ) made.front (mnemonic m ∷ made.back) (prefixes_no_equ ps made.front made.prefixes) (operands_no_equ ops made.back made.operands))
    ∙ prefixed_read ps made.front m made.back made.prefixes
    ∙ instruction_is ps m ops made.back made.operands

empty_read : statement_of [] ≡ Ok statements.Empty
unfolding statement_of
empty_read = refl

ends_read : statement_of (keyword keywords.Ends ∷ []) ≡ Ok statements.Ends
unfolding statement_of prefixed_statement statement_after directive_of ends_of
ends_read = refl

statement_read : (s : Statement) (ts : List Token) → SpellsStatement s ts → statement_of ts ≡ Ok s
statement_read statements.Empty ts is = ap statement_of is ∙ empty_read
statement_read (statements.Segment name paragraph) ts is =
    let at = led (keyword keywords.Segment ∷ Named name ∷ keyword keywords.At ∷ []) (SpellsConstant paragraph) ts is in
    ap statement_of at.are ∙ segment_read name paragraph at.back at.other
statement_read statements.Ends ts is = ap statement_of is ∙ ends_read
statement_read (statements.Equ name value) ts is =
    let equ = led (Named name ∷ keyword keywords.Equ ∷ []) (SpellsConstant value) ts is in ap statement_of equ.are ∙ equ_read name value equ.back equ.other
statement_read (statements.Org location) ts is =
    let org = led (keyword keywords.Org ∷ []) (SpellsConstant location) ts is in ap statement_of org.are ∙ org_read location org.back org.other
statement_read (statements.Data width its) ts is =
    let data' = led (keyword (width_keyword width) ∷ []) (WithCommas (SpellsItem width) its) ts is in
    ap statement_of data'.are ∙ data_read width its data'.back data'.other
statement_read (statements.Instruction i) ts is = instruction_read i.prefixes i.mnemonic i.operands ts (instructs i.prefixes i.mnemonic i.operands ts is)

-- ---- no statement is a label
by_word : (m : Meaning) (ts : List Token) → line_of (Word m ∷ ts) ≡ with_label None (Word m ∷ ts)
unfolding line_of
by_word m [] = refl
by_word m (u ∷ ts) = refl

worded_line : (ts : List Token) → BeginsWord ts → line_of ts ≡ with_label None ts
worded_line ts b = ap line_of b.are ∙ by_word b.meaning b.rest ∙ sym (ap (with_label None) b.are)

equ_line : (name : Name) (ts : List Token) → line_of (Named name ∷ keyword keywords.Equ ∷ ts) ≡ with_label None (Named name ∷ keyword keywords.Equ ∷ ts)
unfolding line_of
equ_line name ts = refl

empty_line : line_of [] ≡ with_label None []
unfolding line_of
empty_line = refl

led_word : (m : Meaning) (more : List Token) (Other : List Token → Type 0) (ts : List Token) → InTurn (Exactly (Word m ∷ more)) Other ts → BeginsWord ts
led_word m more Other ts is = let of = led (Word m ∷ more) Other ts is in record { meaning = m; rest = more ++ of.back; are = of.are }

no_label : (s : Statement) (ts : List Token) → SpellsStatement s ts → line_of ts ≡ with_label None ts
no_label statements.Empty ts is = ap line_of is ∙ empty_line ∙ sym (ap (with_label None) is)
no_label (statements.Segment name paragraph) ts is =
    worded_line ts (led_word (meanings.Keyword keywords.Segment) (Named name ∷ keyword keywords.At ∷ []) (SpellsConstant paragraph) ts is)
no_label statements.Ends ts is = worded_line ts (record { meaning = meanings.Keyword keywords.Ends; rest = []; are = is })
no_label (statements.Equ name value) ts is =
    let equ = led (Named name ∷ keyword keywords.Equ ∷ []) (SpellsConstant value) ts is in
    ap line_of equ.are ∙ equ_line name equ.back ∙ sym (ap (with_label None) equ.are)
no_label (statements.Org location) ts is = worded_line ts (led_word (meanings.Keyword keywords.Org) [] (SpellsConstant location) ts is)
no_label (statements.Data width its) ts is = worded_line ts (led_word (meanings.Keyword (width_keyword width)) [] (WithCommas (SpellsItem width) its) ts is)
no_label (statements.Instruction i) ts is =
    let made = instructs i.prefixes i.mnemonic i.operands ts is in
    worded_line ts (subst BeginsWord (sym made.are) (prefixes_word i.prefixes made.front i.mnemonic made.back made.prefixes))

label_is : (name : Name) (ts : List Token) → line_of (Named name ∷ Punctuator Colon ∷ ts) ≡ with_label (Some name) ts
unfolding line_of
label_is name ts = refl

line_by : (label : Option Name) (s : Statement) (ts : List Token) → SpellsStatement s ts → line_of (label_tokens label ++ ts) ≡ with_label label ts
line_by None s ts is = no_label s ts is
line_by (Some name) s ts is = label_is name ts

pub spelling_read : (ts : List Token) (l : Line) → SpellsLine l ts → line_of ts ≡ Ok l
spelling_read ts l is =
    let following = led (label_tokens l.label) (SpellsStatement l.statement) ts is in
    ap line_of following.are
    ∙ line_by l.label l.statement following.back following.other
    ∙ ap (λ (r : Result Statement SyntaxFault). r >>= λ s. Ok (record { label = l.label; statement = s }))
    (statement_read l.statement following.back following.other)

pub each_spelling_read : EachSpellingIsRead
each_spelling_read ts l is = sym (line_alike ts) ∙ spelling_read ts l is

-- ---- texts
said_by : (text : List ℕ) (l : Line) (test : Bool) → list_all is_character text ≡ test
    → (if test then (tokens_of (lexemes text) >>= line_of) else Err BadCharacter) ≡ Ok l → Says text l
said_by text l true characters is =
    let of = reads (tokens_of (lexemes text)) line_of l is in
    record { characters = characters; tokens = of.read; are = of.is; spelled = read_is_spelled of.read l of.then' }
said_by text l false characters is = absurd (no_ok BadCharacter l is)

says_what_is_read : (text : List ℕ) (l : Line) → read_line text ≡ Ok l → Says text l
unfolding read_line
says_what_is_read text l is = said_by text l (list_all is_character text) refl is

reads_what_is_said : (text : List ℕ) (l : Line) → Says text l → read_line text ≡ Ok l
unfolding read_line
reads_what_is_said text l says =
    ap (λ (b : Bool). if b then (tokens_of (lexemes text) >>= line_of) else Err BadCharacter) says.characters
    ∙ ap (λ (r : Result (List Token) SyntaxFault). r >>= line_of) says.are
    ∙ spelling_read says.tokens l says.spelled

pub texts_read : EachTextIsReadAsItSays
texts_read text l = (λ is. says_what_is_read text l (text_alike text ∙ is), λ says. sym (text_alike text) ∙ reads_what_is_said text l says)
