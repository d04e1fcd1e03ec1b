-- Tokens that are read as a line are a spelling of it.
use Rattle.std.proofs.Common.{◌≡◌, ◌∙◌, Bool, true, false, List, [], ◌∷◌, ◌++◌, append_assoc, refl, sym}
use Rattle.std.proofs.Common.{ap, subst, inl, inr, Option, Some, None, Result, Ok, Err, if◌then◌else◌}
use Rattle.isa.specs.declared.form.Prefix.{Prefix}
use Rattle.isa.specs.declared.form.Prefix.TheVariants as prefixes
use Rattle.isa.specs.declared.register.SegmentRegister.{SegmentRegister}
use Rattle.dialect.specs.declared.meaning.Meaning.{Meaning}
use Rattle.dialect.specs.declared.meaning.Meaning.TheVariants as meanings
use Rattle.dialect.specs.declared.mnemonic.Mnemonic.{Mnemonic}
use Rattle.dialect.specs.declared.register.Register.TheVariants as registers
use Rattle.dialect.specs.declared.keyword.Keyword.{Keyword}
use Rattle.dialect.specs.declared.keyword.Keyword.TheVariants as keywords
use Rattle.assembler_lexeme.specs.declared.fault.SyntaxFault.{SyntaxFault}
use Rattle.assembler_lexeme.specs.declared.fault.SyntaxFault.TheVariants.{BadLine, UnknownName}
use Rattle.assembler_lexeme.specs.declared.name.Name.{Name}
use Rattle.assembler_lexeme.specs.declared.token.Token.{Token}
use Rattle.assembler_lexeme.specs.declared.token.Token.TheVariants.{One, Number, Named, Quoted, Word, Punctuator}
use Rattle.assembler_lexeme.specs.declared.token.Punctuator.TheVariants as punctuators
use Rattle.assembler_lexeme.specs.Faults.{◌>>=◌}
use Rattle.assembler_syntax.specs.declared.statement.DataWidth.{DataWidth}
use Rattle.assembler_syntax.specs.declared.statement.DataWidth.TheVariants as widths
use Rattle.assembler_syntax.specs.declared.statement.Piece.{Piece}
use Rattle.assembler_syntax.specs.declared.statement.Piece.TheVariants as pieces
use Rattle.assembler_syntax.specs.declared.statement.Item.{Item}
use Rattle.assembler_syntax.specs.declared.statement.Item.TheVariants as items
use Rattle.assembler_syntax.specs.declared.statement.Statement.{Statement}
use Rattle.assembler_syntax.specs.declared.statement.Statement.TheVariants as statements
use Rattle.assembler_syntax.specs.declared.statement.Line.{Line}
use Rattle.assembler_syntax.specs.PartSteps.{around, closed, is_colon, is_open_parenthesis, is_close_parenthesis, is_dup}
use Rattle.assembler_syntax.specs.ExpressionSteps.{expression_of, constant_of}
use Rattle.assembler_syntax.specs.OperandSteps.{operands_of}
use Rattle.assembler_syntax.specs.ItemSteps.{value_piece, single_piece, piece_of, pieces_of, in_parentheses, repeated, item_by, item_of, items_of}
use Rattle.assembler_syntax.specs.StatementSteps.{segment_at, segment_by, is_at, segment_of, ends_of, org_of, data_of, equ_at, equ_of, directive_of}
use Rattle.assembler_syntax.specs.StatementSteps.{instruction_of, onto_prefixes, segment_token, prefixes_of, is_directive, keyword_statement}
use Rattle.assembler_syntax.specs.StatementSteps.{word_statement, led_statement, statement_after, prefixed_statement, is_equ, statement_of}
use Rattle.assembler_syntax.specs.LineSteps.{with_label, labelled, line_of}
use Rattle.assembler_syntax.specs.SyntaxLaws.{EachLineReadIsSpelled}
use Rattle.assembler_syntax.specs.Spelling.{keyword, label_tokens, width_keyword}
use Rattle.assembler_syntax.specs.Spellings.{SpellsItem, SpellsLine, SpellsPiece, SpellsPrefix, SpellsPrefixes, SpellsStatement, WithCommas}
use Rattle.assembler_syntax.proofs.BackTerms.{StandsAround, around_spelled, commas_spelled, constant_spelled, expression_spelled, ok_is, reads}
use Rattle.assembler_syntax.proofs.BackOperands.{closed_is, colon_is, operands_spelled}
use Rattle.assembler_syntax.proofs.Alike.{line_alike}

-- ---- items
value_spelled : (width : DataWidth) (ts : List Token) (p : Piece) → value_piece ts ≡ Ok p → SpellsPiece width p ts
value_spelled width ts p is =
    let of = reads (expression_of ts) (λ value. Ok (pieces.Value value)) p is in
    let same : pieces.Value of.read ≡ p = ok_is (pieces.Value of.read) p of.then' in
    subst (λ (q : Piece). SpellsPiece width q ts) same (expression_spelled ts of.read of.is)

single_spelled : (width : DataWidth) (t : Token) (p : Piece) → single_piece width t ≡ Ok p → SpellsPiece width p (t ∷ [])
single_spelled widths.Byte (Quoted text) p is =
    let same : pieces.Text text ≡ p = ok_is (pieces.Text text) p is in subst (λ (q : Piece). SpellsPiece widths.Byte q (Quoted text ∷ [])) same (refl, refl)
single_spelled widths.Byte One p is = value_spelled widths.Byte (One ∷ []) p is
single_spelled widths.Byte (Number n) p is = value_spelled widths.Byte (Number n ∷ []) p is
single_spelled widths.Byte (Named name) p is = value_spelled widths.Byte (Named name ∷ []) p is
single_spelled widths.Byte (Word meaning) p is = value_spelled widths.Byte (Word meaning ∷ []) p is
single_spelled widths.Byte (Punctuator punctuator) p is = value_spelled widths.Byte (Punctuator punctuator ∷ []) p is
single_spelled widths.Word t p is = value_spelled widths.Word (t ∷ []) p is
single_spelled widths.Double t p is = value_spelled widths.Double (t ∷ []) p is

piece_spelled : (width : DataWidth) (ts : List Token) (p : Piece) → piece_of width ts ≡ Ok p → SpellsPiece width p ts
unfolding piece_of
piece_spelled width [] p is = value_spelled width [] p is
piece_spelled width (t ∷ []) p is = single_spelled width t p is
piece_spelled width (t ∷ u ∷ ts) p is = value_spelled width (t ∷ u ∷ ts) p is

pieces_spelled : (width : DataWidth) (ts : List Token) (ps : List Piece) → pieces_of width ts ≡ Ok ps → WithCommas (SpellsPiece width) ps ts
unfolding pieces_of
pieces_spelled width ts ps is = commas_spelled (piece_of width) (SpellsPiece width) (piece_spelled width) ts ps is

open_is : (t : Token) → is_open_parenthesis t ≡ true → t ≡ Punctuator punctuators.OpenParenthesis
open_is (Punctuator punctuators.OpenParenthesis) is = refl
open_is t is = absurd (cc)

close_is : (t : Token) → is_close_parenthesis t ≡ true → t ≡ Punctuator punctuators.CloseParenthesis
close_is (Punctuator punctuators.CloseParenthesis) is = refl
close_is t is = absurd (cc)

dup_is : (t : Token) → is_dup t ≡ true → t ≡ keyword keywords.Dup
dup_is (Word (meanings.Keyword keywords.Dup)) is = refl
dup_is t is = absurd (cc)

abbrev InParentheses : List Token → List Token → Type 0
InParentheses ts inner = ts ≡ Punctuator punctuators.OpenParenthesis ∷ (inner ++ Punctuator punctuators.CloseParenthesis ∷ [])

parenthesis_step : (t : Token) (ts inner : List Token) (test : Bool) → is_open_parenthesis t ≡ test
    → (if test then closed (around is_close_parenthesis ts) else Err BadLine) ≡ Ok inner → InParentheses (t ∷ ts) inner
parenthesis_step t ts inner true at is =
    let around_it = around_spelled is_close_parenthesis ts (inner, []) (closed_is (around is_close_parenthesis ts) inner is) in
    ap (λ (u : Token). u ∷ ts) (open_is t at)
    ∙ ap (λ (us : List Token). Punctuator punctuators.OpenParenthesis ∷ us)
    (around_it.are ∙ ap (λ (u : Token). inner ++ u ∷ []) (close_is around_it.token around_it.passes_it))
parenthesis_step t ts inner false at is = absurd (cc)

parentheses_are : (ts inner : List Token) → in_parentheses ts ≡ Ok inner → InParentheses ts inner
parentheses_are [] inner is = absurd (cc)
parentheses_are (t ∷ ts) inner is = parenthesis_step t ts inner (is_open_parenthesis t) refl is

repeated_spelled : (width : DataWidth) (ts front back : List Token) (i : Item)
    → StandsAround is_dup ts front back → repeated width front back ≡ Ok i → SpellsItem width i ts
unfolding repeated
repeated_spelled width ts front back i around_it is =
    let of = reads (constant_of front) (λ count. in_parentheses back >>= λ inner. pieces_of width inner >>= λ each. Ok (items.Repeated count each)) i is in
    let inside = reads (in_parentheses back) (λ inner. pieces_of width inner >>= λ each. Ok (items.Repeated of.read each)) i of.then' in
    let made = reads (pieces_of width inside.read) (λ each. Ok (items.Repeated of.read each)) i inside.then' in
    let same : items.Repeated of.read made.read ≡ i = ok_is (items.Repeated of.read made.read) i made.then' in
    let back_is : back ≡ Punctuator punctuators.OpenParenthesis ∷ (inside.read ++ Punctuator punctuators.CloseParenthesis ∷ []) =
    parentheses_are back inside.read inside.is in
    let dup : around_it.token ≡ keyword keywords.Dup = dup_is around_it.token around_it.passes_it in
    subst (λ (j : Item). SpellsItem width j ts) same
    (record {
      front = front;
      back = keyword keywords.Dup ∷ back;
      are = around_it.are ∙ ap (λ (u : Token). front ++ u ∷ back) dup;
      first = constant_spelled front of.read of.is;
      second = record {
        front = keyword keywords.Dup ∷ Punctuator punctuators.OpenParenthesis ∷ [];
        back = inside.read ++ Punctuator punctuators.CloseParenthesis ∷ [];
        are = ap (λ (us : List Token). keyword keywords.Dup ∷ us) back_is;
        first = refl;
        second = record {
          front = inside.read;
          back = Punctuator punctuators.CloseParenthesis ∷ [];
          are = refl;
          first = pieces_spelled width inside.read made.read made.is;
          second = refl;
        };
      };
    })

once_spelled : (width : DataWidth) (ts : List Token) (i : Item) → (piece_of width ts >>= λ piece. Ok (items.Once piece)) ≡ Ok i → SpellsItem width i ts
once_spelled width ts i is =
    let of = reads (piece_of width ts) (λ piece. Ok (items.Once piece)) i is in
    let same : items.Once of.read ≡ i = ok_is (items.Once of.read) i of.then' in
    subst (λ (j : Item). SpellsItem width j ts) same (piece_spelled width ts of.read of.is)

item_step : (width : DataWidth) (ts : List Token) (found : Option (List Token × List Token)) (i : Item)
    → around is_dup ts ≡ found → item_by found width ts ≡ Ok i → SpellsItem width i ts
item_step width ts (Some p) i at is = repeated_spelled width ts p.0 p.1 i (around_spelled is_dup ts p at) is
item_step width ts None i at is = once_spelled width ts i is

item_spelled : (width : DataWidth) (ts : List Token) (i : Item) → item_of width ts ≡ Ok i → SpellsItem width i ts
unfolding item_of
item_spelled width ts i is = item_step width ts (around is_dup ts) i refl is

items_spelled : (width : DataWidth) (ts : List Token) (is : List Item) → items_of width ts ≡ Ok is → WithCommas (SpellsItem width) is ts
unfolding items_of
items_spelled width ts is read = commas_spelled (item_of width) (SpellsItem width) (item_spelled width) ts is read

-- ---- directives
segment_at_spelled : (name : Name) (ts : List Token) (s : Statement) → segment_at name ts ≡ Ok s
    → SpellsStatement s (keyword keywords.Segment ∷ Named name ∷ keyword keywords.At ∷ ts)
segment_at_spelled name ts s is =
    let of = reads (constant_of ts) (λ paragraph. Ok (statements.Segment name paragraph)) s is in
    let same : statements.Segment name of.read ≡ s = ok_is (statements.Segment name of.read) s of.then' in
    subst (λ (r : Statement). SpellsStatement r (keyword keywords.Segment ∷ Named name ∷ keyword keywords.At ∷ ts)) same
    (record {
      front = keyword keywords.Segment ∷ Named name ∷ keyword keywords.At ∷ [];
      back = ts;
      are = refl;
      first = refl;
      second = constant_spelled ts of.read of.is;
    })

segment_by_spelled : (t : Token) (ts : List Token) (s : Statement) → segment_by t ts ≡ Ok s
    → SpellsStatement s (keyword keywords.Segment ∷ t ∷ keyword keywords.At ∷ ts)
segment_by_spelled (Named name) ts s is = segment_at_spelled name ts s is
segment_by_spelled t ts s is = absurd (cc)

at_is : (t : Token) → is_at t ≡ true → keyword keywords.At ≡ t
at_is (Word (meanings.Keyword keywords.At)) is = refl
at_is t is = absurd (cc)

at_step : (t u : Token) (ts : List Token) (s : Statement) (test : Bool) → is_at u ≡ test → (if test then segment_by t ts else Err BadLine) ≡ Ok s
    → SpellsStatement s (keyword keywords.Segment ∷ t ∷ u ∷ ts)
at_step t u ts s true at is = subst (λ (v : Token). SpellsStatement s (keyword keywords.Segment ∷ t ∷ v ∷ ts)) (at_is u at) (segment_by_spelled t ts s is)
at_step t u ts s false at is = absurd (cc)

segment_spelled : (ts : List Token) (s : Statement) → segment_of ts ≡ Ok s → SpellsStatement s (keyword keywords.Segment ∷ ts)
unfolding segment_of
segment_spelled [] s is = absurd (cc)
segment_spelled (t ∷ []) s is = absurd (cc)
segment_spelled (t ∷ u ∷ ts) s is = at_step t u ts s (is_at u) refl is

ends_spelled : (ts : List Token) (s : Statement) → ends_of ts ≡ Ok s → SpellsStatement s (keyword keywords.Ends ∷ ts)
unfolding ends_of
ends_spelled [] s is =
    let same : statements.Ends ≡ s = ok_is statements.Ends s is in subst (λ (r : Statement). SpellsStatement r (keyword keywords.Ends ∷ [])) same refl
ends_spelled (t ∷ ts) s is = absurd (cc)

org_spelled : (ts : List Token) (s : Statement) → org_of ts ≡ Ok s → SpellsStatement s (keyword keywords.Org ∷ ts)
unfolding org_of
org_spelled ts s is =
    let of = reads (constant_of ts) (λ location. Ok (statements.Org location)) s is in
    let same : statements.Org of.read ≡ s = ok_is (statements.Org of.read) s of.then' in
    subst (λ (r : Statement). SpellsStatement r (keyword keywords.Org ∷ ts)) same
    (record { front = keyword keywords.Org ∷ []; back = ts; are = refl; first = refl; second = constant_spelled ts of.read of.is })

data_spelled : (width : DataWidth) (ts : List Token) (s : Statement) → data_of width ts ≡ Ok s → SpellsStatement s (keyword (width_keyword width) ∷ ts)
unfolding data_of
data_spelled width ts s is =
    let of = reads (items_of width ts) (λ each. Ok (statements.Data width each)) s is in
    let same : statements.Data width of.read ≡ s = ok_is (statements.Data width of.read) s of.then' in
    subst (λ (r : Statement). SpellsStatement r (keyword (width_keyword width) ∷ ts)) same
    (record { front = keyword (width_keyword width) ∷ []; back = ts; are = refl; first = refl; second = items_spelled width ts of.read of.is })

equ_at_spelled : (name : Name) (ts : List Token) (s : Statement) → equ_at name ts ≡ Ok s → SpellsStatement s (Named name ∷ keyword keywords.Equ ∷ ts)
equ_at_spelled name ts s is =
    let of = reads (constant_of ts) (λ value. Ok (statements.Equ name value)) s is in
    let same : statements.Equ name of.read ≡ s = ok_is (statements.Equ name of.read) s of.then' in
    subst (λ (r : Statement). SpellsStatement r (Named name ∷ keyword keywords.Equ ∷ ts)) same
    (record { front = Named name ∷ keyword keywords.Equ ∷ []; back = ts; are = refl; first = refl; second = constant_spelled ts of.read of.is })

equ_spelled : (t : Token) (ts : List Token) (s : Statement) → equ_of t ts ≡ Ok s → SpellsStatement s (t ∷ keyword keywords.Equ ∷ ts)
unfolding equ_of
equ_spelled (Named name) ts s is = equ_at_spelled name ts s is
equ_spelled t ts s is = absurd (cc)

directive_spelled : (k : Keyword) (ts : List Token) (s : Statement) → directive_of k ts ≡ Ok s → SpellsStatement s (keyword k ∷ ts)
unfolding directive_of
directive_spelled keywords.Segment ts s is = segment_spelled ts s is
directive_spelled keywords.Ends ts s is = ends_spelled ts s is
directive_spelled keywords.Org ts s is = org_spelled ts s is
directive_spelled keywords.Db ts s is = data_spelled widths.Byte ts s is
directive_spelled keywords.Dw ts s is = data_spelled widths.Word ts s is
directive_spelled keywords.Dd ts s is = data_spelled widths.Double ts s is
directive_spelled k ts s is = absurd (cc)

-- ---- instructions
instruction_spelled : (ps : List Prefix) (front : List Token) (m : Mnemonic) (ts : List Token) (s : Statement)
    → SpellsPrefixes ps front → instruction_of ps m ts ≡ Ok s → SpellsStatement s (front ++ Word (meanings.Mnemonic m) ∷ ts)
unfolding instruction_of
instruction_spelled ps front m ts s before is =
    let of = reads (operands_of ts) (λ each. Ok (statements.Instruction (record { prefixes = ps; mnemonic = m; operands = each }))) s is in
    let made : Statement = statements.Instruction (record { prefixes = ps; mnemonic = m; operands = of.read }) in
    let same : made ≡ s = ok_is made s of.then' in
    subst (λ (r : Statement). SpellsStatement r (front ++ Word (meanings.Mnemonic m) ∷ ts)) same
    (record {
      front = front;
      back = Word (meanings.Mnemonic m) ∷ ts;
      are = refl;
      first = before;
      second = record { front = Word (meanings.Mnemonic m) ∷ []; back = ts; are = refl; first = refl; second = operands_spelled ts of.read of.is };
    })

-- the prefixes at the front
record HasPrefixes (ts : List Token) (p : List Prefix × List Token) : Type 0 where
  front : List Token
  are : ts ≡ front ++ p.1
  spelled : SpellsPrefixes p.0 front

one_prefix : (own : List Token) (p : Prefix) (ts : List Token) (rest : List Prefix × List Token)
    → SpellsPrefix p own → HasPrefixes ts rest → HasPrefixes (own ++ ts) (onto_prefixes p rest)
one_prefix own p ts rest is has = record {
  front = own ++ has.front;
  are = ap (λ (us : List Token). own ++ us) has.are ∙ sym (append_assoc own has.front rest.1);
  spelled = record { front = own; back = has.front; are = refl; first = is; second = has.spelled };
}

no_prefix : (ts : List Token) → HasPrefixes ts ([], ts)
no_prefix ts = record { front = []; are = refl; spelled = refl }

segment_step : (s : SegmentRegister) (t : Token) (ts : List Token) (test : Bool) → is_colon t ≡ test → HasPrefixes ts (prefixes_of ts)
    → HasPrefixes (segment_token s ∷ t ∷ ts) (if test then onto_prefixes (prefixes.Segment s) (prefixes_of ts) else ([], segment_token s ∷ t ∷ ts))
segment_step s t ts true at has =
    subst (λ (u : Token). HasPrefixes (segment_token s ∷ u ∷ ts) (onto_prefixes (prefixes.Segment s) (prefixes_of ts))) (sym (colon_is t at))
    (one_prefix (segment_token s ∷ Punctuator punctuators.Colon ∷ []) (prefixes.Segment s) ts (prefixes_of ts) (inl refl) has)
segment_step s t ts false at has = no_prefix (segment_token s ∷ t ∷ ts)

has_prefixes : (ts : List Token) → HasPrefixes ts (prefixes_of ts)
has_prefixes (Word (meanings.Prefix p) ∷ ts) = one_prefix (Word (meanings.Prefix p) ∷ []) p ts (prefixes_of ts) (inr refl) (has_prefixes ts)
has_prefixes (Word (meanings.Register (registers.Segment s)) ∷ t ∷ ts) = segment_step s t ts (is_colon t) refl (has_prefixes ts)
has_prefixes ts = no_prefix ts

keyword_step : (s : Statement) (ts : List Token) (test : Bool)
    → ◌≡◌ {A = Result Statement SyntaxFault} (if test then Err BadLine else Err UnknownName) (Ok s) → SpellsStatement s ts
keyword_step s ts true is = absurd (cc)
keyword_step s ts false is = absurd (cc)

keyword_spelled : (ps : List Prefix) (front : List Token) (k : Keyword) (ts : List Token) (s : Statement)
    → SpellsPrefixes ps front → keyword_statement ps k ts ≡ Ok s → SpellsStatement s (front ++ keyword k ∷ ts)
keyword_spelled [] front k ts s before is = subst (λ (us : List Token). SpellsStatement s (us ++ keyword k ∷ ts)) (sym before) (directive_spelled k ts s is)
keyword_spelled (p ∷ ps) front k ts s before is = keyword_step s (front ++ keyword k ∷ ts) (is_directive k) is

word_spelled : (ps : List Prefix) (front : List Token) (m : Meaning) (ts : List Token) (s : Statement) → SpellsPrefixes ps front → word_statement ps m ts ≡ Ok s
    → SpellsStatement s (front ++ Word m ∷ ts)
word_spelled ps front (meanings.Mnemonic m) ts s before is = instruction_spelled ps front m ts s before is
word_spelled ps front (meanings.Keyword k) ts s before is = keyword_spelled ps front k ts s before is
word_spelled ps front m ts s before is = absurd (cc)

led_spelled : (ps : List Prefix) (front : List Token) (t : Token) (ts : List Token) (s : Statement) → SpellsPrefixes ps front → led_statement ps t ts ≡ Ok s
    → SpellsStatement s (front ++ t ∷ ts)
led_spelled ps front (Word m) ts s before is = word_spelled ps front m ts s before is
led_spelled ps front t ts s before is = absurd (cc)

after_spelled : (ps : List Prefix) (front ts : List Token) (s : Statement)
    → SpellsPrefixes ps front → statement_after ps ts ≡ Ok s → SpellsStatement s (front ++ ts)
unfolding statement_after
after_spelled ps front [] s before is = absurd (cc)
after_spelled ps front (t ∷ ts) s before is = led_spelled ps front t ts s before is

prefixed_spelled : (ts : List Token) (s : Statement) → prefixed_statement ts ≡ Ok s → SpellsStatement s ts
unfolding prefixed_statement
prefixed_spelled ts s is =
    let has = has_prefixes ts in
    subst (SpellsStatement s) (sym has.are) (after_spelled (prefixes_of ts).0 has.front (prefixes_of ts).1 s has.spelled is)

-- ---- lines
equ_is : (t : Token) → is_equ t ≡ true → keyword keywords.Equ ≡ t
equ_is (Word (meanings.Keyword keywords.Equ)) is = refl
equ_is t is = absurd (cc)

equ_step : (t u : Token) (ts : List Token) (s : Statement) (test : Bool)
    → is_equ u ≡ test → (if test then equ_of t ts else prefixed_statement (t ∷ u ∷ ts)) ≡ Ok s → SpellsStatement s (t ∷ u ∷ ts)
equ_step t u ts s true at is = subst (λ (v : Token). SpellsStatement s (t ∷ v ∷ ts)) (equ_is u at) (equ_spelled t ts s is)
equ_step t u ts s false at is = prefixed_spelled (t ∷ u ∷ ts) s is

statement_spelled : (ts : List Token) (s : Statement) → statement_of ts ≡ Ok s → SpellsStatement s ts
unfolding statement_of
statement_spelled [] s is = let same : statements.Empty ≡ s = ok_is statements.Empty s is in subst (λ (r : Statement). SpellsStatement r []) same refl
statement_spelled (t ∷ []) s is = prefixed_spelled (t ∷ []) s is
statement_spelled (t ∷ u ∷ ts) s is = equ_step t u ts s (is_equ u) refl is

with_label_spelled : (label : Option Name) (ts : List Token) (l : Line) → with_label label ts ≡ Ok l → SpellsLine l (label_tokens label ++ ts)
with_label_spelled label ts l is =
    let of = reads (statement_of ts) (λ s. Ok (record { label = label; statement = s })) l is in
    let made : Line = record { label = label; statement = of.read } in
    let same : made ≡ l = ok_is made l of.then' in
    subst (λ (m : Line). SpellsLine m (label_tokens label ++ ts)) same
    (record { front = label_tokens label; back = ts; are = refl; first = refl; second = statement_spelled ts of.read of.is })

named_spelled : (label : Name) (u : Token) (ts : List Token) (l : Line) → labelled (Named label) u ts ≡ Ok l → SpellsLine l (Named label ∷ u ∷ ts)
named_spelled label (Punctuator punctuators.Colon) ts l is = with_label_spelled (Some label) ts l is
named_spelled label u ts l is = with_label_spelled None (Named label ∷ u ∷ ts) l is

labelled_spelled : (t u : Token) (ts : List Token) (l : Line) → labelled t u ts ≡ Ok l → SpellsLine l (t ∷ u ∷ ts)
labelled_spelled (Named label) u ts l is = named_spelled label u ts l is
labelled_spelled t u ts l is = with_label_spelled None (t ∷ u ∷ ts) l is

pub read_is_spelled : (ts : List Token) (l : Line) → line_of ts ≡ Ok l → SpellsLine l ts
unfolding line_of
read_is_spelled [] l is = with_label_spelled None [] l is
read_is_spelled (t ∷ []) l is = with_label_spelled None (t ∷ []) l is
read_is_spelled (t ∷ u ∷ ts) l is = labelled_spelled t u ts l is

pub each_line_read_is_spelled : EachLineReadIsSpelled
each_line_read_is_spelled ts l is = read_is_spelled ts l (line_alike ts ∙ is)
