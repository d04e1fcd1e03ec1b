-- What is read of a line is no longer than the line.
use Rattle.std.proofs.Common.{◌≡◌, ◌∙◌, ℕ, ◌+◌, ◌≤◌, suc, Bool, true, false, ◌&&◌, if◌then◌else◌, List, [], ◌∷◌}
use Rattle.std.proofs.Common.{length, take, drop, Option, Some, None, refl, arith, Result, Ok, Err, length-append}
use Rattle.std.specs.Prelude.{position}
use Rattle.std.specs.List.{list_all}
use Rattle.std.proofs.lemmas.Bool.{and_from, and_parts}
use Rattle.isa.specs.declared.form.Prefix.{Prefix}
use Rattle.isa.specs.declared.form.Prefix.TheVariants as prefixes
use Rattle.isa.specs.declared.register.SegmentRegister.{SegmentRegister}
use Rattle.isa.specs.declared.form.Base.{Base}
use Rattle.dialect.specs.declared.meaning.Meaning.{Meaning}
use Rattle.dialect.specs.declared.meaning.Meaning.TheVariants as meanings
use Rattle.dialect.specs.declared.mnemonic.Mnemonic.{Mnemonic}
use Rattle.dialect.specs.declared.register.Register.{Register}
use Rattle.dialect.specs.declared.register.Register.TheVariants as registers
use Rattle.dialect.specs.declared.keyword.Keyword.{Keyword}
use Rattle.dialect.specs.declared.keyword.Keyword.TheVariants as keywords
use Rattle.dialect.specs.declared.size.Size.{Size}
use Rattle.dialect.specs.declared.size.Size.TheVariants as sizes
use Rattle.assembler_lexeme.specs.declared.fault.SyntaxFault.{SyntaxFault}
use Rattle.assembler_lexeme.specs.declared.fault.SyntaxFault.TheVariants.{BadLine, UnknownName, BadCharacter}
use Rattle.assembler_syntax.specs.declared.operand.Address.{Address}
use Rattle.assembler_syntax.specs.declared.operand.Operand.{Operand}
use Rattle.assembler_syntax.specs.declared.operand.Operand.TheVariants as operands
use Rattle.assembler_syntax.specs.declared.statement.DataWidth.{DataWidth}
use Rattle.assembler_syntax.specs.declared.statement.DataWidth.TheVariants as widths
use Rattle.assembler_syntax.specs.declared.statement.Piece.{Piece}
use Rattle.assembler_syntax.specs.declared.statement.Piece.TheVariants as kinds
use Rattle.assembler_syntax.specs.declared.statement.Item.{Item}
use Rattle.assembler_syntax.specs.declared.statement.Item.TheVariants as items
use Rattle.assembler_syntax.specs.declared.statement.Statement.{Statement}
use Rattle.assembler_syntax.specs.declared.statement.Statement.TheVariants as statements
use Rattle.assembler_syntax.specs.declared.statement.Line.{Line}
use Rattle.assembler_lexeme.specs.declared.name.Name.{Name}
use Rattle.assembler_syntax.specs.declared.expression.Atom.{Atom}
use Rattle.assembler_syntax.specs.declared.expression.Term.{Term}
use Rattle.assembler_lexeme.specs.declared.token.Token.{Token}
use Rattle.assembler_lexeme.specs.declared.token.Token.TheVariants.{One, Number, Named, Quoted, Word, Punctuator}
use Rattle.assembler_lexeme.specs.declared.token.Punctuator.TheVariants as punctuators
use Rattle.assembler_lexeme.specs.Lexemes.{is_character, lexemes}
use Rattle.assembler_lexeme.specs.Faults.{◌>>=◌, wanted}
use Rattle.assembler_lexeme.specs.Tokens.{tokens_of}
use Rattle.assembler_syntax.specs.PartSteps.{Signed, parts, parts_from, parts_here, is_open_after, onto_part, sign_of, signed_by}
use Rattle.assembler_syntax.specs.PartSteps.{signed_from, onto_signed, signed_parts, is_minus, at_place, around, closed, is_colon}
use Rattle.assembler_syntax.specs.PartSteps.{is_open_bracket, is_close_bracket, is_open_parenthesis, is_close_parenthesis, is_dup}
use Rattle.assembler_syntax.specs.ExpressionSteps.{atom_of, term_of, expression_of, is_constant, constant_of}
use Rattle.assembler_syntax.specs.OperandSteps.{base_with, with_register, terms_with, with_term, register_of, with_part_by, with_part, with_parts}
use Rattle.assembler_syntax.specs.OperandSteps.{empty_address, memory_of, value_of, after_segment, brackets_by, brackets_of, memory_in, single_label, far_label}
use Rattle.assembler_syntax.specs.OperandSteps.{far_target, far_by, far_of, short_of, single_operand, place_or_value, led_operand, operand_of, operands_of}
use Rattle.assembler_syntax.specs.ItemSteps.{value_piece, single_piece, piece_of, pieces_of, in_parentheses, repeated, item_by, item_of, items_of}
use Rattle.assembler_syntax.specs.StatementSteps.{segment_by, is_at, segment_of, ends_of, org_of, data_of, equ_of, directive_of}
use Rattle.assembler_syntax.specs.StatementSteps.{instruction_of, onto_prefixes, segment_token, prefixes_of, is_directive, keyword_statement}
use Rattle.assembler_syntax.specs.StatementSteps.{word_statement, led_statement, statement_after, prefixed_statement, is_equ, statement_of}
use Rattle.assembler_syntax.specs.LineSteps.{with_label, labelled, line_of, read_line}
use Rattle.assembler_lexeme.proofs.Weights.{is_le, from_le, total, sum_total, total_around, all_weight, all_pass, token_weight, weight, some_weight, tokens_le}
use Rattle.assembler_syntax.specs.Weights.{is_expression_within, is_displacement_within, is_operand_within, is_piece_within}
use Rattle.assembler_syntax.specs.Weights.{is_item_within, piece_weight, pieces_weight, item_weight, items_weight, IsWithin}
use Rattle.assembler_syntax.proofs.Alike.{text_alike}
use Rattle.assembler_syntax.specs.SyntaxLaws.{HoldsNoMore}

-- the parts of tokens weigh no more than the tokens
onto_weight : (t : Token) (ps : List (List Token)) → total weight (onto_part t ps) ≡ token_weight t + total weight ps
onto_weight t [] = omega arith
onto_weight t (p ∷ ps) = omega arith

parts_by : (t : Token) (ended going : List (List Token)) (n : ℕ) (here : Bool) → total weight ended ≤ n → total weight going ≤ n
    → total weight (if here then [] ∷ ended else onto_part t going) ≤ token_weight t + n
parts_by t ended going n true ended_le going_le = omega arith
parts_by t ended going n false ended_le going_le = rw (onto_weight t going) (omega arith)

parts_from_le : (is_open : Bool) (ts : List Token) → total weight (parts_from is_open ts) ≤ weight ts
parts_from_le is_open [] = omega arith
parts_from_le is_open (t ∷ ts) =
    parts_by t (parts_from false ts) (parts_from (is_open_after is_open t) ts) (weight ts)
    (parts_here is_open t) (parts_from_le false ts) (parts_from_le (is_open_after is_open t) ts)

parts_le : (ts : List Token) → total weight (parts ts) ≤ weight ts
unfolding parts
parts_le ts = parts_from_le false ts

abbrev signed_weight : Signed → ℕ
signed_weight part = weight part.tokens

onto_signed_weight : (is_negative : Bool) (t : Token) (ps : List Signed)
    → total signed_weight (onto_signed is_negative t ps) ≡ token_weight t + total signed_weight ps
onto_signed_weight is_negative t [] = omega arith
onto_signed_weight is_negative t (p ∷ ps) = omega arith

signed_by_le : (sign : Option Bool) (is_negative : Bool) (t : Token) (left : Bool → List Signed) (n : ℕ) → ((next : Bool) → total signed_weight (left next) ≤ n)
    → total signed_weight (signed_by sign is_negative t left) ≤ token_weight t + n
signed_by_le None is_negative t left n left_le =
    let rest = left_le is_negative in rw (onto_signed_weight is_negative t (left is_negative)) (omega arith)
signed_by_le (Some next) is_negative t left n left_le = let rest = left_le next in omega arith

signed_from_le : (ts : List Token) (is_negative : Bool) → total signed_weight (signed_from is_negative ts) ≤ weight ts
signed_from_le [] is_negative = omega arith
signed_from_le (t ∷ ts) is_negative = signed_by_le (sign_of t) is_negative t (λ next. signed_from next ts) (weight ts) (signed_from_le ts)

minus_by : (t : Token) (ts : List Token) (minus : Bool)
    → total signed_weight (if minus then signed_from true ts else signed_from false (t ∷ ts)) ≤ weight (t ∷ ts)
minus_by t ts true = let rest = signed_from_le ts true in omega arith
minus_by t ts false = signed_from_le (t ∷ ts) false

signed_le : (ts : List Token) → total signed_weight (signed_parts ts) ≤ weight ts
signed_le [] = signed_from_le [] false
signed_le (t ∷ ts) = minus_by t ts (is_minus t)

at_le : (ts : List Token) (place : Option ℕ) (p : List Token × List Token) → at_place ts place ≡ Some p → weight p.0 + weight p.1 ≤ weight ts
at_le ts (Some k) p is =
    let same : (take k ts, drop (k + 1) ts) ≡ p = cc in
    let next : k + 1 ≡ suc k = omega arith in
    rw (← same) (rw next (total_around token_weight k ts))
at_le ts None p is = absurd (cc)

around_le : (passes : Token → Bool) (ts : List Token) (p : List Token × List Token) → around passes ts ≡ Some p → weight p.0 + weight p.1 ≤ weight ts
around_le passes ts p is = at_le ts (position passes ts) p is

closed_is : (found : Option (List Token × List Token)) (inner : List Token) → closed found ≡ Ok inner → found ≡ Some (inner, [])
closed_is (Some (front, [])) inner is = cc
closed_is (Some (front, t ∷ ts)) inner is = absurd (cc)
closed_is None inner is = absurd (cc)

closed_le : (passes : Token → Bool) (ts inner : List Token) → closed (around passes ts) ≡ Ok inner → weight inner ≤ weight ts
closed_le passes ts inner is = let both = around_le passes ts (inner, []) (closed_is (around passes ts) inner is) in omega arith

-- an expression has no more terms than it has tokens
atom_le : (ts : List Token) (a : Atom) → atom_of ts ≡ Ok a → 1 ≤ weight ts
unfolding atom_of
atom_le [] a is = absurd (cc)
atom_le (t ∷ ts) a is = let one = some_weight t in omega arith

term_by : (r : Result Atom SyntaxFault) (is_negative : Bool) (term : Term) (n : ℕ) → ((a : Atom) → r ≡ Ok a → 1 ≤ n)
    → (r >>= λ atom. Ok (record { is_negative = is_negative; atom = atom })) ≡ Ok term → 1 ≤ n
term_by (Ok a) is_negative term n some is = some a refl
term_by (Err fault) is_negative term n some is = absurd (cc)

term_le : (part : Signed) (term : Term) → term_of part ≡ Ok term → 1 ≤ signed_weight part
term_le part term is = term_by (atom_of part.tokens) part.is_negative term (weight part.tokens) (atom_le part.tokens) is

ones : (terms : List Term) → total (λ (term : Term). 1) terms ≡ length terms
ones [] = refl
ones (term ∷ terms) = let rest = ones terms in omega arith

expression_le : (ts : List Token) (terms : List Term) → expression_of ts ≡ Ok terms → length terms ≤ weight ts
unfolding expression_of
expression_le ts terms is =
    let read = all_weight term_of signed_weight (λ (term : Term). 1) term_le (signed_parts ts) terms is in
    let parts = signed_le ts in
    let count = ones terms in
    omega arith

expression_in : (n : ℕ) (ts : List Token) (terms : List Term) → weight ts ≤ n → expression_of ts ≡ Ok terms → is_expression_within n terms ≡ true
expression_in n ts terms le is = let read = expression_le ts terms is in is_le (length terms) n (omega arith)

chosen : (test : Bool) (terms found : List Term) → (if test then Ok terms else Err BadLine) ≡ Ok found → terms ≡ found
chosen true terms found is = cc
chosen false terms found is = absurd (cc)

constant_by : (n : ℕ) (r : Result (List Term) SyntaxFault) (terms : List Term) → ((found : List Term) → r ≡ Ok found → is_expression_within n found ≡ true)
    → (r >>= λ found. if list_all is_constant found then Ok found else Err BadLine) ≡ Ok terms → is_expression_within n terms ≡ true
constant_by n (Ok found) terms within is =
    let same = chosen (list_all is_constant found) found terms is in rw (← same) (within found refl)
constant_by n (Err fault) terms within is = absurd (cc)

constant_in : (n : ℕ) (ts : List Token) (terms : List Term) → weight ts ≤ n → constant_of ts ≡ Ok terms → is_expression_within n terms ≡ true
unfolding constant_of
constant_in n ts terms le is = constant_by n (expression_of ts) terms (λ found. expression_in n ts found le) is

-- the expressions of an operand have no more terms than it has tokens
abbrev terms_size : Option (List Term) → ℕ
terms_size None = 0
terms_size (Some terms) = length terms

terms_with_size : (before : Option (List Term)) (term : Term) → length (terms_with before term) ≡ 1 + terms_size before
terms_with_size None term = omega arith
terms_with_size (Some terms) term = omega (arith, length-append terms (term ∷ []))

register_by : (a b : Address) (base : Option Base) → (wanted base >>= λ found. Ok (record a { base = Some found })) ≡ Ok b → a.displacement ≡ b.displacement
register_by a b (Some found) is = let same : record a { base = Some found } ≡ b = cc in rw (← same) refl
register_by a b None is = absurd (cc)

register_same : (a b : Address) (r : Register) → with_register a r ≡ Ok b → a.displacement ≡ b.displacement
register_same a b (registers.Word r) is = register_by a b (base_with a.base r) is
register_same a b (registers.Byte r) is = absurd (cc)
register_same a b (registers.Segment r) is = absurd (cc)

unsigned : (a b : Address) (r : Register) (is_negative : Bool) → (if is_negative then Err BadLine else with_register a r) ≡ Ok b
    → a.displacement ≡ b.displacement
unsigned a b r true is = absurd (cc)
unsigned a b r false is = register_same a b r is

term_more : (a b : Address) (r : Result Term SyntaxFault) (n : ℕ) → ((term : Term) → r ≡ Ok term → 1 ≤ n) → (r >>= λ term. Ok (with_term a term)) ≡ Ok b
    → terms_size b.displacement ≤ terms_size a.displacement + n
term_more a b (Ok term) n some is =
    let same : with_term a term ≡ b = cc in
    let more = terms_with_size a.displacement term in
    let one = some term refl in
    rw (← same) (omega arith)
term_more a b (Err fault) n some is = absurd (cc)

part_by : (found : Option Register) (a b : Address) (part : Signed) → with_part_by found a part ≡ Ok b
    → terms_size b.displacement ≤ terms_size a.displacement + signed_weight part
part_by (Some r) a b part is = let same = unsigned a b r part.is_negative is in rw (← same) (omega arith)
part_by None a b part is = term_more a b (term_of part) (signed_weight part) (term_le part) is

part_le : (a b : Address) (part : Signed) → with_part a part ≡ Ok b → terms_size b.displacement ≤ terms_size a.displacement + signed_weight part
unfolding with_part
part_le a b part is = part_by (register_of part.tokens) a b part is

with_parts_by : (r : Result Address SyntaxFault) (ps : List Signed) (b : Address) (n m : ℕ) → ((a : Address) → r ≡ Ok a → terms_size a.displacement ≤ n)
    → ((a : Address) → with_parts a ps ≡ Ok b → terms_size b.displacement ≤ terms_size a.displacement + m)
    → (r >>= λ a. with_parts a ps) ≡ Ok b → terms_size b.displacement ≤ n + m
with_parts_by (Ok a) ps b n m first rest is = let one = first a refl in let others = rest a is in omega arith
with_parts_by (Err fault) ps b n m first rest is = absurd (cc)

with_parts_le : (ps : List Signed) (a b : Address) → with_parts a ps ≡ Ok b → terms_size b.displacement ≤ terms_size a.displacement + total signed_weight ps
with_parts_le [] a b is = let same : a ≡ b = cc in rw (← same) (omega arith)
with_parts_le (part ∷ ps) a b is =
    let all = with_parts_by (with_part a part) ps b (terms_size a.displacement + signed_weight part)
    (total signed_weight ps) (λ c. part_le a c part) (λ c. with_parts_le ps c b) is in
    omega arith

displacement_in : (n : ℕ) (terms : Option (List Term)) → terms_size terms ≤ n → is_displacement_within n terms ≡ true
displacement_in n None le = refl
displacement_in n (Some terms) le = is_le (length terms) n le

memory_by : (n : ℕ) (r : Result Address SyntaxFault) (o : Operand) → ((a : Address) → r ≡ Ok a → is_displacement_within n a.displacement ≡ true)
    → (r >>= λ a. Ok (operands.Memory a)) ≡ Ok o → is_operand_within n o ≡ true
memory_by n (Ok a) o within is = let same : operands.Memory a ≡ o = cc in rw (← same) (within a refl)
memory_by n (Err fault) o within is = absurd (cc)

inner_by : (n : ℕ) (size : Option Size) (segment : Option SegmentRegister) (r : Result (List Token) SyntaxFault) (o : Operand)
    → ((inner : List Token) → r ≡ Ok inner → weight inner ≤ n)
    → (r >>= λ inner. with_parts (empty_address size segment) (signed_parts inner) >>= λ a. Ok (operands.Memory a)) ≡ Ok o → is_operand_within n o ≡ true
inner_by n size segment (Ok inner) o le is =
    memory_by n (with_parts (empty_address size segment) (signed_parts inner)) o
    (λ a read.
    let all = with_parts_le (signed_parts inner) (empty_address size segment) a read in
    let parts = signed_le inner in
    let within = le inner refl in
    displacement_in n a.displacement (omega arith))
    is
inner_by n size segment (Err fault) o le is = absurd (cc)

memory_in_is : (n : ℕ) (size : Option Size) (segment : Option SegmentRegister) (ts : List Token) (o : Operand)
    → weight ts ≤ n → memory_of size segment ts ≡ Ok o → is_operand_within n o ≡ true
unfolding memory_of
memory_in_is n size segment ts o le is =
    inner_by n size segment (closed (around is_close_bracket ts)) o
    (λ inner found. let inside = closed_le is_close_bracket ts inner found in omega arith)
    is

value_by : (n : ℕ) (r : Result (List Term) SyntaxFault) (o : Operand) → ((terms : List Term) → r ≡ Ok terms → is_expression_within n terms ≡ true)
    → (r >>= λ value. Ok (operands.Value value)) ≡ Ok o → is_operand_within n o ≡ true
value_by n (Ok terms) o within is = let same : operands.Value terms ≡ o = cc in rw (← same) (within terms refl)
value_by n (Err fault) o within is = absurd (cc)

value_in : (n : ℕ) (ts : List Token) (o : Operand) → weight ts ≤ n → value_of ts ≡ Ok o → is_operand_within n o ≡ true
unfolding value_of
value_in n ts o le is = value_by n (expression_of ts) o (λ terms. expression_in n ts terms le) is

short_by : (n : ℕ) (r : Result (List Term) SyntaxFault) (o : Operand) → ((terms : List Term) → r ≡ Ok terms → is_expression_within n terms ≡ true)
    → (r >>= λ target. Ok (operands.Short target)) ≡ Ok o → is_operand_within n o ≡ true
short_by n (Ok terms) o within is = let same : operands.Short terms ≡ o = cc in rw (← same) (within terms refl)
short_by n (Err fault) o within is = absurd (cc)

short_in : (n : ℕ) (ts : List Token) (o : Operand) → weight ts ≤ n → short_of ts ≡ Ok o → is_operand_within n o ≡ true
short_in n ts o le is = short_by n (expression_of ts) o (λ terms. expression_in n ts terms le) is

after_by : (s : SegmentRegister) (t u : Token) (ts : List Token) (b : Option SegmentRegister × List Token) (test : Bool)
    → (if test then Some (Some s, ts) else None) ≡ Some b → weight b.1 ≤ weight (t ∷ u ∷ ts)
after_by s t u ts b true is = let same : (Some s, ts) ≡ b = cc in rw (← same) (omega arith)
after_by s t u ts b false is = absurd (cc)

after_le : (r : Register) (ts : List Token) (b : Option SegmentRegister × List Token) → after_segment r ts ≡ Some b → weight b.1 ≤ weight ts
after_le (registers.Segment s) (t ∷ u ∷ ts) b is = after_by s t u ts b (is_colon t && is_open_bracket u) is
after_le (registers.Segment s) (t ∷ []) b is = absurd (cc)
after_le (registers.Segment s) [] b is = absurd (cc)
after_le (registers.Byte r) ts b is = absurd (cc)
after_le (registers.Word r) ts b is = absurd (cc)

brackets_by_le : (t : Token) (ts : List Token) (b : Option SegmentRegister × List Token) → brackets_by t ts ≡ Some b → weight b.1 ≤ weight ts
brackets_by_le (Punctuator punctuators.OpenBracket) ts b is = let same : (None, ts) ≡ b = cc in rw (← same) (omega arith)
brackets_by_le (Word (meanings.Register r)) ts b is = after_le r ts b is
brackets_by_le t ts b is = absurd (cc)

brackets_le : (ts : List Token) (b : Option SegmentRegister × List Token) → brackets_of ts ≡ Some b → weight b.1 ≤ weight ts
unfolding brackets_of
brackets_le [] b is = absurd (cc)
brackets_le (t ∷ ts) b is = let rest = brackets_by_le t ts b is in omega arith

sized_in : (n : ℕ) (size : Option Size) (found : Option (Option SegmentRegister × List Token)) (o : Operand)
    → ((b : Option SegmentRegister × List Token) → found ≡ Some b → weight b.1 ≤ n) → memory_in size found ≡ Ok o → is_operand_within n o ≡ true
sized_in n size (Some b) o le is = memory_in_is n size b.0 b.1 o (le b refl) is
sized_in n size None o le is = absurd (cc)

label_in : (n : ℕ) (t : Token) (o : Operand) → single_label t ≡ Ok o → is_operand_within n o ≡ true
label_in n (Named label) o is = let same : operands.FarLabel label ≡ o = cc in rw (← same) refl
label_in n t o is = absurd (cc)

far_label_in : (n : ℕ) (ts : List Token) (o : Operand) → far_label ts ≡ Ok o → is_operand_within n o ≡ true
far_label_in n [] o is = absurd (cc)
far_label_in n (t ∷ []) o is = label_in n t o is
far_label_in n (t ∷ u ∷ ts) o is = absurd (cc)

pointer_by : (n : ℕ) (r s : Result (List Term) SyntaxFault) (o : Operand) → ((terms : List Term) → r ≡ Ok terms → is_expression_within n terms ≡ true)
    → ((terms : List Term) → s ≡ Ok terms → is_expression_within n terms ≡ true)
    → (r >>= λ segment. s >>= λ offset. Ok (operands.FarPointer segment offset)) ≡ Ok o → is_operand_within n o ≡ true
pointer_by n (Ok segment) (Ok offset) o first second is =
    let same : operands.FarPointer segment offset ≡ o = cc in
    rw (← same) (and_from (is_expression_within n segment) (is_expression_within n offset) (first segment refl) (second offset refl))
pointer_by n (Ok segment) (Err fault) o first second is = absurd (cc)
pointer_by n (Err fault) s o first second is = absurd (cc)

target_in : (n : ℕ) (ts : List Token) (found : Option (List Token × List Token)) (o : Operand)
    → ((p : List Token × List Token) → found ≡ Some p → weight p.0 + weight p.1 ≤ n) → far_target found ts ≡ Ok o → is_operand_within n o ≡ true
target_in n ts (Some p) o le is =
    let both = le p refl in
    let front : weight p.0 ≤ n = omega arith in
    let back : weight p.1 ≤ n = omega arith in
    pointer_by n (expression_of p.0) (expression_of p.1) o (λ terms. expression_in n p.0 terms front) (λ terms. expression_in n p.1 terms back) is
target_in n ts None o le is = far_label_in n ts o is

far_by_in : (n : ℕ) (ts : List Token) (found : Option (Option SegmentRegister × List Token)) (o : Operand) → weight ts ≤ n
    → ((b : Option SegmentRegister × List Token) → found ≡ Some b → weight b.1 ≤ n) → far_by found ts ≡ Ok o → is_operand_within n o ≡ true
far_by_in n ts (Some b) o le inside is = memory_in_is n (Some sizes.Far) b.0 b.1 o (inside b refl) is
far_by_in n ts None o le inside is =
    target_in n ts (around is_colon ts) o (λ p found. let both = around_le is_colon ts p found in omega arith) is

place_in : (n : ℕ) (ts : List Token) (found : Option (Option SegmentRegister × List Token)) (o : Operand) → weight ts ≤ n
    → ((b : Option SegmentRegister × List Token) → found ≡ Some b → weight b.1 ≤ n) → place_or_value found ts ≡ Ok o → is_operand_within n o ≡ true
place_in n ts (Some b) o le inside is = memory_in_is n None b.0 b.1 o (inside b refl) is
place_in n ts None o le inside is = value_in n ts o le is

brackets_in : (n : ℕ) (ts : List Token) → weight ts ≤ n → (b : Option SegmentRegister × List Token) → brackets_of ts ≡ Some b → weight b.1 ≤ n
brackets_in n ts le b found = let inside = brackets_le ts b found in omega arith

far_in : (n : ℕ) (ts : List Token) (o : Operand) → weight ts ≤ n → far_of ts ≡ Ok o → is_operand_within n o ≡ true
unfolding far_of
far_in n ts o le is = far_by_in n ts (brackets_of ts) o le (brackets_in n ts le) is

single_in : (n : ℕ) (t : Token) (o : Operand) → token_weight t ≤ n → single_operand t ≡ Ok o → is_operand_within n o ≡ true
single_in n (Word (meanings.Register r)) o le is = let same : operands.Register r ≡ o = cc in rw (← same) refl
single_in n One o le is = let same : operands.One ≡ o = cc in rw (← same) refl
single_in n t o le is = value_in n (t ∷ []) o (omega arith) is

led_in : (n : ℕ) (t : Token) (ts : List Token) (o : Operand) → weight (t ∷ ts) ≤ n → weight ts ≤ n → led_operand t ts ≡ Ok o → is_operand_within n o ≡ true
led_in n (Word (meanings.Keyword keywords.Short)) ts o all le is = short_in n ts o le is
led_in n (Word (meanings.Keyword keywords.Byte)) ts o all le is = sized_in n (Some sizes.Byte) (brackets_of ts) o (brackets_in n ts le) is
led_in n (Word (meanings.Keyword keywords.Word)) ts o all le is = sized_in n (Some sizes.Word) (brackets_of ts) o (brackets_in n ts le) is
led_in n (Word (meanings.Keyword keywords.Far)) ts o all le is = far_in n ts o le is
led_in n t ts o all le is = place_in n (t ∷ ts) (brackets_of (t ∷ ts)) o all (brackets_in n (t ∷ ts) all) is

operand_in : (n : ℕ) (ts : List Token) (o : Operand) → weight ts ≤ n → operand_of ts ≡ Ok o → is_operand_within n o ≡ true
unfolding operand_of
operand_in n [] o le is = absurd (cc)
operand_in n (t ∷ []) o le is = single_in n t o (omega arith) is
operand_in n (t ∷ u ∷ ts) o le is = led_in n t (u ∷ ts) o le (omega arith) is

operands_in : (n : ℕ) (ts : List Token) (os : List Operand) → weight ts ≤ n → operands_of ts ≡ Ok os → list_all (is_operand_within n) os ≡ true
unfolding operands_of
operands_in n [] os le is = let same : [] ≡ os = cc in rw (← same) refl
operands_in n (t ∷ ts) os le is =
    let each = parts_le (t ∷ ts) in
    all_pass operand_of weight (is_operand_within n) n (operand_in n) (parts (t ∷ ts)) os (omega arith) is

-- the pieces of an item weigh no more than its tokens
value_tokens : (ts : List Token) (terms : List Term) → expression_of ts ≡ Ok terms → 1 ≤ weight ts
unfolding expression_of atom_of
value_tokens [] terms is = absurd (cc)
value_tokens (t ∷ ts) terms is = let one = some_weight t in omega arith

record IsPieceWithin (n : ℕ) (p : Piece) : Type 0 where
  size : piece_weight p ≤ n
  terms : is_piece_within n p ≡ true

value_piece_by : (n : ℕ) (r : Result (List Term) SyntaxFault) (p : Piece) → ((terms : List Term) → r ≡ Ok terms → 1 ≤ n)
    → ((terms : List Term) → r ≡ Ok terms → is_expression_within n terms ≡ true) → (r >>= λ value. Ok (kinds.Value value)) ≡ Ok p → IsPieceWithin n p
value_piece_by n (Ok terms) p some within is =
    let same : kinds.Value terms ≡ p = cc in rw (← same) (record { size = some terms refl; terms = within terms refl })
value_piece_by n (Err fault) p some within is = absurd (cc)

value_piece_in : (ts : List Token) (p : Piece) → value_piece ts ≡ Ok p → IsPieceWithin (weight ts) p
value_piece_in ts p is =
    value_piece_by (weight ts) (expression_of ts) p (value_tokens ts) (λ terms. expression_in (weight ts) ts terms (omega arith)) is

text_piece_in : (text : List ℕ) (p : Piece) → kinds.Text text ≡ p → IsPieceWithin (weight (Quoted text ∷ [])) p
text_piece_in text p same = rw (← same) (record { size = omega arith; terms = refl })

single_piece_in : (width : DataWidth) (t : Token) (p : Piece) → single_piece width t ≡ Ok p → IsPieceWithin (weight (t ∷ [])) p
single_piece_in widths.Byte (Quoted text) p is = text_piece_in text p (cc)
single_piece_in widths.Byte One p is = value_piece_in (One ∷ []) p is
single_piece_in widths.Byte (Number k) p is = value_piece_in (Number k ∷ []) p is
single_piece_in widths.Byte (Named name) p is = value_piece_in (Named name ∷ []) p is
single_piece_in widths.Byte (Word meaning) p is = value_piece_in (Word meaning ∷ []) p is
single_piece_in widths.Byte (Punctuator punctuator) p is = value_piece_in (Punctuator punctuator ∷ []) p is
single_piece_in widths.Word t p is = value_piece_in (t ∷ []) p is
single_piece_in widths.Double t p is = value_piece_in (t ∷ []) p is

piece_in : (width : DataWidth) (ts : List Token) (p : Piece) → piece_of width ts ≡ Ok p → IsPieceWithin (weight ts) p
unfolding piece_of
piece_in width [] p is = value_piece_in [] p is
piece_in width (t ∷ []) p is = single_piece_in width t p is
piece_in width (t ∷ u ∷ ts) p is = value_piece_in (t ∷ u ∷ ts) p is

more_terms : (m n : ℕ) (terms : List Term) → m ≤ n → is_expression_within m terms ≡ true → is_expression_within n terms ≡ true
more_terms m n terms le is = let less = from_le (length terms) m is in is_le (length terms) n (omega arith)

more_piece : (m n : ℕ) (p : Piece) → m ≤ n → is_piece_within m p ≡ true → is_piece_within n p ≡ true
more_piece m n (kinds.Value terms) le is = more_terms m n terms le is
more_piece m n (kinds.Text text) le is = refl

piece_terms : (n : ℕ) (width : DataWidth) (ts : List Token) (p : Piece) → weight ts ≤ n → piece_of width ts ≡ Ok p → is_piece_within n p ≡ true
piece_terms n width ts p le is = more_piece (weight ts) n p le ((piece_in width ts p is).terms)

pieces_terms : (n : ℕ) (width : DataWidth) (ts : List Token) (ps : List Piece)
    → weight ts ≤ n → pieces_of width ts ≡ Ok ps → list_all (is_piece_within n) ps ≡ true
unfolding pieces_of
pieces_terms n width ts ps le is =
    let each = parts_le ts in
    all_pass (piece_of width) weight (is_piece_within n) n (piece_terms n width) (parts ts) ps (omega arith) is

pieces_size : (width : DataWidth) (ts : List Token) (ps : List Piece) → pieces_of width ts ≡ Ok ps → pieces_weight ps ≤ weight ts
unfolding pieces_of
pieces_size width ts ps is =
    let read = all_weight (piece_of width) weight piece_weight (λ part p found. (piece_in width part p found).size) (parts ts) ps is in
    let each = parts_le ts in
    let sum = sum_total piece_weight ps in
    omega arith

record IsItemWithin (n : ℕ) (i : Item) : Type 0 where
  size : item_weight i ≤ n
  terms : is_item_within n i ≡ true

once_by : (n : ℕ) (r : Result Piece SyntaxFault) (i : Item) → ((p : Piece) → r ≡ Ok p → IsPieceWithin n p)
    → (r >>= λ piece. Ok (items.Once piece)) ≡ Ok i → IsItemWithin n i
once_by n (Ok p) i within is =
    let same : items.Once p ≡ i = cc in
    let found = within p refl in
    rw (← same) (record { size = found.size; terms = found.terms })
once_by n (Err fault) i within is = absurd (cc)

repeated_by : (n : ℕ) (width : DataWidth) (r : Result (List Term) SyntaxFault) (s : Result (List Token) SyntaxFault) (i : Item)
    → ((terms : List Term) → r ≡ Ok terms → is_expression_within n terms ≡ true) → ((inner : List Token) → s ≡ Ok inner → weight inner ≤ n)
    → (r >>= λ count. s >>= λ inner. pieces_of width inner >>= λ each. Ok (items.Repeated count each)) ≡ Ok i → IsItemWithin n i
repeated_by n width (Ok count) (Ok inner) i first le is =
    each_by (pieces_of width inner)
    (λ each found. let inside = pieces_size width inner each found in let all = le inner refl in omega arith)
    (λ each found. pieces_terms n width inner each (le inner refl) found)
    is
  where
    each_by : (each : Result (List Piece) SyntaxFault) → ((ps : List Piece) → each ≡ Ok ps → pieces_weight ps ≤ n)
        → ((ps : List Piece) → each ≡ Ok ps → list_all (is_piece_within n) ps ≡ true) → (each >>= λ ps. Ok (items.Repeated count ps)) ≡ Ok i → IsItemWithin n i
    each_by (Ok ps) size terms found =
        let same : items.Repeated count ps ≡ i = cc in
        rw (← same)
        (record { size = size ps refl; terms = and_from (is_expression_within n count) (list_all (is_piece_within n) ps) (first count refl) (terms ps refl) })
    each_by (Err fault) size terms found = absurd (cc)
repeated_by n width (Ok count) (Err fault) i first le is = absurd (cc)
repeated_by n width (Err fault) s i first le is = absurd (cc)

parenthesis_by : (t : Token) (ts inner : List Token) (is_open : Bool) → (if is_open then closed (around is_close_parenthesis ts) else Err BadLine) ≡ Ok inner
    → weight inner ≤ weight (t ∷ ts)
parenthesis_by t ts inner true is = let inside = closed_le is_close_parenthesis ts inner is in omega arith
parenthesis_by t ts inner false is = absurd (cc)

parentheses_le : (ts inner : List Token) → in_parentheses ts ≡ Ok inner → weight inner ≤ weight ts
parentheses_le [] inner is = absurd (cc)
parentheses_le (t ∷ ts) inner is = parenthesis_by t ts inner (is_open_parenthesis t) is

repeated_in : (n : ℕ) (width : DataWidth) (front back : List Token) (i : Item)
    → weight front + weight back ≤ n → repeated width front back ≡ Ok i → IsItemWithin n i
unfolding repeated
repeated_in n width front back i le is =
    repeated_by n width (constant_of front) (in_parentheses back) i
    (λ terms. constant_in n front terms (omega arith))
    (λ inner found. let inside = parentheses_le back inner found in omega arith)
    is

item_by_in : (width : DataWidth) (ts : List Token) (found : Option (List Token × List Token)) (i : Item)
    → ((p : List Token × List Token) → found ≡ Some p → weight p.0 + weight p.1 ≤ weight ts) → item_by found width ts ≡ Ok i → IsItemWithin (weight ts) i
item_by_in width ts (Some p) i le is = repeated_in (weight ts) width p.0 p.1 i (le p refl) is
item_by_in width ts None i le is = once_by (weight ts) (piece_of width ts) i (piece_in width ts) is

item_in : (width : DataWidth) (ts : List Token) (i : Item) → item_of width ts ≡ Ok i → IsItemWithin (weight ts) i
unfolding item_of
item_in width ts i is = item_by_in width ts (around is_dup ts) i (around_le is_dup ts) is

more_pieces : (m n : ℕ) (ps : List Piece) → m ≤ n → list_all (is_piece_within m) ps ≡ true → list_all (is_piece_within n) ps ≡ true
more_pieces m n [] le is = refl
more_pieces m n (p ∷ ps) le is =
    let both = and_parts (is_piece_within m p) (list_all (is_piece_within m) ps) is in
    and_from (is_piece_within n p) (list_all (is_piece_within n) ps) (more_piece m n p le both.0) (more_pieces m n ps le both.1)

more_item : (m n : ℕ) (i : Item) → m ≤ n → is_item_within m i ≡ true → is_item_within n i ≡ true
more_item m n (items.Once p) le is = more_piece m n p le is
more_item m n (items.Repeated count each) le is =
    let both = and_parts (is_expression_within m count) (list_all (is_piece_within m) each) is in
    and_from (is_expression_within n count) (list_all (is_piece_within n) each) (more_terms m n count le both.0) (more_pieces m n each le both.1)

item_terms : (n : ℕ) (width : DataWidth) (ts : List Token) (i : Item) → weight ts ≤ n → item_of width ts ≡ Ok i → is_item_within n i ≡ true
item_terms n width ts i le is = more_item (weight ts) n i le ((item_in width ts i is).terms)

items_terms : (n : ℕ) (width : DataWidth) (ts : List Token) (is : List Item) → weight ts ≤ n → items_of width ts ≡ Ok is → list_all (is_item_within n) is ≡ true
unfolding items_of
items_terms n width ts is le read =
    let each = parts_le ts in
    all_pass (item_of width) weight (is_item_within n) n (item_terms n width) (parts ts) is (omega arith) read

items_size : (width : DataWidth) (ts : List Token) (is : List Item) → items_of width ts ≡ Ok is → items_weight is ≤ weight ts
unfolding items_of
items_size width ts is read =
    let found = all_weight (item_of width) weight item_weight (λ part i one. (item_in width part i one).size) (parts ts) is read in
    let each = parts_le ts in
    let sum = sum_total item_weight is in
    omega arith

-- a statement holds no more than its tokens
data_by : (n : ℕ) (width : DataWidth) (r : Result (List Item) SyntaxFault) (s : Statement)
    → ((is : List Item) → r ≡ Ok is → list_all (is_item_within n) is ≡ true) → ((is : List Item) → r ≡ Ok is → items_weight is ≤ n)
    → (r >>= λ items. Ok (statements.Data width items)) ≡ Ok s → IsWithin n s
data_by n width (Ok is) s terms size read =
    let same : statements.Data width is ≡ s = cc in rw (← same) (record { terms = terms is refl; pieces = size is refl })
data_by n width (Err fault) s terms size read = absurd (cc)

data_in : (n : ℕ) (width : DataWidth) (ts : List Token) (s : Statement) → weight ts ≤ n → data_of width ts ≡ Ok s → IsWithin n s
unfolding data_of
data_in n width ts s le is =
    data_by n width (items_of width ts) s (λ each. items_terms n width ts each le) (λ each read. let size = items_size width ts each read in omega arith) is

segment_at_by : (n : ℕ) (name : Name) (r : Result (List Term) SyntaxFault) (s : Statement)
    → ((terms : List Term) → r ≡ Ok terms → is_expression_within n terms ≡ true)
    → (r >>= λ paragraph. Ok (statements.Segment name paragraph)) ≡ Ok s → IsWithin n s
segment_at_by n name (Ok terms) s within is =
    let same : statements.Segment name terms ≡ s = cc in rw (← same) (record { terms = within terms refl; pieces = omega arith })
segment_at_by n name (Err fault) s within is = absurd (cc)

segment_by_in : (n : ℕ) (t : Token) (ts : List Token) (s : Statement) → weight ts ≤ n → segment_by t ts ≡ Ok s → IsWithin n s
segment_by_in n (Named name) ts s le is = segment_at_by n name (constant_of ts) s (λ terms. constant_in n ts terms le) is
segment_by_in n t ts s le is = absurd (cc)

at_by : (n : ℕ) (t : Token) (ts : List Token) (s : Statement) (test : Bool)
    → weight ts ≤ n → (if test then segment_by t ts else Err BadLine) ≡ Ok s → IsWithin n s
at_by n t ts s true le is = segment_by_in n t ts s le is
at_by n t ts s false le is = absurd (cc)

segment_in : (n : ℕ) (ts : List Token) (s : Statement) → weight ts ≤ n → segment_of ts ≡ Ok s → IsWithin n s
unfolding segment_of
segment_in n [] s le is = absurd (cc)
segment_in n (t ∷ []) s le is = absurd (cc)
segment_in n (t ∷ u ∷ ts) s le is = at_by n t ts s (is_at u) (omega arith) is

ends_in : (n : ℕ) (ts : List Token) (s : Statement) → ends_of ts ≡ Ok s → IsWithin n s
unfolding ends_of
ends_in n [] s is = let same : statements.Ends ≡ s = cc in rw (← same) (record { terms = refl; pieces = omega arith })
ends_in n (t ∷ ts) s is = absurd (cc)

org_by : (n : ℕ) (r : Result (List Term) SyntaxFault) (s : Statement) → ((terms : List Term) → r ≡ Ok terms → is_expression_within n terms ≡ true)
    → (r >>= λ location. Ok (statements.Org location)) ≡ Ok s → IsWithin n s
org_by n (Ok terms) s within is = let same : statements.Org terms ≡ s = cc in rw (← same) (record { terms = within terms refl; pieces = omega arith })
org_by n (Err fault) s within is = absurd (cc)

org_in : (n : ℕ) (ts : List Token) (s : Statement) → weight ts ≤ n → org_of ts ≡ Ok s → IsWithin n s
unfolding org_of
org_in n ts s le is = org_by n (constant_of ts) s (λ terms. constant_in n ts terms le) is

equ_by : (n : ℕ) (name : Name) (r : Result (List Term) SyntaxFault) (s : Statement) → ((terms : List Term) → r ≡ Ok terms → is_expression_within n terms ≡ true)
    → (r >>= λ value. Ok (statements.Equ name value)) ≡ Ok s → IsWithin n s
equ_by n name (Ok terms) s within is = let same : statements.Equ name terms ≡ s = cc in rw (← same) (record { terms = within terms refl; pieces = omega arith })
equ_by n name (Err fault) s within is = absurd (cc)

equ_in : (n : ℕ) (t : Token) (ts : List Token) (s : Statement) → weight ts ≤ n → equ_of t ts ≡ Ok s → IsWithin n s
unfolding equ_of
equ_in n (Named name) ts s le is = equ_by n name (constant_of ts) s (λ terms. constant_in n ts terms le) is
equ_in n t ts s le is = absurd (cc)

directive_in : (n : ℕ) (k : Keyword) (ts : List Token) (s : Statement) → weight ts ≤ n → directive_of k ts ≡ Ok s → IsWithin n s
unfolding directive_of
directive_in n keywords.Segment ts s le is = segment_in n ts s le is
directive_in n keywords.Ends ts s le is = ends_in n ts s is
directive_in n keywords.Org ts s le is = org_in n ts s le is
directive_in n keywords.Db ts s le is = data_in n widths.Byte ts s le is
directive_in n keywords.Dw ts s le is = data_in n widths.Word ts s le is
directive_in n keywords.Dd ts s le is = data_in n widths.Double ts s le is
directive_in n k ts s le is = absurd (cc)

instruction_by : (n : ℕ) (ps : List Prefix) (m : Mnemonic) (r : Result (List Operand) SyntaxFault) (s : Statement)
    → ((os : List Operand) → r ≡ Ok os → list_all (is_operand_within n) os ≡ true)
    → (r >>= λ operands. Ok (statements.Instruction (record { prefixes = ps; mnemonic = m; operands = operands }))) ≡ Ok s → IsWithin n s
instruction_by n ps m (Ok os) s within is =
    let same : statements.Instruction (record { prefixes = ps; mnemonic = m; operands = os }) ≡ s = cc in
    rw (← same) (record { terms = within os refl; pieces = omega arith })
instruction_by n ps m (Err fault) s within is = absurd (cc)

instruction_in : (n : ℕ) (ps : List Prefix) (m : Mnemonic) (ts : List Token) (s : Statement) → weight ts ≤ n → instruction_of ps m ts ≡ Ok s → IsWithin n s
unfolding instruction_of
instruction_in n ps m ts s le is = instruction_by n ps m (operands_of ts) s (λ os. operands_in n ts os le) is

prefixes_by : (s : SegmentRegister) (t : Token) (ts : List Token) (test : Bool) → weight (prefixes_of ts).1 ≤ weight ts
    → weight (if test then onto_prefixes (prefixes.Segment s) (prefixes_of ts) else ([], segment_token s ∷ t ∷ ts)).1 ≤ weight (segment_token s ∷ t ∷ ts)
prefixes_by s t ts true le = omega arith
prefixes_by s t ts false le = omega arith

prefixes_le : (ts : List Token) → weight (prefixes_of ts).1 ≤ weight ts
prefixes_le (Word (meanings.Prefix p) ∷ ts) = let rest = prefixes_le ts in omega arith
prefixes_le (Word (meanings.Register (registers.Segment s)) ∷ t ∷ ts) = prefixes_by s t ts (is_colon t) (prefixes_le ts)
prefixes_le ts = omega arith

keyword_by : (n : ℕ) (s : Statement) (test : Bool)
    → ◌≡◌ {A = Result Statement SyntaxFault} (if test then Err BadLine else Err UnknownName) (Ok s) → IsWithin n s
keyword_by n s true is = absurd (cc)
keyword_by n s false is = absurd (cc)

keyword_in : (n : ℕ) (ps : List Prefix) (k : Keyword) (ts : List Token) (s : Statement) → weight ts ≤ n → keyword_statement ps k ts ≡ Ok s → IsWithin n s
keyword_in n [] k ts s le is = directive_in n k ts s le is
keyword_in n (p ∷ ps) k ts s le is = keyword_by n s (is_directive k) is

word_in : (n : ℕ) (ps : List Prefix) (m : Meaning) (ts : List Token) (s : Statement) → weight ts ≤ n → word_statement ps m ts ≡ Ok s → IsWithin n s
word_in n ps (meanings.Mnemonic m) ts s le is = instruction_in n ps m ts s le is
word_in n ps (meanings.Keyword k) ts s le is = keyword_in n ps k ts s le is
word_in n ps m ts s le is = absurd (cc)

led_statement_in : (n : ℕ) (ps : List Prefix) (t : Token) (ts : List Token) (s : Statement) → weight ts ≤ n → led_statement ps t ts ≡ Ok s → IsWithin n s
led_statement_in n ps (Word m) ts s le is = word_in n ps m ts s le is
led_statement_in n ps t ts s le is = absurd (cc)

after_in : (n : ℕ) (ps : List Prefix) (ts : List Token) (s : Statement) → weight ts ≤ n → statement_after ps ts ≡ Ok s → IsWithin n s
unfolding statement_after
after_in n ps [] s le is = absurd (cc)
after_in n ps (t ∷ ts) s le is = led_statement_in n ps t ts s (omega arith) is

prefixed_in : (n : ℕ) (ts : List Token) (s : Statement) → weight ts ≤ n → prefixed_statement ts ≡ Ok s → IsWithin n s
unfolding prefixed_statement
prefixed_in n ts s le is = let rest = prefixes_le ts in after_in n (prefixes_of ts).0 (prefixes_of ts).1 s (omega arith) is

second_by : (n : ℕ) (t u : Token) (ts : List Token) (s : Statement) (test : Bool) → weight (t ∷ u ∷ ts) ≤ n
    → (if test then equ_of t ts else prefixed_statement (t ∷ u ∷ ts)) ≡ Ok s → IsWithin n s
second_by n t u ts s true le is = equ_in n t ts s (omega arith) is
second_by n t u ts s false le is = prefixed_in n (t ∷ u ∷ ts) s le is

statement_in : (n : ℕ) (ts : List Token) (s : Statement) → weight ts ≤ n → statement_of ts ≡ Ok s → IsWithin n s
unfolding statement_of
statement_in n [] s le is = let same : statements.Empty ≡ s = cc in rw (← same) (record { terms = refl; pieces = omega arith })
statement_in n (t ∷ []) s le is = prefixed_in n (t ∷ []) s le is
statement_in n (t ∷ u ∷ ts) s le is = second_by n t u ts s (is_equ u) le is

with_label_by : (n : ℕ) (label : Option Name) (r : Result Statement SyntaxFault) (line : Line) → ((s : Statement) → r ≡ Ok s → IsWithin n s)
    → (r >>= λ s. Ok (record { label = label; statement = s })) ≡ Ok line → IsWithin n line.statement
with_label_by n label (Ok s) line within is = let same : record { label = label; statement = s } ≡ line = cc in rw (← same) (within s refl)
with_label_by n label (Err fault) line within is = absurd (cc)

with_label_in : (n : ℕ) (label : Option Name) (ts : List Token) (line : Line) → weight ts ≤ n → with_label label ts ≡ Ok line → IsWithin n line.statement
with_label_in n label ts line le is = with_label_by n label (statement_of ts) line (λ s. statement_in n ts s le) is

named_in : (n : ℕ) (label : Name) (u : Token) (ts : List Token) (line : Line) → weight (Named label ∷ u ∷ ts) ≤ n → labelled (Named label) u ts ≡ Ok line
    → IsWithin n line.statement
named_in n label (Punctuator punctuators.Colon) ts line le is = with_label_in n (Some label) ts line (omega arith) is
named_in n label u ts line le is = with_label_in n None (Named label ∷ u ∷ ts) line le is

labelled_in : (n : ℕ) (t u : Token) (ts : List Token) (line : Line) → weight (t ∷ u ∷ ts) ≤ n → labelled t u ts ≡ Ok line → IsWithin n line.statement
labelled_in n (Named label) u ts line le is = named_in n label u ts line le is
labelled_in n t u ts line le is = with_label_in n None (t ∷ u ∷ ts) line le is

line_in : (n : ℕ) (ts : List Token) (line : Line) → weight ts ≤ n → line_of ts ≡ Ok line → IsWithin n line.statement
unfolding line_of
line_in n [] line le is = with_label_in n None [] line le is
line_in n (t ∷ []) line le is = with_label_in n None (t ∷ []) line le is
line_in n (t ∷ u ∷ ts) line le is = labelled_in n t u ts line le is

read_by : (n : ℕ) (r : Result (List Token) SyntaxFault) (line : Line) (test : Bool) → ((ts : List Token) → r ≡ Ok ts → weight ts ≤ n)
    → (if test then (r >>= line_of) else Err BadCharacter) ≡ Ok line → IsWithin n line.statement
read_by n (Ok ts) line true le is = line_in n ts line (le ts refl) is
read_by n (Err fault) line true le is = absurd (cc)
read_by n r line false le is = absurd (cc)

-- what is read of a line is no longer than the line
text_within : (text : List ℕ) (line : Line) → read_line text ≡ Ok line → IsWithin (length text) line.statement
unfolding read_line
text_within text line is = read_by (length text) (tokens_of (lexemes text)) line (list_all is_character text) (tokens_le text) is

pub line_within : HoldsNoMore
line_within text line is = text_within text line (text_alike text ∙ is)
