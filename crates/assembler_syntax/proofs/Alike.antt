-- Reading a line in the code's own steps gives what the definition says.
use Rattle.std.proofs.Common.{◌≡◌, ℕ, ◌+◌, Bool, true, false, List, [], ◌∷◌, take, drop, position}
use Rattle.std.proofs.Common.{if◌then◌else◌, Option, None, Some, Result, Ok, Err, refl, ap, ◌∙◌}
use Rattle.std.specs.List.{list_all}
use Rattle.std.specs.Option.{option_map}
use Rattle.isa.specs.declared.register.SegmentRegister.{SegmentRegister}
use Rattle.isa.specs.declared.form.Prefix.{Prefix as PrefixType}
use Rattle.isa.specs.declared.form.Prefix.TheVariants as prefixes
use Rattle.dialect.specs.declared.meaning.Meaning.TheVariants.{Mnemonic, Register, Prefix, Keyword}
use Rattle.dialect.specs.declared.register.Register.{Register as RegisterType}
use Rattle.dialect.specs.declared.register.Register.TheVariants as registers
use Rattle.dialect.specs.declared.keyword.Keyword.{Keyword as KeywordType}
use Rattle.dialect.specs.declared.keyword.Keyword.TheVariants as keywords
use Rattle.dialect.specs.declared.size.Size.{Size}
use Rattle.dialect.specs.declared.size.Size.TheVariants as sizes
use Rattle.assembler_lexeme.specs.declared.fault.SyntaxFault.{SyntaxFault}
use Rattle.assembler_lexeme.specs.declared.fault.SyntaxFault.TheVariants.{BadCharacter, BadLine}
use Rattle.assembler_lexeme.specs.declared.name.Name.{Name}
use Rattle.assembler_lexeme.specs.declared.token.Token.{Token}
use Rattle.assembler_lexeme.specs.declared.token.Token.TheVariants.{One, Number, Named, Quoted, Word, Punctuator}
use Rattle.assembler_lexeme.specs.declared.token.Punctuator.{Punctuator as PunctuatorType}
use Rattle.assembler_lexeme.specs.declared.token.Punctuator.TheVariants.{Comma, Colon, Plus, Minus, OpenBracket, OpenParenthesis, CloseParenthesis, Dollar}
use Rattle.assembler_lexeme.specs.Lexemes.{is_character, lexemes}
use Rattle.assembler_lexeme.specs.Faults.{◌>>=◌, all_of}
use Rattle.assembler_lexeme.specs.Tokens.{tokens_of}
use Rattle.assembler_syntax.specs.declared.operand.Address.{Address}
use Rattle.assembler_syntax.specs.declared.statement.DataWidth.{DataWidth}
use Rattle.assembler_syntax.specs.declared.statement.DataWidth.TheVariants as widths
use Rattle.assembler_syntax.specs.PartSteps as part_steps
use Rattle.assembler_syntax.specs.ExpressionSteps as expression_steps
use Rattle.assembler_syntax.specs.OperandSteps as operand_steps
use Rattle.assembler_syntax.specs.ItemSteps as item_steps
use Rattle.assembler_syntax.specs.StatementSteps as statement_steps
use Rattle.assembler_syntax.specs.LineSteps as line_steps
use Rattle.assembler_syntax.specs.TokenParts.{Signed, around, closed, is_close_parenthesis, is_colon, is_dup, onto_part}
use Rattle.assembler_syntax.specs.TokenParts.{onto_signed, parts, parts_from, signed_from, signed_part, signed_parts}
use Rattle.assembler_syntax.specs.Expressions.{atom_of, constant_of, expression_of, term_of}
use Rattle.assembler_syntax.specs.Operands.{brackets_of, far_label, far_target, memory_of, memory_or, operand_of, operands_of}
use Rattle.assembler_syntax.specs.Operands.{register_of, short_of, value_of, with_part, with_part_by, with_parts}
use Rattle.assembler_syntax.specs.Items.{in_parentheses, item_by, item_of, items_of, piece_of, pieces_of, repeated}
use Rattle.assembler_syntax.specs.Statements.{data_of, directive_of, ends_of, instruction_of, onto_prefixes}
use Rattle.assembler_syntax.specs.Statements.{org_of, prefixes_of, segment_of, statement_after, statement_of}
use Rattle.assembler_syntax.specs.Lines.{line_of, read_line, with_label}

bind_same : {A B : Type 0} (r : Result A SyntaxFault) (f g : A → Result B SyntaxFault) → ((x : A) → f x ≡ g x) → (r >>= f) ≡ (r >>= g)
bind_same (Ok x) f g same = same x
bind_same (Err fault) f g same = refl

bind_alike : {A B : Type 0} (r s : Result A SyntaxFault) (f g : A → Result B SyntaxFault) → r ≡ s → ((x : A) → f x ≡ g x) → (r >>= f) ≡ (s >>= g)
bind_alike r s f g is same = rw (← is) (bind_same r f g same)

all_alike : {A B : Type 0} (f g : A → Result B SyntaxFault) (xs : List A) → ((x : A) → f x ≡ g x) → all_of f xs ≡ all_of g xs
all_alike f g [] same = refl
all_alike f g (x ∷ xs) same =
    bind_alike (f x) (g x) (λ y. all_of f xs >>= (λ ys. Ok (y ∷ ys))) (λ y. all_of g xs >>= (λ ys. Ok (y ∷ ys))) (same x)
    (λ y. bind_alike (all_of f xs) (all_of g xs) (λ ys. Ok (y ∷ ys)) (λ ys. Ok (y ∷ ys)) (all_alike f g xs same) (λ ys. refl))

-- ---- parts
at_alike : (ts : List Token) (place : Option ℕ) → part_steps.at_place ts place ≡ option_map (λ k. (take k ts, drop (k + 1) ts)) place
at_alike ts None = refl
at_alike ts (Some k) = refl

around_alike : (passes : Token → Bool) (ts : List Token) → part_steps.around passes ts ≡ around passes ts
around_alike passes ts = at_alike ts (position passes ts)

parts_from_alike : (is_open : Bool) (ts : List Token) → part_steps.parts_from is_open ts ≡ parts_from is_open ts
parts_from_alike true [] = refl
parts_from_alike false [] = refl
parts_from_alike false (Punctuator Comma ∷ ts) = ap (λ (ps : List (List Token)). [] ∷ ps) (parts_from_alike false ts)
parts_from_alike true (Punctuator Comma ∷ ts) = ap (onto_part (Punctuator Comma)) (parts_from_alike true ts)
parts_from_alike false (Punctuator OpenParenthesis ∷ ts) = ap (onto_part (Punctuator OpenParenthesis)) (parts_from_alike true ts)
parts_from_alike true (Punctuator OpenParenthesis ∷ ts) = ap (onto_part (Punctuator OpenParenthesis)) (parts_from_alike true ts)
parts_from_alike false (Punctuator CloseParenthesis ∷ ts) = ap (onto_part (Punctuator CloseParenthesis)) (parts_from_alike false ts)
parts_from_alike true (Punctuator CloseParenthesis ∷ ts) = ap (onto_part (Punctuator CloseParenthesis)) (parts_from_alike false ts)
parts_from_alike false (t ∷ ts) = ap (onto_part t) (parts_from_alike false ts)
parts_from_alike true (t ∷ ts) = ap (onto_part t) (parts_from_alike true ts)

parts_alike : (ts : List Token) → part_steps.parts ts ≡ parts ts
unfolding part_steps.parts parts
parts_alike ts = parts_from_alike false ts

signed_from_alike : (is_negative : Bool) (ts : List Token) → part_steps.signed_from is_negative ts ≡ signed_from is_negative ts
signed_from_alike is_negative [] = refl
signed_from_alike is_negative (Punctuator Plus ∷ ts) = ap (λ (ps : List Signed). signed_part is_negative [] ∷ ps) (signed_from_alike false ts)
signed_from_alike is_negative (Punctuator Minus ∷ ts) = ap (λ (ps : List Signed). signed_part is_negative [] ∷ ps) (signed_from_alike true ts)
signed_from_alike is_negative (t ∷ ts) = ap (onto_signed is_negative t) (signed_from_alike is_negative ts)

signed_parts_alike : (ts : List Token) → part_steps.signed_parts ts ≡ signed_parts ts
signed_parts_alike [] = refl
signed_parts_alike (Punctuator Minus ∷ ts) = signed_from_alike true ts
signed_parts_alike (t ∷ ts) = signed_from_alike false (t ∷ ts)

-- ---- expressions
atom_alike : (ts : List Token) → expression_steps.atom_of ts ≡ atom_of ts
unfolding expression_steps.atom_of atom_of
atom_alike [] = refl
atom_alike (One ∷ []) = refl
atom_alike (Number n ∷ []) = refl
atom_alike (Named name ∷ []) = refl
atom_alike (Punctuator Dollar ∷ []) = refl
atom_alike (Word (Keyword keywords.Seg) ∷ []) = refl
atom_alike (t ∷ []) = refl
atom_alike (Word (Keyword keywords.Seg) ∷ Named name ∷ []) = refl
atom_alike (Word (Keyword keywords.Seg) ∷ t ∷ []) = refl
atom_alike (Punctuator Dollar ∷ t ∷ []) = refl
atom_alike (s ∷ t ∷ []) = refl
atom_alike (Word (Keyword keywords.Seg) ∷ Named name ∷ u ∷ ts) = refl
atom_alike (Punctuator Dollar ∷ t ∷ u ∷ ts) = refl
atom_alike (s ∷ t ∷ u ∷ ts) = refl

term_alike : (part : Signed) → expression_steps.term_of part ≡ term_of part
term_alike part = simp atom_alike

expression_alike : (ts : List Token) → expression_steps.expression_of ts ≡ expression_of ts
unfolding expression_steps.expression_of expression_of
expression_alike ts =
    all_alike expression_steps.term_of term_of (part_steps.signed_parts ts) term_alike ∙ ap (all_of term_of) (signed_parts_alike ts)

constant_alike : (ts : List Token) → expression_steps.constant_of ts ≡ constant_of ts
unfolding expression_steps.constant_of constant_of
constant_alike ts = simp expression_alike

-- ---- operands
register_alike : (ts : List Token) → operand_steps.register_of ts ≡ register_of ts
register_alike [] = refl
register_alike (Word (Register r) ∷ []) = refl
register_alike (t ∷ []) = refl
register_alike (Word (Register r) ∷ u ∷ ts) = refl
register_alike (t ∷ u ∷ ts) = refl

part_by_alike : (r : Option RegisterType) (a : Address) (part : Signed) → operand_steps.with_part_by r a part ≡ with_part_by r a part
part_by_alike (Some r) a part = refl
part_by_alike None a part = simp term_alike

part_alike : (a : Address) (part : Signed) → operand_steps.with_part a part ≡ with_part a part
unfolding operand_steps.with_part with_part
part_alike a part =
    part_by_alike (operand_steps.register_of part.tokens) a part ∙ ap (λ (r : Option RegisterType). with_part_by r a part) (register_alike part.tokens)

with_parts_alike : (a : Address) (ps : List Signed) → operand_steps.with_parts a ps ≡ with_parts a ps
with_parts_alike a [] = refl
with_parts_alike a (p ∷ ps) =
    bind_alike (operand_steps.with_part a p) (with_part a p) (λ b. operand_steps.with_parts b ps) (λ b. with_parts b ps) (part_alike a p)
    (λ b. with_parts_alike b ps)

memory_alike : (size : Option Size) (segment : Option SegmentRegister) (ts : List Token) → operand_steps.memory_of size segment ts ≡ memory_of size segment ts
unfolding operand_steps.memory_of memory_of
memory_alike size segment ts = simp (around_alike, signed_parts_alike, with_parts_alike)

value_alike : (ts : List Token) → operand_steps.value_of ts ≡ value_of ts
unfolding operand_steps.value_of value_of
value_alike ts = simp expression_alike

brackets_alike : (ts : List Token) → operand_steps.brackets_of ts ≡ brackets_of ts
unfolding operand_steps.brackets_of brackets_of
brackets_alike [] = refl
brackets_alike (Punctuator OpenBracket ∷ ts) = refl
brackets_alike (Word (Register (registers.Segment s)) ∷ []) = refl
brackets_alike (Word (Register (registers.Segment s)) ∷ Punctuator Colon ∷ []) = refl
brackets_alike (Word (Register (registers.Segment s)) ∷ t ∷ []) = refl
brackets_alike (Word (Register (registers.Segment s)) ∷ Punctuator Colon ∷ Punctuator OpenBracket ∷ ts) = refl
brackets_alike (Word (Register (registers.Segment s)) ∷ Punctuator Colon ∷ u ∷ ts) = refl
brackets_alike (Word (Register (registers.Segment s)) ∷ t ∷ u ∷ ts) = refl
brackets_alike (t ∷ ts) = refl

in_alike : (size : Option Size) (found : Option (Option SegmentRegister × List Token))
    → operand_steps.memory_in size found ≡ memory_or size found (Err BadLine)
in_alike size (Some brackets) = memory_alike size brackets.0 brackets.1
in_alike size None = refl

value_or_alike : (found : Option (Option SegmentRegister × List Token)) (ts : List Token)
    → operand_steps.place_or_value found ts ≡ memory_or None found (value_of ts)
value_or_alike (Some brackets) ts = memory_alike None brackets.0 brackets.1
value_or_alike None ts = value_alike ts

label_alike : (ts : List Token) → operand_steps.far_label ts ≡ far_label ts
label_alike [] = refl
label_alike (Named label ∷ []) = refl
label_alike (t ∷ []) = refl
label_alike (Named label ∷ u ∷ ts) = refl
label_alike (t ∷ u ∷ ts) = refl

target_alike : (found : Option (List Token × List Token)) (ts : List Token) → operand_steps.far_target found ts ≡ far_target found ts
target_alike (Some colon) ts = simp expression_alike
target_alike None ts = label_alike ts

far_or_alike : (found : Option (Option SegmentRegister × List Token)) (ts : List Token)
    → operand_steps.far_by found ts ≡ memory_or (Some sizes.Far) found (far_target (around is_colon ts) ts)
far_or_alike (Some brackets) ts = memory_alike (Some sizes.Far) brackets.0 brackets.1
far_or_alike None ts =
    target_alike (part_steps.around is_colon ts) ts ∙ ap (λ (found : Option (List Token × List Token)). far_target found ts) (around_alike is_colon ts)

far_alike : (ts : List Token) → operand_steps.far_of ts ≡ memory_or (Some sizes.Far) (brackets_of ts) (far_target (around is_colon ts) ts)
unfolding operand_steps.far_of
far_alike ts =
    far_or_alike (operand_steps.brackets_of ts) ts
    ∙ ap (λ (found : Option (Option SegmentRegister × List Token)). memory_or (Some sizes.Far) found (far_target (around is_colon ts) ts)) (brackets_alike ts)

sized_alike : (size : Option Size) (ts : List Token)
    → operand_steps.memory_in size (operand_steps.brackets_of ts) ≡ memory_or size (brackets_of ts) (Err BadLine)
sized_alike size ts =
    in_alike size (operand_steps.brackets_of ts)
    ∙ ap (λ (found : Option (Option SegmentRegister × List Token)). memory_or size found (Err BadLine)) (brackets_alike ts)

place_alike : (ts : List Token) → operand_steps.place_or_value (operand_steps.brackets_of ts) ts ≡ memory_or None (brackets_of ts) (value_of ts)
place_alike ts =
    value_or_alike (operand_steps.brackets_of ts) ts
    ∙ ap (λ (found : Option (Option SegmentRegister × List Token)). memory_or None found (value_of ts)) (brackets_alike ts)

short_alike : (ts : List Token) → operand_steps.short_of ts ≡ short_of ts
short_alike ts = simp expression_alike

punctuator_alike : (m : PunctuatorType) → operand_steps.single_operand (Punctuator m) ≡ operand_of (Punctuator m ∷ [])
unfolding operand_of operand_steps.value_of value_of expression_of expression_steps.expression_of expression_steps.atom_of atom_of brackets_of memory_of
punctuator_alike Plus = refl
punctuator_alike Minus = refl
punctuator_alike OpenBracket = refl
punctuator_alike Dollar = refl
punctuator_alike _ = refl

-- an operand of one token that is no register and not `1` is a value; the words that begin other operands say nothing
-- by themselves
one_alike : (t : Token) → operand_steps.single_operand t ≡ operand_of (t ∷ [])
unfolding operand_of operand_steps.value_of value_of expression_of expression_steps.expression_of expression_steps.atom_of atom_of brackets_of memory_of
one_alike (Word (Register r)) = refl
one_alike One = refl
one_alike (Number n) = refl
one_alike (Named name) = refl
one_alike (Quoted text) = refl
one_alike (Punctuator m) = punctuator_alike m
one_alike (Word (Keyword keywords.Short)) = refl
one_alike (Word (Keyword keywords.Byte)) = refl
one_alike (Word (Keyword keywords.Word)) = refl
one_alike (Word (Keyword keywords.Far)) = refl
one_alike (Word (Keyword k)) = refl
one_alike (Word m) = refl

led_alike : (t u : Token) (ts : List Token) → operand_steps.led_operand t (u ∷ ts) ≡ operand_of (t ∷ u ∷ ts)
unfolding operand_of
led_alike (Word (Keyword keywords.Short)) u ts = short_alike (u ∷ ts)
led_alike (Word (Keyword keywords.Byte)) u ts = sized_alike (Some sizes.Byte) (u ∷ ts)
led_alike (Word (Keyword keywords.Word)) u ts = sized_alike (Some sizes.Word) (u ∷ ts)
led_alike (Word (Keyword keywords.Far)) u ts = far_alike (u ∷ ts)
led_alike t u ts = place_alike (t ∷ u ∷ ts)

none_alike : Err BadLine ≡ operand_of []
unfolding operand_of value_of expression_of atom_of brackets_of
none_alike = refl

operand_alike : (ts : List Token) → operand_steps.operand_of ts ≡ operand_of ts
unfolding operand_steps.operand_of
operand_alike [] = none_alike
operand_alike (t ∷ []) = one_alike t
operand_alike (t ∷ u ∷ ts) = led_alike t u ts

operands_alike : (ts : List Token) → operand_steps.operands_of ts ≡ operands_of ts
unfolding operand_steps.operands_of operands_of
operands_alike [] = refl
operands_alike (t ∷ ts) =
    all_alike operand_steps.operand_of operand_of (part_steps.parts (t ∷ ts)) operand_alike ∙ ap (all_of operand_of) (parts_alike (t ∷ ts))

-- ---- items
piece_alike : (width : DataWidth) (ts : List Token) → item_steps.piece_of width ts ≡ piece_of width ts
unfolding item_steps.piece_of piece_of
piece_alike widths.Byte (Quoted text ∷ []) = refl
piece_alike widths.Byte [] = simp expression_alike
piece_alike widths.Byte (t ∷ []) = simp expression_alike
piece_alike widths.Byte (Quoted text ∷ u ∷ ts) = simp expression_alike
piece_alike widths.Byte (t ∷ u ∷ ts) = simp expression_alike
piece_alike width [] = simp expression_alike
piece_alike width (t ∷ []) = simp expression_alike
piece_alike width (t ∷ u ∷ ts) = simp expression_alike

pieces_alike : (width : DataWidth) (ts : List Token) → item_steps.pieces_of width ts ≡ pieces_of width ts
unfolding item_steps.pieces_of pieces_of
pieces_alike width ts =
    all_alike (item_steps.piece_of width) (piece_of width) (part_steps.parts ts) (piece_alike width) ∙ ap (all_of (piece_of width)) (parts_alike ts)

inner_alike : (ts : List Token) → item_steps.in_parentheses ts ≡ in_parentheses ts
inner_alike [] = refl
inner_alike (Punctuator OpenParenthesis ∷ ts) = ap closed (around_alike is_close_parenthesis ts)
inner_alike (t ∷ ts) = refl

repeated_alike : (width : DataWidth) (front back : List Token) → item_steps.repeated width front back ≡ repeated width front back
unfolding item_steps.repeated repeated
repeated_alike width front back = simp (constant_alike, inner_alike, pieces_alike)

item_by_alike : (found : Option (List Token × List Token)) (width : DataWidth) (ts : List Token) → item_steps.item_by found width ts ≡ item_by found width ts
item_by_alike (Some dup) width ts = repeated_alike width dup.0 dup.1
item_by_alike None width ts = simp piece_alike

item_alike : (width : DataWidth) (ts : List Token) → item_steps.item_of width ts ≡ item_of width ts
unfolding item_steps.item_of item_of
item_alike width ts =
    item_by_alike (part_steps.around is_dup ts) width ts ∙ ap (λ (found : Option (List Token × List Token)). item_by found width ts) (around_alike is_dup ts)

items_alike : (width : DataWidth) (ts : List Token) → item_steps.items_of width ts ≡ items_of width ts
unfolding item_steps.items_of items_of
items_alike width ts =
    all_alike (item_steps.item_of width) (item_of width) (part_steps.parts ts) (item_alike width) ∙ ap (all_of (item_of width)) (parts_alike ts)

-- ---- statements
segment_alike : (ts : List Token) → statement_steps.segment_of ts ≡ segment_of ts
unfolding statement_steps.segment_of segment_of
segment_alike [] = refl
segment_alike (Named name ∷ []) = refl
segment_alike (t ∷ []) = refl
segment_alike (Named name ∷ Word (Keyword keywords.At) ∷ ts) = simp constant_alike
segment_alike (t ∷ Word (Keyword keywords.At) ∷ ts) = refl
segment_alike (Named name ∷ u ∷ ts) = refl
segment_alike (t ∷ u ∷ ts) = refl

org_alike : (ts : List Token) → statement_steps.org_of ts ≡ org_of ts
unfolding statement_steps.org_of org_of
org_alike ts = simp constant_alike

ends_alike : (ts : List Token) → statement_steps.ends_of ts ≡ ends_of ts
unfolding statement_steps.ends_of ends_of
ends_alike [] = refl
ends_alike (t ∷ ts) = refl

data_alike : (width : DataWidth) (ts : List Token) → statement_steps.data_of width ts ≡ data_of width ts
unfolding statement_steps.data_of data_of
data_alike width ts = simp items_alike

directive_alike : (k : KeywordType) (ts : List Token) → statement_steps.directive_of k ts ≡ directive_of k ts
unfolding statement_steps.directive_of directive_of
directive_alike keywords.Segment ts = segment_alike ts
directive_alike keywords.Ends ts = ends_alike ts
directive_alike keywords.Org ts = org_alike ts
directive_alike keywords.Db ts = data_alike widths.Byte ts
directive_alike keywords.Dw ts = data_alike widths.Word ts
directive_alike keywords.Dd ts = data_alike widths.Double ts
directive_alike _ ts = refl

instruction_alike : (ps : List PrefixType) (m : _) (ts : List Token) → statement_steps.instruction_of ps m ts ≡ instruction_of ps m ts
unfolding statement_steps.instruction_of instruction_of
instruction_alike ps m ts = simp operands_alike

prefixes_alike : (ts : List Token) → statement_steps.prefixes_of ts ≡ prefixes_of ts
prefixes_alike [] = refl
prefixes_alike (Word (Prefix p) ∷ ts) = ap (onto_prefixes p) (prefixes_alike ts)
prefixes_alike (Word (Register (registers.Segment s)) ∷ []) = refl
prefixes_alike (Word (Register (registers.Segment s)) ∷ Punctuator Colon ∷ ts) = ap (onto_prefixes (prefixes.Segment s)) (prefixes_alike ts)
prefixes_alike (Word (Register (registers.Segment s)) ∷ t ∷ ts) = refl
prefixes_alike (t ∷ ts) = refl

after_alike : (ps : List PrefixType) (ts : List Token) → statement_steps.statement_after ps ts ≡ statement_after ps ts
unfolding statement_steps.statement_after statement_after
after_alike [] [] = refl
after_alike (p ∷ ps) [] = refl
after_alike [] (Word (Mnemonic m) ∷ ts) = instruction_alike [] m ts
after_alike (p ∷ ps) (Word (Mnemonic m) ∷ ts) = instruction_alike (p ∷ ps) m ts
after_alike [] (Word (Keyword k) ∷ ts) = directive_alike k ts
after_alike (p ∷ ps) (Word (Keyword k) ∷ ts) = refl
after_alike [] (t ∷ ts) = refl
after_alike (p ∷ ps) (t ∷ ts) = refl

prefixed_alike : (ts : List Token) → statement_steps.prefixed_statement ts ≡ statement_after (prefixes_of ts).0 (prefixes_of ts).1
unfolding statement_steps.prefixed_statement
prefixed_alike ts =
    after_alike (statement_steps.prefixes_of ts).0 (statement_steps.prefixes_of ts).1
    ∙ ap (λ (p : List PrefixType × List Token). statement_after p.0 p.1) (prefixes_alike ts)

statement_alike : (ts : List Token) → statement_steps.statement_of ts ≡ statement_of ts
unfolding statement_steps.statement_of statement_of statement_steps.equ_of
statement_alike [] = refl
statement_alike (Named name ∷ []) = prefixed_alike (Named name ∷ [])
statement_alike (t ∷ []) = prefixed_alike (t ∷ [])
statement_alike (Named name ∷ Word (Keyword keywords.Equ) ∷ ts) = simp constant_alike
statement_alike (t ∷ Word (Keyword keywords.Equ) ∷ ts) = refl
statement_alike (Named name ∷ u ∷ ts) = prefixed_alike (Named name ∷ u ∷ ts)
statement_alike (t ∷ u ∷ ts) = prefixed_alike (t ∷ u ∷ ts)

-- ---- lines
label_with_alike : (label : Option Name) (ts : List Token) → line_steps.with_label label ts ≡ with_label label ts
label_with_alike label ts = simp statement_alike

pub line_alike : (ts : List Token) → line_steps.line_of ts ≡ line_of ts
unfolding line_steps.line_of line_of
line_alike [] = label_with_alike None []
line_alike (Named label ∷ []) = label_with_alike None (Named label ∷ [])
line_alike (t ∷ []) = label_with_alike None (t ∷ [])
line_alike (Named label ∷ Punctuator Colon ∷ ts) = label_with_alike (Some label) ts
line_alike (Named label ∷ u ∷ ts) = label_with_alike None (Named label ∷ u ∷ ts)
line_alike (t ∷ u ∷ ts) = label_with_alike None (t ∷ u ∷ ts)

-- what the code reads of a text is what the definition says of it
pub text_alike : (text : List ℕ) → line_steps.read_line text ≡ read_line text
unfolding line_steps.read_line read_line
text_alike text = by_test (list_all is_character text) (tokens_of (lexemes text))
  where
    by_test : (test : Bool) (r : Result (List Token) SyntaxFault)
        → (if test then (r >>= line_steps.line_of) else Err BadCharacter) ≡ (if test then (r >>= line_of) else Err BadCharacter)
    by_test true r = bind_same r line_steps.line_of line_of line_alike
    by_test false r = refl
