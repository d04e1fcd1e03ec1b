-- The tokens of what a line says: one spelling of each line that the dialect has.
-- Laws: claims above the definitions, each proved as the contract of a function.
use Rattle.std.specs.Prelude.{◌≡◌, Bool, true, false, List, [], ◌∷◌, ◌++◌, map, flat_map, Option, None, Some}
use Rattle.std.specs.List.{list_all, AllByRecursion}
use Rattle.isa.specs.declared.form.Base.{Base}
use Rattle.isa.specs.declared.form.Base.TheVariants as bases
use Rattle.isa.specs.declared.form.Prefix.{Prefix as PrefixType}
use Rattle.isa.specs.declared.form.Prefix.TheVariants as prefixes
use Rattle.isa.specs.declared.register.SegmentRegister.{SegmentRegister}
use Rattle.isa.specs.declared.register.WordRegister.{WordRegister}
use Rattle.isa.specs.declared.register.WordRegister.TheVariants.{Bx, Bp, Si, Di}
use Rattle.dialect.specs.declared.meaning.Meaning.TheVariants as meanings
use Rattle.dialect.specs.declared.register.Register.{Register}
use Rattle.dialect.specs.declared.register.Register.TheVariants as registers
use Rattle.dialect.specs.declared.keyword.Keyword.{Keyword}
use Rattle.dialect.specs.declared.keyword.Keyword.TheVariants as keywords
use Rattle.dialect.specs.declared.size.Size.{Size}
use Rattle.dialect.specs.declared.size.Size.TheVariants as sizes
use Rattle.assembler_lexeme.specs.declared.name.Name.{Name}
use Rattle.assembler_syntax.specs.declared.expression.Atom.{Atom}
use Rattle.assembler_syntax.specs.declared.expression.Atom.TheVariants as atoms
use Rattle.assembler_syntax.specs.declared.expression.Term.{Term}
use Rattle.assembler_syntax.specs.declared.operand.Address.{Address}
use Rattle.assembler_syntax.specs.declared.operand.Operand.{Operand}
use Rattle.assembler_syntax.specs.declared.operand.Operand.TheVariants as operands
use Rattle.assembler_syntax.specs.declared.statement.DataWidth.{DataWidth}
use Rattle.assembler_syntax.specs.declared.statement.DataWidth.TheVariants as widths
use Rattle.assembler_syntax.specs.declared.statement.Piece.{Piece}
use Rattle.assembler_syntax.specs.declared.statement.Piece.TheVariants as pieces
use Rattle.assembler_syntax.specs.declared.statement.Item.{Item}
use Rattle.assembler_syntax.specs.declared.statement.Item.TheVariants as items
use Rattle.assembler_syntax.specs.declared.statement.Statement.{Statement}
use Rattle.assembler_syntax.specs.declared.statement.Statement.TheVariants as statements
use Rattle.assembler_syntax.specs.declared.statement.Line.{Line}
use Rattle.assembler_lexeme.specs.declared.token.Token.{Token}
use Rattle.assembler_lexeme.specs.declared.token.Token.TheVariants.{One, Number, Named, Quoted, Word, Punctuator}
use Rattle.assembler_lexeme.specs.declared.token.Punctuator.TheVariants.{Comma, Colon, Plus, Minus, OpenBracket}
use Rattle.assembler_lexeme.specs.declared.token.Punctuator.TheVariants.{CloseBracket, OpenParenthesis}
use Rattle.assembler_lexeme.specs.declared.token.Punctuator.TheVariants.{CloseParenthesis, Dollar}
use Rattle.assembler_syntax.specs.Expressions.{is_constant}

abbrev pub keyword : Keyword → Token
keyword k = Word (meanings.Keyword k)

abbrev pub register : Register → Token
register r = Word (meanings.Register r)

abbrev pub atom_tokens : Atom → List Token
atom_tokens (atoms.Number n) = Number n ∷ []
atom_tokens (atoms.Named name) = Named name ∷ []
atom_tokens atoms.Here = Punctuator Dollar ∷ []
atom_tokens (atoms.SegmentOf name) = keyword keywords.Seg ∷ Named name ∷ []

abbrev pub sign_token : Bool → Token
sign_token false = Punctuator Plus
sign_token true = Punctuator Minus

-- terms with a sign before each
abbrev pub signed_tokens : List Term → List Token
signed_tokens [] = []
signed_tokens (t ∷ ts) = sign_token t.is_negative ∷ (atom_tokens t.atom ++ signed_tokens ts)

-- the first term of an expression, before which no plus is written
abbrev pub first_tokens : Bool → Atom → List Token
first_tokens false atom = atom_tokens atom
first_tokens true atom = Punctuator Minus ∷ atom_tokens atom

abbrev pub expression_tokens : List Term → List Token
expression_tokens [] = []
expression_tokens (t ∷ ts) = first_tokens t.is_negative t.atom ++ signed_tokens ts

abbrev pub word : WordRegister → Token
word r = register (registers.Word r)

abbrev pub base_tokens : Base → List Token
base_tokens bases.BxSi = word Bx ∷ Punctuator Plus ∷ word Si ∷ []
base_tokens bases.BxDi = word Bx ∷ Punctuator Plus ∷ word Di ∷ []
base_tokens bases.BpSi = word Bp ∷ Punctuator Plus ∷ word Si ∷ []
base_tokens bases.BpDi = word Bp ∷ Punctuator Plus ∷ word Di ∷ []
base_tokens bases.Si = word Si ∷ []
base_tokens bases.Di = word Di ∷ []
base_tokens bases.Bp = word Bp ∷ []
base_tokens bases.Bx = word Bx ∷ []

abbrev pub size_tokens : Option Size → List Token
size_tokens None = []
size_tokens (Some sizes.Byte) = keyword keywords.Byte ∷ []
size_tokens (Some sizes.Word) = keyword keywords.Word ∷ []
size_tokens (Some sizes.Far) = keyword keywords.Far ∷ []

abbrev pub segment_tokens : Option SegmentRegister → List Token
segment_tokens None = []
segment_tokens (Some s) = register (registers.Segment s) ∷ Punctuator Colon ∷ []

abbrev pub inner_tokens : Option Base → Option (List Term) → List Token
inner_tokens None None = []
inner_tokens None (Some ts) = expression_tokens ts
inner_tokens (Some b) None = base_tokens b
inner_tokens (Some b) (Some ts) = base_tokens b ++ signed_tokens ts

abbrev pub bracket_tokens : Address → List Token
bracket_tokens a = Punctuator OpenBracket ∷ (inner_tokens a.base a.displacement ++ Punctuator CloseBracket ∷ [])

abbrev pub address_tokens : Address → List Token
address_tokens a = size_tokens a.size ++ (segment_tokens a.segment ++ bracket_tokens a)

abbrev pub operand_tokens : Operand → List Token
operand_tokens (operands.Register r) = register r ∷ []
operand_tokens operands.One = One ∷ []
operand_tokens (operands.Value e) = expression_tokens e
operand_tokens (operands.Memory a) = address_tokens a
operand_tokens (operands.Short e) = keyword keywords.Short ∷ expression_tokens e
operand_tokens (operands.FarLabel label) = keyword keywords.Far ∷ Named label ∷ []
operand_tokens (operands.FarPointer s o) =
    keyword keywords.Far ∷ (expression_tokens s ++ Punctuator Colon ∷ expression_tokens o)

-- lists of tokens, with commas between them
abbrev pub with_commas : List (List Token) → List Token
with_commas [] = []
with_commas (part ∷ []) = part
with_commas (part ∷ next ∷ rest) = part ++ Punctuator Comma ∷ with_commas (next ∷ rest)

abbrev pub piece_tokens : Piece → List Token
piece_tokens (pieces.Value e) = expression_tokens e
piece_tokens (pieces.Text text) = Quoted text ∷ []

abbrev pub item_tokens : Item → List Token
item_tokens (items.Once piece) = piece_tokens piece
item_tokens (items.Repeated count each) =
    expression_tokens count ++ keyword keywords.Dup ∷ Punctuator OpenParenthesis
    ∷ (with_commas (map piece_tokens each) ++ Punctuator CloseParenthesis ∷ [])

abbrev pub prefix_tokens : PrefixType → List Token
prefix_tokens (prefixes.Segment s) = register (registers.Segment s) ∷ Punctuator Colon ∷ []
prefix_tokens p = Word (meanings.Prefix p) ∷ []

abbrev pub width_keyword : DataWidth → Keyword
width_keyword widths.Byte = keywords.Db
width_keyword widths.Word = keywords.Dw
width_keyword widths.Double = keywords.Dd

abbrev pub statement_tokens : Statement → List Token
statement_tokens statements.Empty = []
statement_tokens (statements.Segment name paragraph) =
    keyword keywords.Segment ∷ Named name ∷ keyword keywords.At ∷ expression_tokens paragraph
statement_tokens statements.Ends = keyword keywords.Ends ∷ []
statement_tokens (statements.Equ name value) = Named name ∷ keyword keywords.Equ ∷ expression_tokens value
statement_tokens (statements.Org location) = keyword keywords.Org ∷ expression_tokens location
statement_tokens (statements.Data width its) = keyword (width_keyword width) ∷ with_commas (map item_tokens its)
statement_tokens (statements.Instruction i) =
    flat_map prefix_tokens i.prefixes ++ Word (meanings.Mnemonic i.mnemonic)
    ∷ with_commas (map operand_tokens i.operands)

abbrev pub label_tokens : Option Name → List Token
label_tokens None = []
label_tokens (Some name) = Named name ∷ Punctuator Colon ∷ []

abbrev pub line_tokens : Line → List Token
line_tokens l = label_tokens l.label ++ statement_tokens l.statement

-- an expression has at least one term
abbrev pub IsExpression : List Term → Type 0
IsExpression [] = ⊥
IsExpression (t ∷ ts) = Unit {0}

-- a constant has neither $ nor SEG
abbrev pub IsConstant : List Term → Type 0
IsConstant ts = IsExpression ts × (list_all is_constant ts ≡ true)

-- what stands in brackets is registers, an expression or both
abbrev pub IsInner : Option Base → Option (List Term) → Type 0
IsInner base (Some ts) = IsExpression ts
IsInner (Some b) None = Unit {0}
IsInner None None = ⊥

abbrev pub IsOperand : Operand → Type 0
IsOperand (operands.Register r) = Unit {0}
IsOperand operands.One = Unit {0}
IsOperand (operands.Value e) = IsExpression e
IsOperand (operands.Memory a) = IsInner a.base a.displacement
IsOperand (operands.Short e) = IsExpression e
IsOperand (operands.FarLabel label) = Unit {0}
IsOperand (operands.FarPointer s o) = IsExpression s × IsExpression o

-- a quoted text is a piece of DB alone
abbrev pub IsPiece : DataWidth → Piece → Type 0
IsPiece width (pieces.Value e) = IsExpression e
IsPiece widths.Byte (pieces.Text text) = Unit {0}
IsPiece width (pieces.Text text) = ⊥

-- one or more elements, each of which is one of these
abbrev pub SomeAre : {A : Type 0} → (A → Type 0) → List A → Type 0
SomeAre Is [] = ⊥
SomeAre Is (x ∷ xs) = Is x × AllByRecursion Is xs

abbrev pub IsItem : DataWidth → Item → Type 0
IsItem width (items.Once piece) = IsPiece width piece
IsItem width (items.Repeated count each) = IsConstant count × SomeAre (IsPiece width) each

abbrev pub IsStatement : Statement → Type 0
IsStatement statements.Empty = Unit {0}
IsStatement (statements.Segment name paragraph) = IsConstant paragraph
IsStatement statements.Ends = Unit {0}
IsStatement (statements.Equ name value) = IsConstant value
IsStatement (statements.Org location) = IsConstant location
IsStatement (statements.Data width its) = SomeAre (IsItem width) its
IsStatement (statements.Instruction i) = AllByRecursion IsOperand i.operands
