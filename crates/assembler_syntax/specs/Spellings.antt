-- All spellings of what a line says, as a grammar of tokens.
-- Laws: claims above the definitions, each proved as the contract of a function.
use Rattle.std.specs.Prelude.{◌≡◌, ◌≢◌, ◌⊎◌, Bool, true, false, List, [], ◌∷◌, ◌++◌, flat_map, Option, None, Some}
use Rattle.std.specs.List.{list_all}
use Rattle.isa.specs.declared.form.Base.{Base}
use Rattle.isa.specs.declared.form.Base.TheVariants as bases
use Rattle.isa.specs.declared.form.Prefix.{Prefix as PrefixType}
use Rattle.isa.specs.declared.register.WordRegister.{WordRegister}
use Rattle.isa.specs.declared.register.WordRegister.TheVariants.{Bx, Bp, Si, Di}
use Rattle.dialect.specs.declared.meaning.Meaning.TheVariants as meanings
use Rattle.dialect.specs.declared.keyword.Keyword.TheVariants as keywords
use Rattle.assembler_lexeme.specs.declared.token.Token.{Token}
use Rattle.assembler_lexeme.specs.declared.token.Token.TheVariants.{One, Number, Named, Quoted, Word, Punctuator}
use Rattle.assembler_lexeme.specs.declared.token.Punctuator.TheVariants.{Comma, Colon, Plus, Minus, OpenBracket}
use Rattle.assembler_lexeme.specs.declared.token.Punctuator.TheVariants.{CloseBracket, OpenParenthesis}
use Rattle.assembler_lexeme.specs.declared.token.Punctuator.TheVariants.{CloseParenthesis, Dollar}
use Rattle.assembler_syntax.specs.declared.expression.Atom.{Atom}
use Rattle.assembler_syntax.specs.declared.expression.Atom.TheVariants as atoms
use Rattle.assembler_syntax.specs.declared.expression.Term.{Term}
use Rattle.assembler_syntax.specs.declared.operand.Address.{Address}
use Rattle.assembler_syntax.specs.declared.operand.Operand.{Operand}
use Rattle.assembler_syntax.specs.declared.operand.Operand.TheVariants as operands
use Rattle.assembler_syntax.specs.declared.statement.DataWidth.{DataWidth}
use Rattle.assembler_syntax.specs.declared.statement.DataWidth.TheVariants as widths
use Rattle.assembler_syntax.specs.declared.statement.Piece.{Piece}
use Rattle.assembler_syntax.specs.declared.statement.Piece.TheVariants as pieces
use Rattle.assembler_syntax.specs.declared.statement.Item.{Item}
use Rattle.assembler_syntax.specs.declared.statement.Item.TheVariants as items
use Rattle.assembler_syntax.specs.declared.statement.Statement.{Statement}
use Rattle.assembler_syntax.specs.declared.statement.Statement.TheVariants as statements
use Rattle.assembler_syntax.specs.declared.statement.Line.{Line}
use Rattle.assembler_syntax.specs.Expressions.{is_constant}
use Rattle.assembler_syntax.specs.Spelling.{keyword, register, word, sign_token, size_tokens}
use Rattle.assembler_syntax.specs.Spelling.{segment_tokens, prefix_tokens, label_tokens, width_keyword}

-- the tokens are these and no others
abbrev pub Exactly : List Token → List Token → Type 0
Exactly tokens ts = ts ≡ tokens

-- tokens of one kind, and after them tokens of another
pub record InTurn (One' Other : List Token → Type 0) (ts : List Token) : Type 0 where
  pub front : List Token
  pub back : List Token
  pub are : ts ≡ front ++ back
  pub first : One' front
  pub second : Other back

infixr 20 ◌then◌
abbrev pub ◌then◌ : (List Token → Type 0) → (List Token → Type 0) → List Token → Type 0
One' then Other = InTurn One' Other

-- spellings of one or more things, with commas between them
abbrev pub WithCommas : {A : Type 0} → (A → List Token → Type 0) → List A → List Token → Type 0
WithCommas Spells [] = λ ts. ⊥
WithCommas Spells (x ∷ []) = Spells x
WithCommas Spells (x ∷ y ∷ more) = Spells x then Exactly (Punctuator Comma ∷ []) then WithCommas Spells (y ∷ more)

-- the tokens of an atom: a number, which for 1 may also be the token of `1`; a name; $; SEG and a name
abbrev pub SpellsAtom : Atom → List Token → Type 0
SpellsAtom (atoms.Number n) = λ ts. (ts ≡ Number n ∷ []) ⊎ ((ts ≡ One ∷ []) × (n ≡ 1))
SpellsAtom (atoms.Named name) = Exactly (Named name ∷ [])
SpellsAtom atoms.Here = Exactly (Punctuator Dollar ∷ [])
SpellsAtom (atoms.SegmentOf name) = Exactly (keyword keywords.Seg ∷ Named name ∷ [])

-- the sign before the first term: none or a minus; before each other term a sign is written
abbrev pub leading_tokens : Bool → List Token
leading_tokens false = []
leading_tokens true = Punctuator Minus ∷ []

abbrev pub SpellsSigned : List Term → List Token → Type 0
SpellsSigned [] = Exactly []
SpellsSigned (t ∷ terms) = Exactly (sign_token t.is_negative ∷ []) then SpellsAtom t.atom then SpellsSigned terms

abbrev pub SpellsExpression : List Term → List Token → Type 0
SpellsExpression [] = λ ts. ⊥
SpellsExpression (t ∷ terms) =
    Exactly (leading_tokens t.is_negative) then SpellsAtom t.atom then SpellsSigned terms

-- the tokens of a constant, which has neither $ nor SEG
abbrev pub SpellsConstant : List Term → List Token → Type 0
SpellsConstant terms = λ ts. SpellsExpression terms ts × (list_all is_constant terms ≡ true)

-- a part in brackets: registers and terms come in any order, and no minus stands before a register
pub data AddressPart : Type 0 where
  a_register : WordRegister → AddressPart
  a_term : Term → AddressPart

abbrev pub SpellsFirstPart : AddressPart → List Token → Type 0
SpellsFirstPart (a_register r) = Exactly (word r ∷ [])
SpellsFirstPart (a_term t) = Exactly (leading_tokens t.is_negative) then SpellsAtom t.atom

abbrev pub SpellsPart : AddressPart → List Token → Type 0
SpellsPart (a_register r) = Exactly (Punctuator Plus ∷ word r ∷ [])
SpellsPart (a_term t) = Exactly (sign_token t.is_negative ∷ []) then SpellsAtom t.atom

abbrev pub SpellsMoreParts : List AddressPart → List Token → Type 0
SpellsMoreParts [] = Exactly []
SpellsMoreParts (part ∷ parts) = SpellsPart part then SpellsMoreParts parts

abbrev pub SpellsParts : List AddressPart → List Token → Type 0
SpellsParts [] = λ ts. ⊥
SpellsParts (part ∷ parts) = SpellsFirstPart part then SpellsMoreParts parts

abbrev pub part_registers : AddressPart → List WordRegister
part_registers (a_register r) = r ∷ []
part_registers (a_term t) = []

abbrev pub part_terms : AddressPart → List Term
part_terms (a_register r) = []
part_terms (a_term t) = t ∷ []

-- two registers, in either order
abbrev pub AreEither : WordRegister → WordRegister → List WordRegister → Type 0
AreEither a b rs = (rs ≡ a ∷ b ∷ []) ⊎ (rs ≡ b ∷ a ∷ [])

-- the registers of a base: at most one of BX and BP, and at most one of SI and DI
abbrev pub AreOfBase : Option Base → List WordRegister → Type 0
AreOfBase None rs = rs ≡ []
AreOfBase (Some bases.BxSi) rs = AreEither Bx Si rs
AreOfBase (Some bases.BxDi) rs = AreEither Bx Di rs
AreOfBase (Some bases.BpSi) rs = AreEither Bp Si rs
AreOfBase (Some bases.BpDi) rs = AreEither Bp Di rs
AreOfBase (Some bases.Si) rs = rs ≡ Si ∷ []
AreOfBase (Some bases.Di) rs = rs ≡ Di ∷ []
AreOfBase (Some bases.Bp) rs = rs ≡ Bp ∷ []
AreOfBase (Some bases.Bx) rs = rs ≡ Bx ∷ []

abbrev pub some_terms : List Term → Option (List Term)
some_terms [] = None
some_terms (t ∷ terms) = Some (t ∷ terms)

pub record SpellsInner (a : Address) (ts : List Token) : Type 0 where
  pub parts : List AddressPart
  pub spelled : SpellsParts parts ts
  pub base : AreOfBase a.base (flat_map part_registers parts)
  pub displacement : a.displacement ≡ some_terms (flat_map part_terms parts)

-- the tokens of an operand; `1` alone is no expression, because it may be a shift count
abbrev pub SpellsOperand : Operand → List Token → Type 0
SpellsOperand (operands.Register r) = Exactly (register r ∷ [])
SpellsOperand operands.One = Exactly (One ∷ [])
SpellsOperand (operands.Value terms) = λ ts. SpellsExpression terms ts × (ts ≢ One ∷ [])
SpellsOperand (operands.Memory a) =
    Exactly (size_tokens a.size ++ (segment_tokens a.segment ++ Punctuator OpenBracket ∷ []))
    then SpellsInner a then Exactly (Punctuator CloseBracket ∷ [])
SpellsOperand (operands.Short terms) = Exactly (keyword keywords.Short ∷ []) then SpellsExpression terms
SpellsOperand (operands.FarLabel label) = Exactly (keyword keywords.Far ∷ Named label ∷ [])
SpellsOperand (operands.FarPointer s o) =
    Exactly (keyword keywords.Far ∷ []) then SpellsExpression s
    then Exactly (Punctuator Colon ∷ []) then SpellsExpression o

abbrev pub SpellsOperands : List Operand → List Token → Type 0
SpellsOperands [] = Exactly []
SpellsOperands (operand ∷ more) = WithCommas SpellsOperand (operand ∷ more)

-- the tokens of a piece; a quoted text of more than one character may stand in DB alone
abbrev pub SpellsPiece : DataWidth → Piece → List Token → Type 0
SpellsPiece width (pieces.Value terms) = SpellsExpression terms
SpellsPiece width (pieces.Text text) = λ ts. (ts ≡ Quoted text ∷ []) × (width ≡ widths.Byte)

abbrev pub SpellsItem : DataWidth → Item → List Token → Type 0
SpellsItem width (items.Once piece) = SpellsPiece width piece
SpellsItem width (items.Repeated count each) =
    SpellsConstant count then Exactly (keyword keywords.Dup ∷ Punctuator OpenParenthesis ∷ [])
    then WithCommas (SpellsPiece width) each then Exactly (Punctuator CloseParenthesis ∷ [])

-- the tokens of a prefix: its word, or a segment register and a colon
abbrev pub SpellsPrefix : PrefixType → List Token → Type 0
SpellsPrefix p = λ ts. (ts ≡ prefix_tokens p) ⊎ (ts ≡ Word (meanings.Prefix p) ∷ [])

abbrev pub SpellsPrefixes : List PrefixType → List Token → Type 0
SpellsPrefixes [] = Exactly []
SpellsPrefixes (p ∷ ps) = SpellsPrefix p then SpellsPrefixes ps

abbrev pub SpellsStatement : Statement → List Token → Type 0
SpellsStatement statements.Empty = Exactly []
SpellsStatement (statements.Segment name paragraph) =
    Exactly (keyword keywords.Segment ∷ Named name ∷ keyword keywords.At ∷ []) then SpellsConstant paragraph
SpellsStatement statements.Ends = Exactly (keyword keywords.Ends ∷ [])
SpellsStatement (statements.Equ name value) =
    Exactly (Named name ∷ keyword keywords.Equ ∷ []) then SpellsConstant value
SpellsStatement (statements.Org location) = Exactly (keyword keywords.Org ∷ []) then SpellsConstant location
SpellsStatement (statements.Data width each) =
    Exactly (keyword (width_keyword width) ∷ []) then WithCommas (SpellsItem width) each
SpellsStatement (statements.Instruction i) =
    SpellsPrefixes i.prefixes then Exactly (Word (meanings.Mnemonic i.mnemonic) ∷ []) then SpellsOperands i.operands

abbrev pub SpellsLine : Line → List Token → Type 0
SpellsLine l = Exactly (label_tokens l.label) then SpellsStatement l.statement
