-- The one spelling that is defined for a line is one of its spellings.
use Rattle.std.proofs.Common.{◌≡◌, ◌≢◌, ◌∙◌, Bool, true, false, List, [], ◌∷◌, ◌++◌, map, flat_map}
use Rattle.std.proofs.Common.{append_assoc, append-nil, refl, sym, ap, subst, inl, Option, Some, None}
use Rattle.std.specs.List.{AllByRecursion}
use Rattle.isa.specs.declared.form.Base.{Base}
use Rattle.isa.specs.declared.form.Base.TheVariants as bases
use Rattle.isa.specs.declared.form.Prefix.{Prefix as PrefixType}
use Rattle.isa.specs.declared.register.WordRegister.{WordRegister}
use Rattle.isa.specs.declared.register.WordRegister.TheVariants.{Bx, Bp, Si, Di}
use Rattle.dialect.specs.declared.keyword.Keyword.TheVariants as keywords
use Rattle.dialect.specs.declared.meaning.Meaning.TheVariants as meanings
use Rattle.assembler_lexeme.specs.declared.token.Token.{Token}
use Rattle.assembler_lexeme.specs.declared.token.Token.TheVariants.{One, Named, Word, Punctuator}
use Rattle.assembler_lexeme.specs.declared.token.Punctuator.TheVariants.{Comma, Colon, Plus, OpenBracket, CloseBracket, OpenParenthesis, CloseParenthesis}
use Rattle.assembler_syntax.specs.declared.expression.Atom.{Atom}
use Rattle.assembler_syntax.specs.declared.expression.Atom.TheVariants as atoms
use Rattle.assembler_syntax.specs.declared.expression.Term.{Term}
use Rattle.assembler_syntax.specs.declared.operand.Address.{Address}
use Rattle.assembler_syntax.specs.declared.operand.Operand.{Operand}
use Rattle.assembler_syntax.specs.declared.operand.Operand.TheVariants as operands
use Rattle.assembler_syntax.specs.declared.statement.DataWidth.{DataWidth}
use Rattle.assembler_syntax.specs.declared.statement.DataWidth.TheVariants as widths
use Rattle.assembler_syntax.specs.declared.statement.Piece.{Piece}
use Rattle.assembler_syntax.specs.declared.statement.Piece.TheVariants as pieces
use Rattle.assembler_syntax.specs.declared.statement.Item.{Item}
use Rattle.assembler_syntax.specs.declared.statement.Item.TheVariants as items
use Rattle.assembler_syntax.specs.declared.statement.Statement.{Statement}
use Rattle.assembler_syntax.specs.declared.statement.Statement.TheVariants as statements
use Rattle.assembler_syntax.specs.declared.statement.Line.{Line}
use Rattle.assembler_syntax.specs.SyntaxLaws.{EachLineIsRead}
use Rattle.assembler_syntax.specs.Spelling.{atom_tokens, base_tokens, expression_tokens, first_tokens, inner_tokens, item_tokens, keyword}
use Rattle.assembler_syntax.specs.Spelling.{label_tokens, line_tokens, operand_tokens, piece_tokens, prefix_tokens, segment_tokens}
use Rattle.assembler_syntax.specs.Spelling.{sign_token, signed_tokens, size_tokens, statement_tokens, width_keyword, with_commas, word}
use Rattle.assembler_syntax.specs.Spelling.{IsConstant, IsExpression, IsInner, IsItem, IsOperand, IsPiece, IsStatement, SomeAre}
use Rattle.assembler_syntax.specs.Spellings.{AddressPart, a_register, a_term, AreOfBase, leading_tokens, part_registers, part_terms, some_terms, SpellsAtom}
use Rattle.assembler_syntax.specs.Spellings.{SpellsConstant, SpellsExpression, SpellsInner, SpellsItem, SpellsLine, SpellsMoreParts, SpellsOperand}
use Rattle.assembler_syntax.specs.Spellings.{SpellsOperands, SpellsParts, SpellsPiece, SpellsPrefixes, SpellsSigned, SpellsStatement, WithCommas}
use Rattle.assembler_syntax.proofs.EachLines.{spelling_read}
use Rattle.assembler_syntax.proofs.Alike.{line_alike}

-- ---- expressions
atom_spelled : (a : Atom) → SpellsAtom a (atom_tokens a)
atom_spelled (atoms.Number n) = inl refl
atom_spelled (atoms.Named name) = refl
atom_spelled atoms.Here = refl
atom_spelled (atoms.SegmentOf name) = refl

signed_spelled : (ts : List Term) → SpellsSigned ts (signed_tokens ts)
signed_spelled [] = refl
signed_spelled (t ∷ ts) = record {
  front = sign_token t.is_negative ∷ [];
  back = atom_tokens t.atom ++ signed_tokens ts;
  are = refl;
  first = refl;
  second = record { front = atom_tokens t.atom; back = signed_tokens ts; are = refl; first = atom_spelled t.atom; second = signed_spelled ts };
}

first_is : (n : Bool) (a : Atom) (back : List Token) → first_tokens n a ++ back ≡ leading_tokens n ++ (atom_tokens a ++ back)
first_is false a back = refl
first_is true a back = refl

expression_spelled : (ts : List Term) → IsExpression ts → SpellsExpression ts (expression_tokens ts)
expression_spelled [] is = is
expression_spelled (t ∷ ts) is = record {
  front = leading_tokens t.is_negative;
  back = atom_tokens t.atom ++ signed_tokens ts;
  are = first_is t.is_negative t.atom (signed_tokens ts);
  first = refl;
  second = record { front = atom_tokens t.atom; back = signed_tokens ts; are = refl; first = atom_spelled t.atom; second = signed_spelled ts };
}

constant_spelled : (ts : List Term) → IsConstant ts → SpellsConstant ts (expression_tokens ts)
constant_spelled ts is = (expression_spelled ts is.0, is.1)

first_not_one : (n : Bool) (a : Atom) (back : List Token) → first_tokens n a ++ back ≢ One ∷ []
first_not_one false (atoms.Number k) back same = cc
first_not_one false (atoms.Named name) back same = cc
first_not_one false atoms.Here back same = cc
first_not_one false (atoms.SegmentOf name) back same = cc
first_not_one true a back same = cc

not_one : (ts : List Term) → IsExpression ts → expression_tokens ts ≢ One ∷ []
not_one [] is same = is
not_one (t ∷ ts) is same = first_not_one t.is_negative t.atom (signed_tokens ts) same

-- ---- places in memory
abbrev term_parts : List Term → List AddressPart
term_parts ts = map a_term ts

no_registers : (ts : List Term) → flat_map part_registers (term_parts ts) ≡ []
no_registers [] = refl
no_registers (t ∷ ts) = no_registers ts

same_terms : (ts : List Term) → flat_map part_terms (term_parts ts) ≡ ts
same_terms [] = refl
same_terms (t ∷ ts) = ap (λ (us : List Term). t ∷ us) (same_terms ts)

more_spelled : (ts : List Term) → SpellsMoreParts (term_parts ts) (signed_tokens ts)
more_spelled [] = refl
more_spelled (t ∷ ts) = record {
  front = sign_token t.is_negative ∷ atom_tokens t.atom;
  back = signed_tokens ts;
  are = refl;
  first = record { front = sign_token t.is_negative ∷ []; back = atom_tokens t.atom; are = refl; first = refl; second = atom_spelled t.atom };
  second = more_spelled ts;
}

terms_spelled : (ts : List Term) → IsExpression ts → SpellsParts (term_parts ts) (expression_tokens ts)
terms_spelled [] is = is
terms_spelled (t ∷ ts) is = record {
  front = leading_tokens t.is_negative ++ atom_tokens t.atom;
  back = signed_tokens ts;
  are = first_is t.is_negative t.atom (signed_tokens ts) ∙ sym (append_assoc (leading_tokens t.is_negative) (atom_tokens t.atom) (signed_tokens ts));
  first = record { front = leading_tokens t.is_negative; back = atom_tokens t.atom; are = refl; first = refl; second = atom_spelled t.atom };
  second = more_spelled ts;
}

-- one register, or two, and terms after them
one_spelled : (r : WordRegister) (ts : List Term) → SpellsParts (a_register r ∷ term_parts ts) (word r ∷ signed_tokens ts)
one_spelled r ts = record { front = word r ∷ []; back = signed_tokens ts; are = refl; first = refl; second = more_spelled ts }

two_spelled : (r s : WordRegister) (ts : List Term)
    → SpellsParts (a_register r ∷ a_register s ∷ term_parts ts) (word r ∷ Punctuator Plus ∷ word s ∷ signed_tokens ts)
two_spelled r s ts = record {
  front = word r ∷ [];
  back = Punctuator Plus ∷ word s ∷ signed_tokens ts;
  are = refl;
  first = refl;
  second = record { front = Punctuator Plus ∷ word s ∷ []; back = signed_tokens ts; are = refl; first = refl; second = more_spelled ts };
}

abbrev base_parts : Base → List AddressPart
base_parts bases.BxSi = a_register Bx ∷ a_register Si ∷ []
base_parts bases.BxDi = a_register Bx ∷ a_register Di ∷ []
base_parts bases.BpSi = a_register Bp ∷ a_register Si ∷ []
base_parts bases.BpDi = a_register Bp ∷ a_register Di ∷ []
base_parts bases.Si = a_register Si ∷ []
base_parts bases.Di = a_register Di ∷ []
base_parts bases.Bp = a_register Bp ∷ []
base_parts bases.Bx = a_register Bx ∷ []

record IsBase (b : Base) (ts : List Term) : Type 0 where
  spelled : SpellsParts (base_parts b ++ term_parts ts) (base_tokens b ++ signed_tokens ts)
  base : AreOfBase (Some b) (flat_map part_registers (base_parts b ++ term_parts ts))
  terms : flat_map part_terms (base_parts b ++ term_parts ts) ≡ ts

two_after : (r s : WordRegister) (rs : List WordRegister) → rs ≡ [] → r ∷ s ∷ rs ≡ r ∷ s ∷ []
two_after r s rs is = ap (λ (qs : List WordRegister). r ∷ s ∷ qs) is

one_after : (r : WordRegister) (rs : List WordRegister) → rs ≡ [] → r ∷ rs ≡ r ∷ []
one_after r rs is = ap (λ (qs : List WordRegister). r ∷ qs) is

base_spelled : (b : Base) (ts : List Term) → IsBase b ts
base_spelled bases.BxSi ts = record { spelled = two_spelled Bx Si ts; base = inl (two_after Bx Si _ (no_registers ts)); terms = same_terms ts }
base_spelled bases.BxDi ts = record { spelled = two_spelled Bx Di ts; base = inl (two_after Bx Di _ (no_registers ts)); terms = same_terms ts }
base_spelled bases.BpSi ts = record { spelled = two_spelled Bp Si ts; base = inl (two_after Bp Si _ (no_registers ts)); terms = same_terms ts }
base_spelled bases.BpDi ts = record { spelled = two_spelled Bp Di ts; base = inl (two_after Bp Di _ (no_registers ts)); terms = same_terms ts }
base_spelled bases.Si ts = record { spelled = one_spelled Si ts; base = one_after Si _ (no_registers ts); terms = same_terms ts }
base_spelled bases.Di ts = record { spelled = one_spelled Di ts; base = one_after Di _ (no_registers ts); terms = same_terms ts }
base_spelled bases.Bp ts = record { spelled = one_spelled Bp ts; base = one_after Bp _ (no_registers ts); terms = same_terms ts }
base_spelled bases.Bx ts = record { spelled = one_spelled Bx ts; base = one_after Bx _ (no_registers ts); terms = same_terms ts }

abbrev InnerOf : Address → Option Base → Option (List Term) → Type 0
InnerOf a base displacement = a.base ≡ base → a.displacement ≡ displacement → SpellsInner a (inner_tokens base displacement)

some_is : (ts : List Term) → IsExpression ts → some_terms ts ≡ Some ts
some_is [] is = absurd is
some_is (t ∷ ts) is = refl

inner_spelled : (a : Address) → IsInner a.base a.displacement → SpellsInner a (inner_tokens a.base a.displacement)
inner_spelled a is = by_parts a.base a.displacement is refl refl
  where
    by_parts : (base : Option Base) (displacement : Option (List Term)) → IsInner base displacement → InnerOf a base displacement
    by_parts None None is base displacement = absurd is
    by_parts None (Some ts) is base displacement = record {
      parts = term_parts ts;
      spelled = terms_spelled ts is;
      base = subst (λ (b : Option Base). AreOfBase b (flat_map part_registers (term_parts ts))) (sym base) (no_registers ts);
      displacement = displacement ∙ sym (ap some_terms (same_terms ts) ∙ some_is ts is);
    }
    by_parts (Some b) None is base displacement =
        let of = base_spelled b [] in
        record {
          parts = base_parts b ++ term_parts [];
          spelled = subst (SpellsParts (base_parts b ++ term_parts [])) (append-nil (base_tokens b)) of.spelled;
          base = subst (λ (c : Option Base). AreOfBase c (flat_map part_registers (base_parts b ++ term_parts []))) (sym base) of.base;
          displacement = displacement ∙ sym (ap some_terms of.terms);
        }
    by_parts (Some b) (Some ts) is base displacement =
        let of = base_spelled b ts in
        record {
          parts = base_parts b ++ term_parts ts;
          spelled = of.spelled;
          base = subst (λ (c : Option Base). AreOfBase c (flat_map part_registers (base_parts b ++ term_parts ts))) (sym base) of.base;
          displacement = displacement ∙ sym (ap some_terms of.terms ∙ some_is ts is);
        }

-- ---- operands
operand_spelled : (op : Operand) → IsOperand op → SpellsOperand op (operand_tokens op)
operand_spelled (operands.Register r) is = refl
operand_spelled operands.One is = refl
operand_spelled (operands.Value e) is = (expression_spelled e is, not_one e is)
operand_spelled (operands.Memory a) is =
    let inner : List Token = inner_tokens a.base a.displacement ++ Punctuator CloseBracket ∷ [] in
    record {
      front = size_tokens a.size ++ (segment_tokens a.segment ++ Punctuator OpenBracket ∷ []);
      back = inner;
      are = ap (λ (us : List Token). size_tokens a.size ++ us) (sym (append_assoc (segment_tokens a.segment) (Punctuator OpenBracket ∷ []) inner))
          ∙ sym (append_assoc (size_tokens a.size) (segment_tokens a.segment ++ Punctuator OpenBracket ∷ []) inner);
      first = refl;
      second =
          record { front = inner_tokens a.base a.displacement; back = Punctuator CloseBracket ∷ []; are = refl; first = inner_spelled a is; second = refl };
    }
operand_spelled (operands.Short e) is =
    record { front = keyword keywords.Short ∷ []; back = expression_tokens e; are = refl; first = refl; second = expression_spelled e is }
operand_spelled (operands.FarLabel label) is = refl
operand_spelled (operands.FarPointer s o) is = record {
  front = keyword keywords.Far ∷ [];
  back = expression_tokens s ++ Punctuator Colon ∷ expression_tokens o;
  are = refl;
  first = refl;
  second = record {
    front = expression_tokens s;
    back = Punctuator Colon ∷ expression_tokens o;
    are = refl;
    first = expression_spelled s is.0;
    second = record { front = Punctuator Colon ∷ []; back = expression_tokens o; are = refl; first = refl; second = expression_spelled o is.1 };
  };
}

-- ---- things with commas between them
commas_spelled : {A : Type 0} (tokens : A → List Token) (Spells : A → List Token → Type 0) (Is : A → Type 0) → ((x : A) → Is x → Spells x (tokens x))
    → (x : A) (xs : List A) → Is x → AllByRecursion Is xs → WithCommas Spells (x ∷ xs) (with_commas (map tokens (x ∷ xs)))
commas_spelled tokens Spells Is each x [] is all = each x is
commas_spelled tokens Spells Is each x (y ∷ more) is all = record {
  front = tokens x;
  back = Punctuator Comma ∷ with_commas (map tokens (y ∷ more));
  are = refl;
  first = each x is;
  second = record {
    front = Punctuator Comma ∷ [];
    back = with_commas (map tokens (y ∷ more));
    are = refl;
    first = refl;
    second = commas_spelled tokens Spells Is each y more all.0 all.1;
  };
}

operands_spelled : (ops : List Operand) → AllByRecursion IsOperand ops → SpellsOperands ops (with_commas (map operand_tokens ops))
operands_spelled [] all = refl
operands_spelled (op ∷ ops) all = commas_spelled operand_tokens SpellsOperand IsOperand operand_spelled op ops all.0 all.1

-- ---- items
piece_spelled : (width : DataWidth) (piece : Piece) → IsPiece width piece → SpellsPiece width piece (piece_tokens piece)
piece_spelled width (pieces.Value e) is = expression_spelled e is
piece_spelled widths.Byte (pieces.Text text) is = (refl, refl)
piece_spelled widths.Word (pieces.Text text) is = absurd is
piece_spelled widths.Double (pieces.Text text) is = absurd is

some_spelled : {A : Type 0} (tokens : A → List Token) (Spells : A → List Token → Type 0) (Is : A → Type 0) → ((x : A) → Is x → Spells x (tokens x))
    → (xs : List A) → SomeAre Is xs → WithCommas Spells xs (with_commas (map tokens xs))
some_spelled tokens Spells Is each [] all = all
some_spelled tokens Spells Is each (x ∷ xs) all = commas_spelled tokens Spells Is each x xs all.0 all.1

item_spelled : (width : DataWidth) (item : Item) → IsItem width item → SpellsItem width item (item_tokens item)
item_spelled width (items.Once piece) is = piece_spelled width piece is
item_spelled width (items.Repeated count each) is =
    let inner : List Token = with_commas (map piece_tokens each) in
    record {
      front = expression_tokens count;
      back = keyword keywords.Dup ∷ Punctuator OpenParenthesis ∷ (inner ++ Punctuator CloseParenthesis ∷ []);
      are = refl;
      first = constant_spelled count is.0;
      second = record {
        front = keyword keywords.Dup ∷ Punctuator OpenParenthesis ∷ [];
        back = inner ++ Punctuator CloseParenthesis ∷ [];
        are = refl;
        first = refl;
        second = record {
          front = inner;
          back = Punctuator CloseParenthesis ∷ [];
          are = refl;
          first = some_spelled piece_tokens (SpellsPiece width) (IsPiece width) (piece_spelled width) each is.1;
          second = refl;
        };
      };
    }

-- ---- statements and lines
prefixes_spelled : (ps : List PrefixType) → SpellsPrefixes ps (flat_map prefix_tokens ps)
prefixes_spelled [] = refl
prefixes_spelled (p ∷ ps) = record { front = prefix_tokens p; back = flat_map prefix_tokens ps; are = refl; first = inl refl; second = prefixes_spelled ps }

statement_spelled : (s : Statement) → IsStatement s → SpellsStatement s (statement_tokens s)
statement_spelled statements.Empty is = refl
statement_spelled (statements.Segment name paragraph) is = record {
  front = keyword keywords.Segment ∷ Named name ∷ keyword keywords.At ∷ [];
  back = expression_tokens paragraph;
  are = refl;
  first = refl;
  second = constant_spelled paragraph is;
}
statement_spelled statements.Ends is = refl
statement_spelled (statements.Equ name value) is =
    record { front = Named name ∷ keyword keywords.Equ ∷ []; back = expression_tokens value; are = refl; first = refl; second = constant_spelled value is }
statement_spelled (statements.Org location) is =
    record { front = keyword keywords.Org ∷ []; back = expression_tokens location; are = refl; first = refl; second = constant_spelled location is }
statement_spelled (statements.Data width its) is = record {
  front = keyword (width_keyword width) ∷ [];
  back = with_commas (map item_tokens its);
  are = refl;
  first = refl;
  second = some_spelled item_tokens (SpellsItem width) (IsItem width) (item_spelled width) its is;
}
statement_spelled (statements.Instruction i) is =
    let following : List Token = with_commas (map operand_tokens i.operands) in
    record {
      front = flat_map prefix_tokens i.prefixes;
      back = Word (meanings.Mnemonic i.mnemonic) ∷ following;
      are = refl;
      first = prefixes_spelled i.prefixes;
      second = record { front = Word (meanings.Mnemonic i.mnemonic) ∷ []; back = following; are = refl; first = refl; second = operands_spelled i.operands is };
    }

line_spelled : (l : Line) → IsStatement l.statement → SpellsLine l (line_tokens l)
line_spelled l is =
    record { front = label_tokens l.label; back = statement_tokens l.statement; are = refl; first = refl; second = statement_spelled l.statement is }

pub each_line_read : EachLineIsRead
each_line_read l is = sym (line_alike (line_tokens l)) ∙ spelling_read (line_tokens l) l (line_spelled l is)
