-- Each spelling of an expression is read.
use Rattle.std.proofs.Common.{◌≡◌, ◌∙◌, ℕ, Bool, true, false, List, [], ◌∷◌, ◌++◌, refl, sym, ap, subst, inl, inr, Result, Ok, Err, if◌then◌else◌}
use Rattle.std.specs.List.{list_all, AllByRecursion}
use Rattle.dialect.specs.declared.meaning.Meaning.TheVariants as meanings
use Rattle.dialect.specs.declared.keyword.Keyword.TheVariants as keywords
use Rattle.assembler_lexeme.specs.declared.fault.SyntaxFault.{SyntaxFault}
use Rattle.assembler_lexeme.specs.declared.fault.SyntaxFault.TheVariants.{BadLine}
use Rattle.assembler_lexeme.specs.declared.name.Name.{Name}
use Rattle.assembler_lexeme.specs.declared.token.Token.{Token}
use Rattle.assembler_lexeme.specs.declared.token.Token.TheVariants.{One, Number, Named, Word, Punctuator}
use Rattle.assembler_lexeme.specs.declared.token.Punctuator.TheVariants.{Minus, Dollar}
use Rattle.assembler_lexeme.specs.Faults.{◌>>=◌, all_of}
use Rattle.assembler_syntax.specs.declared.expression.Atom.{Atom}
use Rattle.assembler_syntax.specs.declared.expression.Atom.TheVariants as atoms
use Rattle.assembler_syntax.specs.declared.expression.Term.{Term}
use Rattle.assembler_syntax.specs.PartSteps.{Signed, signed_part, signed_from, signed_parts, onto_signed}
use Rattle.assembler_syntax.specs.ExpressionSteps.{atom_of, term_of, expression_of, constant_of, is_constant}
use Rattle.assembler_syntax.specs.Spelling.{keyword, sign_token}
use Rattle.assembler_syntax.specs.Spellings.{Exactly, InTurn, leading_tokens, SpellsAtom, SpellsSigned, SpellsExpression, SpellsConstant}
use Rattle.assembler_syntax.proofs.Around.{AllPass, EachPasses, exactly_passes, is_plain, turn_passes}
use Rattle.assembler_syntax.proofs.BackTerms.{after_signs}

-- ---- tokens in turn, of which the first are known
pub record Led (tokens : List Token) (Other : List Token → Type 0) (ts : List Token) : Type 0 where
  pub back : List Token
  pub are : ts ≡ tokens ++ back
  pub other : Other back

pub led : (tokens : List Token) (Other : List Token → Type 0) (ts : List Token) → InTurn (Exactly tokens) Other ts → Led tokens Other ts
led tokens Other ts s = record { back = s.back; are = s.are ∙ ap (λ (us : List Token). us ++ s.back) s.first; other = s.second }

-- ---- atoms: what holds of each of their spellings
abbrev pub OfAtoms : (Atom → List Token → Type 0) → Type 0
OfAtoms P = (a : Atom) (ts : List Token) → SpellsAtom a ts → P a ts

pub of_atoms : (P : Atom → List Token → Type 0) → ((n : ℕ) → P (atoms.Number n) (Number n ∷ [])) → P (atoms.Number 1) (One ∷ [])
    → ((name : Name) → P (atoms.Named name) (Named name ∷ [])) → P atoms.Here (Punctuator Dollar ∷ [])
    → ((name : Name) → P (atoms.SegmentOf name) (keyword keywords.Seg ∷ Named name ∷ [])) → OfAtoms P
of_atoms P number one named here segment (atoms.Number n) ts (inl is) = subst (P (atoms.Number n)) (sym is) (number n)
of_atoms P number one named here segment (atoms.Number n) ts (inr is) =
    subst (λ (k : ℕ). P (atoms.Number k) ts) (sym is.1) (subst (P (atoms.Number 1)) (sym is.0) one)
of_atoms P number one named here segment (atoms.Named name) ts is = subst (P (atoms.Named name)) (sym is) (named name)
of_atoms P number one named here segment atoms.Here ts is = subst (P atoms.Here) (sym is) here
of_atoms P number one named here segment (atoms.SegmentOf name) ts is = subst (P (atoms.SegmentOf name)) (sym is) (segment name)

abbrev AtomRead : Atom → List Token → Type 0
AtomRead a ts = atom_of ts ≡ Ok a

atom_read : OfAtoms AtomRead
unfolding atom_of
atom_read a ts is = of_atoms AtomRead (λ n. refl) refl (λ name. refl) refl (λ name. refl) a ts is

pub term_read : (n : Bool) (a : Atom) (ts : List Token) → SpellsAtom a ts → term_of (signed_part n ts) ≡ Ok (record { is_negative = n; atom = a })
term_read n a ts is = ap (λ (r : Result Atom SyntaxFault). r >>= λ a. Ok (record { is_negative = n; atom = a })) (atom_read a ts is)

-- tokens without a sign are a part, up to the sign that follows them
abbrev pub IsPart : List Token → Type 0
IsPart ts =
    (n : Bool) (back : List Token) (rest : List Signed) → signed_from n back ≡ signed_part n [] ∷ rest → signed_from n (ts ++ back) ≡ signed_part n ts ∷ rest

pub atom_is_part : (a : Atom) (ts : List Token) → SpellsAtom a ts → IsPart ts
atom_is_part = of_atoms (λ a. IsPart)
    (λ k n back rest is. ap (onto_signed n (Number k)) is)
    (λ n back rest is. ap (onto_signed n One) is)
    (λ name n back rest is. ap (onto_signed n (Named name)) is)
    (λ n back rest is. ap (onto_signed n (Punctuator Dollar)) is)
    (λ name n back rest is. ap (λ (r : List Signed). onto_signed n (keyword keywords.Seg) (onto_signed n (Named name) r)) is)

-- tokens that don't begin with a minus
abbrev pub NoMinus : List Token → Type 0
NoMinus ts = (back : List Token) → signed_parts (ts ++ back) ≡ signed_from false (ts ++ back)

pub atom_no_minus : (a : Atom) (ts : List Token) → SpellsAtom a ts → NoMinus ts
atom_no_minus = of_atoms (λ a. NoMinus) (λ k back. refl) (λ back. refl) (λ name back. refl) (λ back. refl) (λ name back. refl)

-- ---- parts with a sign before each
sign_step : (n m : Bool) (ts back : List Token) (rest : List Signed) → signed_from m (ts ++ back) ≡ signed_part m ts ∷ rest
    → signed_from n (sign_token m ∷ (ts ++ back)) ≡ signed_part n [] ∷ signed_part m ts ∷ rest
sign_step n false ts back rest is = ap (λ (r : List Signed). signed_part n [] ∷ r) is
sign_step n true ts back rest is = ap (λ (r : List Signed). signed_part n [] ∷ r) is

abbrev pub EachIsPart : List Signed → Type 0
EachIsPart = AllByRecursion (λ p. IsPart p.tokens)

more_parts : (ps : List Signed) → EachIsPart ps → (n : Bool) → signed_from n (after_signs ps) ≡ signed_part n [] ∷ ps
more_parts [] each n = refl
more_parts (p ∷ ps) each n =
    sign_step n p.is_negative p.tokens (after_signs ps) ps (each.0 p.is_negative (after_signs ps) ps (more_parts ps each.1 p.is_negative))

pub parts_are : (p : Signed) (ps : List Signed) → IsPart p.tokens → NoMinus p.tokens → EachIsPart ps
    → signed_parts (leading_tokens p.is_negative ++ (p.tokens ++ after_signs ps)) ≡ p ∷ ps
parts_are p ps is unled each = by_sign p.is_negative (is p.is_negative (after_signs ps) ps (more_parts ps each p.is_negative))
  where
    by_sign : (n : Bool) → signed_from n (p.tokens ++ after_signs ps) ≡ signed_part n p.tokens ∷ ps
        → signed_parts (leading_tokens n ++ (p.tokens ++ after_signs ps)) ≡ signed_part n p.tokens ∷ ps
    by_sign false are = unled (after_signs ps) ∙ are
    by_sign true are = are

-- ---- terms
pub record AreTerms (terms : List Term) (ts : List Token) : Type 0 where
  pub parts : List Signed
  pub tokens : ts ≡ after_signs parts
  pub each : EachIsPart parts
  pub read : all_of term_of parts ≡ Ok terms

one_more : (p : Signed) (ps : List Signed) (t : Term) (ts : List Term) → term_of p ≡ Ok t → all_of term_of ps ≡ Ok ts → all_of term_of (p ∷ ps) ≡ Ok (t ∷ ts)
one_more p ps t ts first rest =
    ap (λ (r : Result Term SyntaxFault). r >>= λ y. all_of term_of ps >>= λ ys. Ok (y ∷ ys)) first
    ∙ ap (λ (r : Result (List Term) SyntaxFault). r >>= λ ys. Ok (t ∷ ys)) rest

are_terms : (terms : List Term) (ts : List Token) → SpellsSigned terms ts → AreTerms terms ts
are_terms [] ts is = record { parts = []; tokens = is; each = tt; read = refl }
are_terms (t ∷ terms) ts is =
    let sign = led (sign_token t.is_negative ∷ []) (InTurn (SpellsAtom t.atom) (SpellsSigned terms)) ts is in
    let atom = sign.other in
    let more = are_terms terms atom.back atom.second in
    record {
      parts = signed_part t.is_negative atom.front ∷ more.parts;
      tokens = sign.are ∙ ap (λ (us : List Token). sign_token t.is_negative ∷ us) (atom.are ∙ ap (λ (us : List Token). atom.front ++ us) more.tokens);
      each = (atom_is_part t.atom atom.front atom.first, more.each);
      read = one_more (signed_part t.is_negative atom.front) more.parts t terms (term_read t.is_negative t.atom atom.front atom.first) more.read;
    }

pub expression_read : (terms : List Term) (ts : List Token) → SpellsExpression terms ts → expression_of ts ≡ Ok terms
unfolding expression_of
expression_read [] ts is = absurd is
expression_read (t ∷ terms) ts is =
    let sign = led (leading_tokens t.is_negative) (InTurn (SpellsAtom t.atom) (SpellsSigned terms)) ts is in
    let atom = sign.other in
    let more = are_terms terms atom.back atom.second in
    let p : Signed = signed_part t.is_negative atom.front in
    ap (λ (us : List Token). all_of term_of (signed_parts us))
    (sign.are ∙ ap (λ (us : List Token). leading_tokens t.is_negative ++ us) (atom.are ∙ ap (λ (us : List Token). atom.front ++ us) more.tokens))
    ∙ ap (all_of term_of) (parts_are p more.parts (atom_is_part t.atom atom.front atom.first) (atom_no_minus t.atom atom.front atom.first) more.each)
    ∙ one_more p more.parts t terms (term_read t.is_negative t.atom atom.front atom.first) more.read

pub constant_read : (terms : List Term) (ts : List Token) → SpellsConstant terms ts → constant_of ts ≡ Ok terms
unfolding constant_of
constant_read terms ts is =
    ap (λ (r : Result (List Term) SyntaxFault). r >>= λ found. if list_all is_constant found then Ok found else Err BadLine) (expression_read terms ts is.0)
    ∙ ap (λ (b : Bool). if b then Ok terms else Err BadLine) is.1

-- ---- the tokens of an expression are plain
pub plain_atom : (a : Atom) → EachPasses is_plain (SpellsAtom a)
plain_atom = of_atoms (λ a. AllPass is_plain) (λ k. refl) refl (λ name. refl) refl (λ name. refl)

plain_sign : (n : Bool) → AllPass is_plain (sign_token n ∷ [])
plain_sign false = refl
plain_sign true = refl

plain_leading : (n : Bool) → AllPass is_plain (leading_tokens n)
plain_leading false = refl
plain_leading true = refl

pub plain_first_term : (t : Term) → EachPasses is_plain (InTurn (Exactly (leading_tokens t.is_negative)) (SpellsAtom t.atom))
plain_first_term t =
    turn_passes is_plain (Exactly (leading_tokens t.is_negative)) (SpellsAtom t.atom)
    (exactly_passes is_plain (leading_tokens t.is_negative) (plain_leading t.is_negative)) (plain_atom t.atom)

pub plain_next_term : (t : Term) → EachPasses is_plain (InTurn (Exactly (sign_token t.is_negative ∷ [])) (SpellsAtom t.atom))
plain_next_term t =
    turn_passes is_plain (Exactly (sign_token t.is_negative ∷ [])) (SpellsAtom t.atom)
    (exactly_passes is_plain (sign_token t.is_negative ∷ []) (plain_sign t.is_negative)) (plain_atom t.atom)

plain_signed : (terms : List Term) → EachPasses is_plain (SpellsSigned terms)
plain_signed [] = exactly_passes is_plain [] refl
plain_signed (t ∷ terms) =
    turn_passes is_plain (Exactly (sign_token t.is_negative ∷ [])) (InTurn (SpellsAtom t.atom) (SpellsSigned terms))
    (exactly_passes is_plain (sign_token t.is_negative ∷ []) (plain_sign t.is_negative))
    (turn_passes is_plain (SpellsAtom t.atom) (SpellsSigned terms) (plain_atom t.atom) (plain_signed terms))

pub plain_expression : (terms : List Term) → EachPasses is_plain (SpellsExpression terms)
plain_expression [] ts is = absurd is
plain_expression (t ∷ terms) ts is =
    turn_passes is_plain (Exactly (leading_tokens t.is_negative)) (InTurn (SpellsAtom t.atom) (SpellsSigned terms))
    (exactly_passes is_plain (leading_tokens t.is_negative) (plain_leading t.is_negative))
    (turn_passes is_plain (SpellsAtom t.atom) (SpellsSigned terms) (plain_atom t.atom) (plain_signed terms))
    ts is

-- ---- the token that an expression begins with
abbrev pub begins_value : Token → Bool
begins_value One = true
begins_value (Number n) = true
begins_value (Named name) = true
begins_value (Punctuator Dollar) = true
begins_value (Punctuator Minus) = true
begins_value (Word (meanings.Keyword keywords.Seg)) = true
begins_value t = false

pub record Begins (ts : List Token) : Type 0 where
  pub first : Token
  pub rest : List Token
  pub are : ts ≡ first ∷ rest
  pub is : begins_value first ≡ true

begins_with : (t : Token) (ts : List Token) → begins_value t ≡ true → Begins (t ∷ ts)
begins_with t ts is = record { first = t; rest = ts; are = refl; is = is }

pub begins_before : (ts back : List Token) → Begins ts → Begins (ts ++ back)
begins_before ts back b = record { first = b.first; rest = b.rest ++ back; are = ap (λ (us : List Token). us ++ back) b.are; is = b.is }

atom_begins : (a : Atom) (ts : List Token) → SpellsAtom a ts → Begins ts
atom_begins = of_atoms (λ a. Begins)
    (λ n. begins_with (Number n) [] refl)
    (begins_with One [] refl)
    (λ name. begins_with (Named name) [] refl)
    (begins_with (Punctuator Dollar) [] refl)
    (λ name. begins_with (keyword keywords.Seg) (Named name ∷ []) refl)

leads : (n : Bool) (ts : List Token) → Begins ts → Begins (leading_tokens n ++ ts)
leads false ts b = b
leads true ts b = begins_with (Punctuator Minus) ts refl

pub expression_begins : (terms : List Term) (ts : List Token) → SpellsExpression terms ts → Begins ts
expression_begins [] ts is = absurd is
expression_begins (t ∷ terms) ts is =
    let sign = led (leading_tokens t.is_negative) (InTurn (SpellsAtom t.atom) (SpellsSigned terms)) ts is in
    let atom = sign.other in
    subst Begins (sym sign.are)
    (leads t.is_negative sign.back (subst Begins (sym atom.are) (begins_before atom.front atom.back (atom_begins t.atom atom.front atom.first))))

pub begins_some : (ts : List Token) → Begins ts → ts ≡ [] → ⊥
begins_some ts b none = let never : [] ≡ b.first ∷ b.rest = sym none ∙ b.are in cc
