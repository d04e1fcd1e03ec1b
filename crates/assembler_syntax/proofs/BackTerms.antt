-- Tokens that are read as an expression, or between commas, are a spelling of it.
use Rattle.std.proofs.Common.{◌≡◌, ◌∙◌, ℕ, suc, ◌+◌, ◌<◌, Bool, true, false, not, List, [], ◌∷◌, ◌++◌, length, take, drop, nat_lt}
use Rattle.std.proofs.Common.{refl, sym, ap, ap₂, subst, arith, inl, inr, Option, Some, None, Result, Ok, Err, if◌then◌else◌}
use Rattle.std.specs.List.{list_all, position_or_len}
use Rattle.std.proofs.lemmas.Bool.{ltb-true}
use Rattle.dialect.specs.declared.meaning.Meaning.TheVariants as meanings
use Rattle.dialect.specs.declared.keyword.Keyword.TheVariants as keywords
use Rattle.assembler_lexeme.specs.declared.fault.SyntaxFault.{SyntaxFault}
use Rattle.assembler_lexeme.specs.declared.fault.SyntaxFault.TheVariants.{BadLine}
use Rattle.assembler_lexeme.specs.declared.token.Token.{Token}
use Rattle.assembler_lexeme.specs.declared.token.Token.TheVariants.{One, Number, Named, Word, Punctuator}
use Rattle.assembler_lexeme.specs.declared.token.Punctuator.TheVariants.{Comma, Plus, Minus, Dollar}
use Rattle.assembler_lexeme.specs.Faults.{◌>>=◌, all_of}
use Rattle.assembler_syntax.specs.declared.expression.Atom.{Atom}
use Rattle.assembler_syntax.specs.declared.expression.Atom.TheVariants as atoms
use Rattle.assembler_syntax.specs.declared.expression.Term.{Term}
use Rattle.assembler_syntax.specs.PartSteps.{Signed, signed_part, parts, parts_from, parts_here, is_open_after, onto_part, sign_of}
use Rattle.assembler_syntax.specs.PartSteps.{signed_by, signed_from, onto_signed, signed_parts, is_minus, at_place, around}
use Rattle.assembler_syntax.specs.ExpressionSteps.{single_atom, segment_atom, atom_of, term_of, expression_of, is_constant, constant_of}
use Rattle.assembler_syntax.specs.Spelling.{sign_token, with_commas}
use Rattle.assembler_syntax.specs.Spellings.{WithCommas, SpellsAtom, leading_tokens, SpellsSigned, SpellsExpression, SpellsConstant}

-- ---- what was read in turn
pub record Reads (A B : Type 0) (r : Result A SyntaxFault) (next : A → Result B SyntaxFault) (y : B) : Type 0 where
  pub read : A
  pub is : r ≡ Ok read
  pub then' : next read ≡ Ok y

pub reads : {A B : Type 0} (r : Result A SyntaxFault) (next : A → Result B SyntaxFault) (y : B) → (r >>= next) ≡ Ok y → Reads A B r next y
reads (Ok x) next y is = record { read = x; is = refl; then' = is }
reads (Err fault) next y is = absurd (cc)

pub ok_is : {A : Type 0} (x y : A) → ◌≡◌ {A = Result A SyntaxFault} (Ok x) (Ok y) → x ≡ y
ok_is x y is = cc

pub no_ok : {A : Type 0} (fault : SyntaxFault) (y : A) → ◌≡◌ {A = Result A SyntaxFault} (Err fault) (Ok y) → ⊥
no_ok fault y is = cc

-- ---- atoms
single_spelled : (t : Token) (a : Atom) → single_atom t ≡ Ok a → SpellsAtom a (t ∷ [])
single_spelled One a is = let same : atoms.Number 1 ≡ a = ok_is (atoms.Number 1) a is in subst (λ b. SpellsAtom b (One ∷ [])) same (inr (refl, refl))
single_spelled (Number n) a is = let same : atoms.Number n ≡ a = ok_is (atoms.Number n) a is in subst (λ b. SpellsAtom b (Number n ∷ [])) same (inl refl)
single_spelled (Named name) a is = let same : atoms.Named name ≡ a = ok_is (atoms.Named name) a is in subst (λ b. SpellsAtom b (Named name ∷ [])) same refl
single_spelled (Punctuator Dollar) a is = let same : atoms.Here ≡ a = ok_is atoms.Here a is in subst (λ b. SpellsAtom b (Punctuator Dollar ∷ [])) same refl
single_spelled t a is = absurd (cc)

segment_spelled : (s t : Token) (a : Atom) → segment_atom s t ≡ Ok a → SpellsAtom a (s ∷ t ∷ [])
segment_spelled (Word (meanings.Keyword keywords.Seg)) (Named name) a is =
    let same : atoms.SegmentOf name ≡ a = ok_is (atoms.SegmentOf name) a is in
    subst (λ b. SpellsAtom b (Word (meanings.Keyword keywords.Seg) ∷ Named name ∷ [])) same refl
segment_spelled s t a is = absurd (cc)

pub atom_spelled : (ts : List Token) (a : Atom) → atom_of ts ≡ Ok a → SpellsAtom a ts
unfolding atom_of
atom_spelled [] a is = absurd (cc)
atom_spelled (t ∷ []) a is = single_spelled t a is
atom_spelled (s ∷ t ∷ []) a is = segment_spelled s t a is
atom_spelled (s ∷ t ∷ u ∷ ts) a is = absurd (cc)

pub record IsTermOf (part : Signed) (term : Term) : Type 0 where
  pub sign : part.is_negative ≡ term.is_negative
  pub atom : SpellsAtom term.atom part.tokens

pub term_spelled : (part : Signed) (term : Term) → term_of part ≡ Ok term → IsTermOf part term
term_spelled part term is =
    let of = reads (atom_of part.tokens) (λ atom. Ok (record { is_negative = part.is_negative; atom = atom })) term is in
    let same : record { is_negative = part.is_negative; atom = of.read } ≡ term =
    ok_is (record { is_negative = part.is_negative; atom = of.read }) term of.then' in
    subst (IsTermOf part) same (record { sign = refl; atom = atom_spelled part.tokens of.read of.is })

-- ---- parts between signs
abbrev pub after_signs : List Signed → List Token
after_signs [] = []
after_signs (p ∷ ps) = sign_token p.is_negative ∷ (p.tokens ++ after_signs ps)

pub record AreSignedParts (is_negative : Bool) (ts : List Token) (ps : List Signed) : Type 0 where
  pub first : Signed
  pub rest : List Signed
  pub parts_are : ps ≡ first ∷ rest
  pub sign : first.is_negative ≡ is_negative
  pub tokens : first.tokens ++ after_signs rest ≡ ts

sign_is : (t : Token) (next : Bool) → sign_of t ≡ Some next → sign_token next ≡ t
sign_is (Punctuator Plus) next is = let same : false ≡ next = cc in rw (← same) refl
sign_is (Punctuator Minus) next is = let same : true ≡ next = cc in rw (← same) refl
sign_is t next is = absurd (cc)

signed_step : (t : Token) (ts : List Token) (is_negative : Bool) (sign : Option Bool) → sign_of t ≡ sign
    → ((next : Bool) → AreSignedParts next ts (signed_from next ts))
    → AreSignedParts is_negative (t ∷ ts) (signed_by sign is_negative t (λ next. signed_from next ts))
signed_step t ts is_negative None is each =
    let more = each is_negative in
    record {
      first = signed_part more.first.is_negative (t ∷ more.first.tokens);
      rest = more.rest;
      parts_are = ap (onto_signed is_negative t) more.parts_are;
      sign = more.sign;
      tokens = ap (λ (us : List Token). t ∷ us) more.tokens;
    }
signed_step t ts is_negative (Some next) is each =
    let more = each next in
    record {
      first = signed_part is_negative [];
      rest = signed_from next ts;
      parts_are = refl;
      sign = refl;
      tokens = ap after_signs more.parts_are ∙ ap₂ (λ (s : Token) (us : List Token). s ∷ us) (ap sign_token more.sign ∙ sign_is t next is) more.tokens;
    }

pub signed_are : (ts : List Token) (is_negative : Bool) → AreSignedParts is_negative ts (signed_from is_negative ts)
signed_are [] is_negative = record { first = signed_part is_negative []; rest = []; parts_are = refl; sign = refl; tokens = refl }
signed_are (t ∷ ts) is_negative = signed_step t ts is_negative (sign_of t) refl (signed_are ts)

-- the parts of tokens, a minus perhaps before the first
pub record AreParts (ts : List Token) (ps : List Signed) : Type 0 where
  pub first : Signed
  pub rest : List Signed
  pub parts_are : ps ≡ first ∷ rest
  pub tokens : leading_tokens first.is_negative ++ (first.tokens ++ after_signs rest) ≡ ts

led_parts : (ts us : List Token) (is_negative : Bool) (ps : List Signed)
    → AreSignedParts is_negative us ps → leading_tokens is_negative ++ us ≡ ts → AreParts ts ps
led_parts ts us is_negative ps are is = record {
  first = are.first;
  rest = are.rest;
  parts_are = are.parts_are;
  tokens = ap₂ (λ (n : Bool) (vs : List Token). leading_tokens n ++ vs) are.sign are.tokens ∙ is;
}

minus_is : (t : Token) → is_minus t ≡ true → Punctuator Minus ≡ t
minus_is (Punctuator Minus) is = refl
minus_is t is = absurd (cc)

minus_step : (t : Token) (ts : List Token) (minus : Bool) → is_minus t ≡ minus
    → AreParts (t ∷ ts) (if minus then signed_from true ts else signed_from false (t ∷ ts))
minus_step t ts true is = led_parts (t ∷ ts) ts true (signed_from true ts) (signed_are ts true) (ap (λ (u : Token). u ∷ ts) (minus_is t is))
minus_step t ts false is = led_parts (t ∷ ts) (t ∷ ts) false (signed_from false (t ∷ ts)) (signed_are (t ∷ ts) false) refl

pub parts_are_signed : (ts : List Token) → AreParts ts (signed_parts ts)
parts_are_signed [] = led_parts [] [] false (signed_from false []) (signed_are [] false) refl
parts_are_signed (t ∷ ts) = minus_step t ts (is_minus t) refl

-- ---- expressions
pub record AreOne (B : Type 0) (r : Result B SyntaxFault) (rs : Result (List B) SyntaxFault) (ys : List B) : Type 0 where
  pub first : B
  pub rest : List B
  pub are : ys ≡ first ∷ rest
  pub is_first : r ≡ Ok first
  pub are_rest : rs ≡ Ok rest

pub one_and_rest : {B : Type 0} (r : Result B SyntaxFault) (rs : Result (List B) SyntaxFault) (ys : List B)
    → (r >>= λ y. rs >>= λ zs. Ok (y ∷ zs)) ≡ Ok ys → AreOne B r rs ys
one_and_rest (Ok y) (Ok zs) ys is = record { first = y; rest = zs; are = sym (ok_is (y ∷ zs) ys is); is_first = refl; are_rest = refl }
one_and_rest (Ok y) (Err fault) ys is = absurd (cc)
one_and_rest (Err fault) rs ys is = absurd (cc)

signed_spelled : (ps : List Signed) (terms : List Term) → all_of term_of ps ≡ Ok terms → SpellsSigned terms (after_signs ps)
signed_spelled [] terms is = let same : [] ≡ terms = ok_is [] terms is in subst (λ (us : List Term). SpellsSigned us []) same refl
signed_spelled (p ∷ ps) terms is =
    let of = one_and_rest (term_of p) (all_of term_of ps) terms is in
    let term = term_spelled p of.first of.is_first in
    let rest = signed_spelled ps of.rest of.are_rest in
    subst (λ (us : List Term). SpellsSigned us (after_signs (p ∷ ps))) (sym of.are)
    (record {
      front = sign_token p.is_negative ∷ [];
      back = p.tokens ++ after_signs ps;
      are = refl;
      first = ap (λ (n : Bool). sign_token n ∷ []) term.sign;
      second = record { front = p.tokens; back = after_signs ps; are = refl; first = term.atom; second = rest };
    })

terms_spelled : (ts : List Token) (ps : List Signed) (terms : List Term) → AreParts ts ps → all_of term_of ps ≡ Ok terms → SpellsExpression terms ts
terms_spelled ts ps terms are is =
    let p = are.first in
    let of = one_and_rest (term_of p) (all_of term_of are.rest) terms (sym (ap (all_of term_of) are.parts_are) ∙ is) in
    let term = term_spelled p of.first of.is_first in
    let rest = signed_spelled are.rest of.rest of.are_rest in
    subst (λ (us : List Term). SpellsExpression us ts) (sym of.are)
    (record {
      front = leading_tokens p.is_negative;
      back = p.tokens ++ after_signs are.rest;
      are = sym are.tokens;
      first = ap leading_tokens term.sign;
      second = record { front = p.tokens; back = after_signs are.rest; are = refl; first = term.atom; second = rest };
    })

pub expression_spelled : (ts : List Token) (terms : List Term) → expression_of ts ≡ Ok terms → SpellsExpression terms ts
unfolding expression_of
expression_spelled ts terms is = terms_spelled ts (signed_parts ts) terms (parts_are_signed ts) is

chosen : (test : Bool) (found terms : List Term) → (if test then Ok found else Err BadLine) ≡ Ok terms → (test ≡ true) × (found ≡ terms)
chosen true found terms is = (refl, ok_is found terms is)
chosen false found terms is = absurd (no_ok BadLine terms is)

pub constant_spelled : (ts : List Token) (terms : List Term) → constant_of ts ≡ Ok terms → SpellsConstant terms ts
unfolding constant_of
constant_spelled ts terms is =
    let of = reads (expression_of ts) (λ found. if list_all is_constant found then Ok found else Err BadLine) terms is in
    let found = chosen (list_all is_constant of.read) of.read terms of.then' in
    subst (λ (us : List Term). SpellsConstant us ts) found.1 (expression_spelled ts of.read of.is, found.0)

-- ---- parts between commas
pub record HasFirst (X : Type 0) (xs : List X) : Type 0 where
  pub first : X
  pub rest : List X
  pub are : xs ≡ first ∷ rest

onto_first : (t : Token) (ps : List (List Token)) → HasFirst (List Token) ps
    → (with_commas (onto_part t ps) ≡ t ∷ with_commas ps) × HasFirst (List Token) (onto_part t ps)
onto_first t [] some = absurd (let never : [] ≡ some.first ∷ some.rest = some.are in cc)
onto_first t (p ∷ []) some = (refl, record { first = t ∷ p; rest = []; are = refl })
onto_first t (p ∷ q ∷ qs) some = (refl, record { first = t ∷ p; rest = q ∷ qs; are = refl })

comma_first : (ps : List (List Token)) → HasFirst (List Token) ps → with_commas ([] ∷ ps) ≡ Punctuator Comma ∷ with_commas ps
comma_first [] some = absurd (let never : [] ≡ some.first ∷ some.rest = some.are in cc)
comma_first (p ∷ ps) some = refl

comma_is : (is_open : Bool) (t : Token) → parts_here is_open t ≡ true → Punctuator Comma ≡ t
comma_is false (Punctuator Comma) is = refl
comma_is true t is = absurd (cc)
comma_is false t is = absurd (cc)

abbrev pub ArePartsOf : List Token → List (List Token) → Type 0
ArePartsOf ts ps = (with_commas ps ≡ ts) × HasFirst (List Token) ps

parts_step : (is_open : Bool) (t : Token) (ts : List Token) (ended going : List (List Token)) (here : Bool)
    → parts_here is_open t ≡ here → ArePartsOf ts ended → ArePartsOf ts going → ArePartsOf (t ∷ ts) (if here then [] ∷ ended else onto_part t going)
parts_step is_open t ts ended going true is one other =
    (comma_first ended one.1 ∙ ap₂ (λ (u : Token) (us : List Token). u ∷ us) (comma_is is_open t is) one.0, record { first = []; rest = ended; are = refl })
parts_step is_open t ts ended going false is one other =
    let both = onto_first t going other.1 in (both.0 ∙ ap (λ (us : List Token). t ∷ us) other.0, both.1)

parts_from_are : (is_open : Bool) (ts : List Token) → ArePartsOf ts (parts_from is_open ts)
parts_from_are is_open [] = (refl, record { first = []; rest = []; are = refl })
parts_from_are is_open (t ∷ ts) =
    parts_step is_open t ts (parts_from false ts) (parts_from (is_open_after is_open t) ts) (parts_here is_open t) refl (parts_from_are false ts)
    (parts_from_are (is_open_after is_open t) ts)

parts_are : (ts : List Token) → ArePartsOf ts (parts ts)
unfolding parts
parts_are ts = parts_from_are false ts

each_spelled : {A : Type 0} (read : List Token → Result A SyntaxFault) (Spells : A → List Token → Type 0)
    → ((us : List Token) (x : A) → read us ≡ Ok x → Spells x us) → (p : List Token) (ps : List (List Token)) (xs : List A) → all_of read (p ∷ ps) ≡ Ok xs
    → WithCommas Spells xs (with_commas (p ∷ ps))
each_spelled read Spells each p [] xs is =
    let of = one_and_rest (read p) (Ok []) xs is in
    let none : [] ≡ of.rest = ok_is [] of.rest of.are_rest in
    let are : xs ≡ of.first ∷ [] = of.are ∙ ap (λ zs. of.first ∷ zs) (sym none) in
    subst (λ zs. WithCommas Spells zs p) (sym are) (each p of.first of.is_first)
each_spelled read Spells each p (q ∷ qs) xs is =
    let of = one_and_rest (read p) (all_of read (q ∷ qs)) xs is in
    let rest = each_spelled read Spells each q qs of.rest of.are_rest in
    let second = one_and_rest (read q) (all_of read qs) of.rest of.are_rest in
    let are : xs ≡ of.first ∷ second.first ∷ second.rest = of.are ∙ ap (λ zs. of.first ∷ zs) second.are in
    subst (λ zs. WithCommas Spells zs (with_commas (p ∷ q ∷ qs))) (sym are)
    (record {
      front = p;
      back = Punctuator Comma ∷ with_commas (q ∷ qs);
      are = refl;
      first = each p of.first of.is_first;
      second = record {
        front = Punctuator Comma ∷ [];
        back = with_commas (q ∷ qs);
        are = refl;
        first = refl;
        second = subst (λ zs. WithCommas Spells zs (with_commas (q ∷ qs))) second.are rest;
      };
    })

some_spelled : {A : Type 0} (read : List Token → Result A SyntaxFault) (Spells : A → List Token → Type 0)
    → ((us : List Token) (x : A) → read us ≡ Ok x → Spells x us) → (ts : List Token) (ps : List (List Token)) (xs : List A)
    → ArePartsOf ts ps → all_of read ps ≡ Ok xs → WithCommas Spells xs ts
some_spelled read Spells each ts ps xs are is =
    subst (WithCommas Spells xs) (sym (ap with_commas are.1.are) ∙ are.0)
    (each_spelled read Spells each are.1.first are.1.rest xs (sym (ap (all_of read) are.1.are) ∙ is))

-- what is read of each part is spelled with commas
pub commas_spelled : {A : Type 0} (read : List Token → Result A SyntaxFault) (Spells : A → List Token → Type 0)
    → ((us : List Token) (x : A) → read us ≡ Ok x → Spells x us) → (ts : List Token) (xs : List A) → all_of read (parts ts) ≡ Ok xs → WithCommas Spells xs ts
commas_spelled read Spells each ts xs is = some_spelled read Spells each ts (parts ts) xs (parts_are ts) is

-- ---- what stands around a token
pub record StandsAround (passes : Token → Bool) (ts front back : List Token) : Type 0 where
  pub token : Token
  pub passes_it : passes token ≡ true
  pub are : ts ≡ front ++ token ∷ back

later_place : (n : ℕ) → 1 + n ≡ suc n
later_place n = omega arith

next_place : (n : ℕ) → suc n + 1 ≡ suc (n + 1)
next_place n = omega arith

found_step : (passes : Token → Bool) (t : Token) (ts : List Token) (here : Bool) (n : ℕ)
    → passes t ≡ here → (n < length ts → StandsAround passes ts (take n ts) (drop (n + 1) ts)) → (if not here then 1 + n else 0) < suc (length ts)
    → StandsAround passes (t ∷ ts) (take (if not here then 1 + n else 0) (t ∷ ts)) (drop ((if not here then 1 + n else 0) + 1) (t ∷ ts))
found_step passes t ts true n is more within = record { token = t; passes_it = is; are = refl }
found_step passes t ts false n is more within =
    let rest = more (omega (arith, within)) in
    rw (later_place n) (rw (next_place n) (record { token = rest.token; passes_it = rest.passes_it; are = ap (λ (us : List Token). t ∷ us) rest.are }))

found_at : (passes : Token → Bool) (ts : List Token) → position_or_len passes ts < length ts
    → StandsAround passes ts (take (position_or_len passes ts) ts) (drop (position_or_len passes ts + 1) ts)
found_at passes [] within = absurd (omega (arith, within))
found_at passes (t ∷ ts) within = found_step passes t ts (passes t) (position_or_len passes ts) refl (found_at passes ts) within

around_step : (passes : Token → Bool) (ts : List Token) (p : List Token × List Token) (test : Bool) → nat_lt (position_or_len passes ts) (length ts) ≡ test
    → at_place ts (if test then Some (position_or_len passes ts) else None) ≡ Some p → StandsAround passes ts p.0 p.1
around_step passes ts p true is found =
    let same : (take (position_or_len passes ts) ts, drop (position_or_len passes ts + 1) ts) ≡ p = cc in
    subst (λ (q : List Token × List Token). StandsAround passes ts q.0 q.1) same (found_at passes ts (ltb-true (position_or_len passes ts) (length ts) is))
around_step passes ts p false is found = absurd (let never : ◌≡◌ {A = Option (List Token × List Token)} None (Some p) = found in cc)

pub around_spelled : (passes : Token → Bool) (ts : List Token) (p : List Token × List Token) → around passes ts ≡ Some p → StandsAround passes ts p.0 p.1
around_spelled passes ts p is = around_step passes ts p (nat_lt (position_or_len passes ts) (length ts)) refl is
