-- Tokens that are read as an operand are a spelling of it.
use Rattle.std.proofs.Common.{◌≡◌, ◌∙◌, Bool, true, false, ◌&&◌, List, [], ◌∷◌, ◌++◌, append_assoc, append-nil}
use Rattle.std.proofs.Common.{flat_map, refl, sym, ap, ap₂, subst, inl, inr, Option, Some, None, Ok, Err, if◌then◌else◌}
use Rattle.std.proofs.lemmas.Bool.{and_parts}
use Rattle.isa.specs.declared.form.Base.{Base}
use Rattle.isa.specs.declared.form.Base.TheVariants as bases
use Rattle.isa.specs.declared.register.SegmentRegister.{SegmentRegister}
use Rattle.isa.specs.declared.register.WordRegister.{WordRegister}
use Rattle.isa.specs.declared.register.WordRegister.TheVariants.{Bx, Bp, Si, Di}
use Rattle.dialect.specs.declared.meaning.Meaning.TheVariants as meanings
use Rattle.dialect.specs.declared.register.Register.{Register}
use Rattle.dialect.specs.declared.register.Register.TheVariants as registers
use Rattle.dialect.specs.declared.keyword.Keyword.TheVariants as keywords
use Rattle.dialect.specs.declared.size.Size.{Size}
use Rattle.dialect.specs.declared.size.Size.TheVariants as sizes
use Rattle.assembler_lexeme.specs.declared.fault.SyntaxFault.TheVariants.{BadLine}
use Rattle.assembler_lexeme.specs.declared.token.Token.{Token}
use Rattle.assembler_lexeme.specs.declared.token.Token.TheVariants.{One, Number, Named, Quoted, Word, Punctuator}
use Rattle.assembler_lexeme.specs.declared.token.Punctuator.TheVariants.{Colon, OpenBracket, CloseBracket}
use Rattle.assembler_lexeme.specs.Faults.{◌>>=◌, wanted}
use Rattle.assembler_syntax.specs.declared.expression.Term.{Term}
use Rattle.assembler_syntax.specs.declared.operand.Address.{Address}
use Rattle.assembler_syntax.specs.declared.operand.Operand.{Operand}
use Rattle.assembler_syntax.specs.declared.operand.Operand.TheVariants as operands
use Rattle.assembler_syntax.specs.PartSteps.{Signed, signed_parts, around, closed, is_colon, is_open_bracket, is_close_bracket}
use Rattle.assembler_syntax.specs.ExpressionSteps.{expression_of, term_of}
use Rattle.assembler_syntax.specs.OperandSteps.{base_with, with_register, terms_with, with_term, single_register, register_of, with_part_by}
use Rattle.assembler_syntax.specs.OperandSteps.{with_part, with_parts, empty_address, memory_of, value_of, after_segment, brackets_by}
use Rattle.assembler_syntax.specs.OperandSteps.{brackets_of, memory_in, single_label, far_label, far_pointer, far_target, far_by, far_of}
use Rattle.assembler_syntax.specs.OperandSteps.{short_of, single_operand, place_or_value, led_operand, operand_of, operands_of}
use Rattle.assembler_syntax.specs.Spelling.{keyword, register, word, sign_token, size_tokens, segment_tokens}
use Rattle.assembler_syntax.specs.Spellings.{AddressPart, a_register, a_term, AreOfBase, SpellsAtom, SpellsFirstPart, SpellsInner, SpellsMoreParts}
use Rattle.assembler_syntax.specs.Spellings.{SpellsOperand, SpellsOperands, SpellsPart, WithCommas, leading_tokens, part_registers, part_terms, some_terms}
use Rattle.assembler_syntax.proofs.BackTerms.{AreParts, StandsAround, around_spelled, after_signs, commas_spelled}
use Rattle.assembler_syntax.proofs.BackTerms.{expression_spelled, ok_is, parts_are_signed, reads, term_spelled}

-- ---- a part in brackets
-- what stands between two signs
abbrev IsPartOf : Signed → AddressPart → Type 0
IsPartOf p (a_register r) = (p.is_negative ≡ false) × (p.tokens ≡ word r ∷ [])
IsPartOf p (a_term t) = (p.is_negative ≡ t.is_negative) × SpellsAtom t.atom p.tokens

first_part : (p : Signed) (part : AddressPart) → IsPartOf p part → SpellsFirstPart part (leading_tokens p.is_negative ++ p.tokens)
first_part p (a_register r) is = ap₂ (λ (n : Bool) (ts : List Token). leading_tokens n ++ ts) is.0 is.1
first_part p (a_term t) is = record { front = leading_tokens p.is_negative; back = p.tokens; are = refl; first = ap leading_tokens is.0; second = is.1 }

next_part : (p : Signed) (part : AddressPart) → IsPartOf p part → SpellsPart part (sign_token p.is_negative ∷ p.tokens)
next_part p (a_register r) is = ap₂ (λ (n : Bool) (ts : List Token). sign_token n ∷ ts) is.0 is.1
next_part p (a_term t) is =
    record { front = sign_token p.is_negative ∷ []; back = p.tokens; are = refl; first = ap (λ (n : Bool). sign_token n ∷ []) is.0; second = is.1 }

abbrev KeepsBase : Option Base → Option Base → List WordRegister → Type 0
KeepsBase before after more = (rs : List WordRegister) → AreOfBase before rs → AreOfBase after (rs ++ more)

abbrev KeepsTerms : Option (List Term) → Option (List Term) → List Term → Type 0
KeepsTerms before after more = (terms : List Term) → before ≡ some_terms terms → after ≡ some_terms (terms ++ more)

record AddsPart (a b : Address) (p : Signed) : Type 0 where
  part : AddressPart
  is_part : IsPartOf p part
  size : a.size ≡ b.size
  segment : a.segment ≡ b.segment
  base : KeepsBase a.base b.base (part_registers part)
  terms : KeepsTerms a.displacement b.displacement (part_terms part)

alone : (r : WordRegister) (rs more : List WordRegister) → rs ≡ r ∷ [] → rs ++ more ≡ r ∷ more
alone r rs more is = ap (λ (qs : List WordRegister). qs ++ more) is

nothing : (rs more : List WordRegister) → rs ≡ [] → rs ++ more ≡ more
nothing rs more is = ap (λ (qs : List WordRegister). qs ++ more) is

to_base : (found b : Base) (rs : List WordRegister) → ◌≡◌ {A = Option Base} (Some found) (Some b) → AreOfBase (Some found) rs → AreOfBase (Some b) rs
to_base found b rs is are = let same : found ≡ b = cc in subst (λ (c : Base). AreOfBase (Some c) rs) same are

base_kept : (before : Option Base) (r : WordRegister) (b : Base) → base_with before r ≡ Some b → KeepsBase before (Some b) (r ∷ [])
base_kept None Bx b is rs are = to_base bases.Bx b (rs ++ Bx ∷ []) is (nothing rs (Bx ∷ []) are)
base_kept None Bp b is rs are = to_base bases.Bp b (rs ++ Bp ∷ []) is (nothing rs (Bp ∷ []) are)
base_kept None Si b is rs are = to_base bases.Si b (rs ++ Si ∷ []) is (nothing rs (Si ∷ []) are)
base_kept None Di b is rs are = to_base bases.Di b (rs ++ Di ∷ []) is (nothing rs (Di ∷ []) are)
base_kept (Some bases.Bx) Si b is rs are = to_base bases.BxSi b (rs ++ Si ∷ []) is (inl (alone Bx rs (Si ∷ []) are))
base_kept (Some bases.Bx) Di b is rs are = to_base bases.BxDi b (rs ++ Di ∷ []) is (inl (alone Bx rs (Di ∷ []) are))
base_kept (Some bases.Bp) Si b is rs are = to_base bases.BpSi b (rs ++ Si ∷ []) is (inl (alone Bp rs (Si ∷ []) are))
base_kept (Some bases.Bp) Di b is rs are = to_base bases.BpDi b (rs ++ Di ∷ []) is (inl (alone Bp rs (Di ∷ []) are))
base_kept (Some bases.Si) Bx b is rs are = to_base bases.BxSi b (rs ++ Bx ∷ []) is (inr (alone Si rs (Bx ∷ []) are))
base_kept (Some bases.Si) Bp b is rs are = to_base bases.BpSi b (rs ++ Bp ∷ []) is (inr (alone Si rs (Bp ∷ []) are))
base_kept (Some bases.Di) Bx b is rs are = to_base bases.BxDi b (rs ++ Bx ∷ []) is (inr (alone Di rs (Bx ∷ []) are))
base_kept (Some bases.Di) Bp b is rs are = to_base bases.BpDi b (rs ++ Bp ∷ []) is (inr (alone Di rs (Bp ∷ []) are))
base_kept before r b is rs are = absurd (cc)

same_base : (base : Option Base) → KeepsBase base base []
same_base base rs are = subst (AreOfBase base) (sym (append-nil rs)) are

same_terms : (terms : Option (List Term)) → KeepsTerms terms terms []
same_terms terms ts is = is ∙ ap some_terms (sym (append-nil ts))

term_kept : (before : Option (List Term)) (term : Term) → KeepsTerms before (Some (terms_with before term)) (term ∷ [])
term_kept before term [] is = ap (λ (o : Option (List Term)). Some (terms_with o term)) is
term_kept before term (t ∷ ts) is = ap (λ (o : Option (List Term)). Some (terms_with o term)) is

wanted_is : {A : Type 0} (o : Option A) (x : A) → wanted o ≡ Ok x → o ≡ Some x
wanted_is (Some y) x is = cc
wanted_is None x is = absurd (cc)

register_added : (a b : Address) (p : Signed) (r : WordRegister)
    → p.is_negative ≡ false → p.tokens ≡ word r ∷ [] → with_register a (registers.Word r) ≡ Ok b → AddsPart a b p
register_added a b p r plus tokens is =
    let of = reads (wanted (base_with a.base r)) (λ base. Ok (record a { base = Some base })) b is in
    let same : record a { base = Some of.read } ≡ b = ok_is (record a { base = Some of.read }) b of.then' in
    subst (λ (c : Address). AddsPart a c p) same
    (record {
      part = a_register r;
      is_part = (plus, tokens);
      size = refl;
      segment = refl;
      base = base_kept a.base r of.read (wanted_is (base_with a.base r) of.read of.is);
      terms = same_terms a.displacement;
    })

any_register : (a b : Address) (p : Signed) (r : Register) → p.is_negative ≡ false → p.tokens ≡ register r ∷ [] → with_register a r ≡ Ok b → AddsPart a b p
any_register a b p (registers.Word r) plus tokens is = register_added a b p r plus tokens is
any_register a b p (registers.Byte r) plus tokens is = absurd (cc)
any_register a b p (registers.Segment r) plus tokens is = absurd (cc)

unsigned : (a b : Address) (p : Signed) (r : Register) (negative : Bool) → p.is_negative ≡ negative → p.tokens ≡ register r ∷ []
    → (if negative then Err BadLine else with_register a r) ≡ Ok b → AddsPart a b p
unsigned a b p r true sign tokens is = absurd (cc)
unsigned a b p r false sign tokens is = any_register a b p r sign tokens is

single_is : (t : Token) (r : Register) → single_register t ≡ Some r → t ∷ [] ≡ register r ∷ []
single_is (Word (meanings.Register s)) r is = let same : s ≡ r = cc in ap (λ (q : Register). register q ∷ []) same
single_is t r is = absurd (cc)

register_is : (ts : List Token) (r : Register) → register_of ts ≡ Some r → ts ≡ register r ∷ []
register_is [] r is = absurd (cc)
register_is (t ∷ []) r is = single_is t r is
register_is (t ∷ u ∷ ts) r is = absurd (cc)

part_by : (found : Option Register) (a b : Address) (p : Signed) → register_of p.tokens ≡ found → with_part_by found a p ≡ Ok b → AddsPart a b p
part_by (Some r) a b p at is = unsigned a b p r p.is_negative refl (register_is p.tokens r at) is
part_by None a b p at is =
    let of = reads (term_of p) (λ term. Ok (with_term a term)) b is in
    let same : with_term a of.read ≡ b = ok_is (with_term a of.read) b of.then' in
    let term = term_spelled p of.read of.is in
    subst (λ (c : Address). AddsPart a c p) same
    (record {
      part = a_term of.read;
      is_part = (term.sign, term.atom);
      size = refl;
      segment = refl;
      base = same_base a.base;
      terms = term_kept a.displacement of.read;
    })

part_added : (a b : Address) (p : Signed) → with_part a p ≡ Ok b → AddsPart a b p
unfolding with_part
part_added a b p is = part_by (register_of p.tokens) a b p refl is

-- ---- all parts
record AddsParts (a b : Address) (ps : List Signed) : Type 0 where
  parts : List AddressPart
  spelled : SpellsMoreParts parts (after_signs ps)
  size : a.size ≡ b.size
  segment : a.segment ≡ b.segment
  base : KeepsBase a.base b.base (flat_map part_registers parts)
  terms : KeepsTerms a.displacement b.displacement (flat_map part_terms parts)

both_bases : (one two three : Option Base) (xs ys : List WordRegister) → KeepsBase one two xs → KeepsBase two three ys → KeepsBase one three (xs ++ ys)
both_bases one two three xs ys first second rs are = subst (AreOfBase three) (append_assoc rs xs ys) (second (rs ++ xs) (first rs are))

both_terms : (one two three : Option (List Term)) (xs ys : List Term) → KeepsTerms one two xs → KeepsTerms two three ys → KeepsTerms one three (xs ++ ys)
both_terms one two three xs ys first second ts is = second (ts ++ xs) (first ts is) ∙ ap some_terms (append_assoc ts xs ys)

parts_added : (ps : List Signed) (a b : Address) → with_parts a ps ≡ Ok b → AddsParts a b ps
parts_added [] a b is =
    let same : a ≡ b = ok_is a b is in
    subst (λ (c : Address). AddsParts a c []) same
    (record { parts = []; spelled = refl; size = refl; segment = refl; base = same_base a.base; terms = same_terms a.displacement })
parts_added (p ∷ ps) a b is =
    let of = reads (with_part a p) (λ c. with_parts c ps) b is in
    let one = part_added a of.read p of.is in
    let more = parts_added ps of.read b of.then' in
    record {
      parts = one.part ∷ more.parts;
      spelled = record {
        front = sign_token p.is_negative ∷ p.tokens;
        back = after_signs ps;
        are = refl;
        first = next_part p one.part one.is_part;
        second = more.spelled;
      };
      size = one.size ∙ more.size;
      segment = one.segment ∙ more.segment;
      base = both_bases a.base of.read.base b.base (part_registers one.part) (flat_map part_registers more.parts) one.base more.base;
      terms = both_terms a.displacement of.read.displacement b.displacement (part_terms one.part) (flat_map part_terms more.parts) one.terms more.terms;
    }

record IsInnerOf (size : Option Size) (segment : Option SegmentRegister) (ts : List Token) (b : Address) : Type 0 where
  inner : SpellsInner b ts
  size_is : size ≡ b.size
  segment_is : segment ≡ b.segment

inner_spelled : (size : Option Size) (segment : Option SegmentRegister) (ts : List Token) (ps : List Signed) (b : Address) → AreParts ts ps
    → with_parts (empty_address size segment) ps ≡ Ok b → IsInnerOf size segment ts b
inner_spelled size segment ts ps b are is =
    let p = are.first in
    let a : Address = empty_address size segment in
    let of = reads (with_part a p) (λ c. with_parts c are.rest) b (sym (ap (with_parts a) are.parts_are) ∙ is) in
    let one = part_added a of.read p of.is in
    let more = parts_added are.rest of.read b of.then' in
    record {
      inner = record {
        parts = one.part ∷ more.parts;
        spelled = record {
          front = leading_tokens p.is_negative ++ p.tokens;
          back = after_signs are.rest;
          are = sym are.tokens ∙ sym (append_assoc (leading_tokens p.is_negative) p.tokens (after_signs are.rest));
          first = first_part p one.part one.is_part;
          second = more.spelled;
        };
        base = both_bases None of.read.base b.base (part_registers one.part) (flat_map part_registers more.parts) one.base more.base [] refl;
        displacement = both_terms None of.read.displacement b.displacement (part_terms one.part) (flat_map part_terms more.parts) one.terms more.terms [] refl;
      };
      size_is = one.size ∙ more.size;
      segment_is = one.segment ∙ more.segment;
    }

-- ---- memory
pub closed_is : (found : Option (List Token × List Token)) (inner : List Token) → closed found ≡ Ok inner → found ≡ Some (inner, [])
closed_is (Some (front, [])) inner is = cc
closed_is (Some (front, t ∷ ts)) inner is = absurd (cc)
closed_is None inner is = absurd (cc)

close_is : (t : Token) → is_close_bracket t ≡ true → t ≡ Punctuator CloseBracket
close_is (Punctuator CloseBracket) is = refl
close_is t is = absurd (cc)

abbrev memory_tokens : Option Size → Option SegmentRegister → List Token → List Token
memory_tokens size segment ts = size_tokens size ++ (segment_tokens segment ++ Punctuator OpenBracket ∷ ts)

opened : (size : Option Size) (segment : Option SegmentRegister) (ts : List Token) → memory_tokens size segment ts ≡ memory_tokens size segment [] ++ ts
opened size segment ts =
    ap (λ (us : List Token). size_tokens size ++ us) (sym (append_assoc (segment_tokens segment) (Punctuator OpenBracket ∷ []) ts))
    ∙ sym (append_assoc (size_tokens size) (segment_tokens segment ++ Punctuator OpenBracket ∷ []) ts)

pub memory_spelled : (size : Option Size) (segment : Option SegmentRegister) (ts : List Token) (o : Operand) → memory_of size segment ts ≡ Ok o
    → SpellsOperand o (memory_tokens size segment ts)
unfolding memory_of
memory_spelled size segment ts o is =
    let of =
    reads (closed (around is_close_bracket ts)) (λ inner. with_parts (empty_address size segment) (signed_parts inner) >>= λ a. Ok (operands.Memory a)) o is in
    let made = reads (with_parts (empty_address size segment) (signed_parts of.read)) (λ a. Ok (operands.Memory a)) o of.then' in
    let same : operands.Memory made.read ≡ o = ok_is (operands.Memory made.read) o made.then' in
    let inside = inner_spelled size segment of.read (signed_parts of.read) made.read (parts_are_signed of.read) made.is in
    let around_it = around_spelled is_close_bracket ts (of.read, []) (closed_is (around is_close_bracket ts) of.read of.is) in
    subst (λ (p : Operand). SpellsOperand p (memory_tokens size segment ts)) same
    (record {
      front = memory_tokens size segment [];
      back = ts;
      are = opened size segment ts;
      first = ap₂ (λ (s : Option Size) (r : Option SegmentRegister). memory_tokens s r []) inside.size_is inside.segment_is;
      second = record {
        front = of.read;
        back = around_it.token ∷ [];
        are = around_it.are;
        first = inside.inner;
        second = ap (λ (t : Token). t ∷ []) (close_is around_it.token around_it.passes_it);
      };
    })

open_is : (t : Token) → is_open_bracket t ≡ true → t ≡ Punctuator OpenBracket
open_is (Punctuator OpenBracket) is = refl
open_is t is = absurd (cc)

pub colon_is : (t : Token) → is_colon t ≡ true → t ≡ Punctuator Colon
colon_is (Punctuator Colon) is = refl
colon_is t is = absurd (cc)

abbrev BracketsAre : List Token → Option SegmentRegister × List Token → Type 0
BracketsAre ts b = ts ≡ segment_tokens b.0 ++ Punctuator OpenBracket ∷ b.1

after_step : (s : SegmentRegister) (t u : Token) (ts : List Token) (b : Option SegmentRegister × List Token) (test : Bool)
    → (is_colon t && is_open_bracket u) ≡ test → (if test then Some (Some s, ts) else None) ≡ Some b
    → BracketsAre (register (registers.Segment s) ∷ t ∷ u ∷ ts) b
after_step s t u ts b true at is =
    let same : (Some s, ts) ≡ b = cc in
    let both = and_parts (is_colon t) (is_open_bracket u) at in
    subst (BracketsAre (register (registers.Segment s) ∷ t ∷ u ∷ ts)) same
    (ap₂ (λ (v w : Token). register (registers.Segment s) ∷ v ∷ w ∷ ts) (colon_is t both.0) (open_is u both.1))
after_step s t u ts b false at is = absurd (cc)

after_is : (r : Register) (ts : List Token) (b : Option SegmentRegister × List Token) → after_segment r ts ≡ Some b → BracketsAre (register r ∷ ts) b
after_is (registers.Segment s) (t ∷ u ∷ ts) b is = after_step s t u ts b (is_colon t && is_open_bracket u) refl is
after_is (registers.Segment s) (t ∷ []) b is = absurd (cc)
after_is (registers.Segment s) [] b is = absurd (cc)
after_is (registers.Byte r) ts b is = absurd (cc)
after_is (registers.Word r) ts b is = absurd (cc)

by_first : (t : Token) (ts : List Token) (b : Option SegmentRegister × List Token) → brackets_by t ts ≡ Some b → BracketsAre (t ∷ ts) b
by_first (Punctuator OpenBracket) ts b is = let same : (None, ts) ≡ b = cc in subst (BracketsAre (Punctuator OpenBracket ∷ ts)) same refl
by_first (Word (meanings.Register r)) ts b is = after_is r ts b is
by_first t ts b is = absurd (cc)

brackets_are : (ts : List Token) (b : Option SegmentRegister × List Token) → brackets_of ts ≡ Some b → BracketsAre ts b
unfolding brackets_of
brackets_are [] b is = absurd (cc)
brackets_are (t ∷ ts) b is = by_first t ts b is

-- an operand in memory after its size, or without one
in_brackets : (size : Option Size) (ts : List Token) (b : Option SegmentRegister × List Token) (o : Operand)
    → brackets_of ts ≡ Some b → memory_of size b.0 b.1 ≡ Ok o → SpellsOperand o (size_tokens size ++ ts)
in_brackets size ts b o at is =
    subst (SpellsOperand o) (ap (λ (us : List Token). size_tokens size ++ us) (sym (brackets_are ts b at))) (memory_spelled size b.0 b.1 o is)

sized_spelled : (size : Option Size) (ts : List Token) (found : Option (Option SegmentRegister × List Token)) (o : Operand)
    → brackets_of ts ≡ found → memory_in size found ≡ Ok o → SpellsOperand o (size_tokens size ++ ts)
sized_spelled size ts (Some b) o at is = in_brackets size ts b o at is
sized_spelled size ts None o at is = absurd (cc)

-- ---- other operands
value_spelled : (ts : List Token) (o : Operand) → (ts ≡ One ∷ [] → ⊥) → value_of ts ≡ Ok o → SpellsOperand o ts
unfolding value_of
value_spelled ts o other is =
    let of = reads (expression_of ts) (λ value. Ok (operands.Value value)) o is in
    let same : operands.Value of.read ≡ o = ok_is (operands.Value of.read) o of.then' in
    subst (λ (p : Operand). SpellsOperand p ts) same (expression_spelled ts of.read of.is, other)

short_spelled : (ts : List Token) (o : Operand) → short_of ts ≡ Ok o → SpellsOperand o (keyword keywords.Short ∷ ts)
short_spelled ts o is =
    let of = reads (expression_of ts) (λ target. Ok (operands.Short target)) o is in
    let same : operands.Short of.read ≡ o = ok_is (operands.Short of.read) o of.then' in
    subst (λ (p : Operand). SpellsOperand p (keyword keywords.Short ∷ ts)) same
    (record { front = keyword keywords.Short ∷ []; back = ts; are = refl; first = refl; second = expression_spelled ts of.read of.is })

label_spelled : (t : Token) (o : Operand) → single_label t ≡ Ok o → SpellsOperand o (keyword keywords.Far ∷ t ∷ [])
label_spelled (Named label) o is =
    let same : operands.FarLabel label ≡ o = ok_is (operands.FarLabel label) o is in
    subst (λ (p : Operand). SpellsOperand p (keyword keywords.Far ∷ Named label ∷ [])) same refl
label_spelled t o is = absurd (cc)

far_label_spelled : (ts : List Token) (o : Operand) → far_label ts ≡ Ok o → SpellsOperand o (keyword keywords.Far ∷ ts)
far_label_spelled [] o is = absurd (cc)
far_label_spelled (t ∷ []) o is = label_spelled t o is
far_label_spelled (t ∷ u ∷ ts) o is = absurd (cc)

pointer_spelled : (ts front back : List Token) (o : Operand) → StandsAround is_colon ts front back → far_pointer front back ≡ Ok o
    → SpellsOperand o (keyword keywords.Far ∷ ts)
pointer_spelled ts front back o around_it is =
    let of = reads (expression_of front) (λ s. expression_of back >>= λ t. Ok (operands.FarPointer s t)) o is in
    let following = reads (expression_of back) (λ t. Ok (operands.FarPointer of.read t)) o of.then' in
    let same : operands.FarPointer of.read following.read ≡ o = ok_is (operands.FarPointer of.read following.read) o following.then' in
    subst (λ (p : Operand). SpellsOperand p (keyword keywords.Far ∷ ts)) same
    (record {
      front = keyword keywords.Far ∷ [];
      back = ts;
      are = refl;
      first = refl;
      second = record {
        front = front;
        back = around_it.token ∷ back;
        are = around_it.are;
        first = expression_spelled front of.read of.is;
        second = record {
          front = around_it.token ∷ [];
          back = back;
          are = refl;
          first = ap (λ (t : Token). t ∷ []) (colon_is around_it.token around_it.passes_it);
          second = expression_spelled back following.read following.is;
        };
      };
    })

target_spelled : (ts : List Token) (found : Option (List Token × List Token)) (o : Operand) → around is_colon ts ≡ found → far_target found ts ≡ Ok o
    → SpellsOperand o (keyword keywords.Far ∷ ts)
target_spelled ts (Some p) o at is = pointer_spelled ts p.0 p.1 o (around_spelled is_colon ts p at) is
target_spelled ts None o at is = far_label_spelled ts o is

far_by_spelled : (ts : List Token) (found : Option (Option SegmentRegister × List Token)) (o : Operand) → brackets_of ts ≡ found → far_by found ts ≡ Ok o
    → SpellsOperand o (keyword keywords.Far ∷ ts)
far_by_spelled ts (Some b) o at is = in_brackets (Some sizes.Far) ts b o at is
far_by_spelled ts None o at is = target_spelled ts (around is_colon ts) o refl is

far_spelled : (ts : List Token) (o : Operand) → far_of ts ≡ Ok o → SpellsOperand o (keyword keywords.Far ∷ ts)
unfolding far_of
far_spelled ts o is = far_by_spelled ts (brackets_of ts) o refl is

place_spelled : (ts : List Token) (found : Option (Option SegmentRegister × List Token)) (o : Operand)
    → (ts ≡ One ∷ [] → ⊥) → brackets_of ts ≡ found → place_or_value found ts ≡ Ok o → SpellsOperand o ts
place_spelled ts (Some b) o other at is = in_brackets None ts b o at is
place_spelled ts None o other at is = value_spelled ts o other is

single_spelled : (t : Token) (o : Operand) → single_operand t ≡ Ok o → SpellsOperand o (t ∷ [])
single_spelled (Word (meanings.Register r)) o is =
    let same : operands.Register r ≡ o = ok_is (operands.Register r) o is in subst (λ (p : Operand). SpellsOperand p (register r ∷ [])) same refl
single_spelled One o is = let same : operands.One ≡ o = ok_is operands.One o is in subst (λ (p : Operand). SpellsOperand p (One ∷ [])) same refl
single_spelled (Number n) o is = value_spelled (Number n ∷ []) o (λ same. cc) is
single_spelled (Named name) o is = value_spelled (Named name ∷ []) o (λ same. cc) is
single_spelled (Quoted text) o is = value_spelled (Quoted text ∷ []) o (λ same. cc) is
single_spelled (Punctuator punctuator) o is = value_spelled (Punctuator punctuator ∷ []) o (λ same. cc) is
single_spelled (Word (meanings.Mnemonic m)) o is = value_spelled (Word (meanings.Mnemonic m) ∷ []) o (λ same. cc) is
single_spelled (Word (meanings.Prefix p)) o is = value_spelled (Word (meanings.Prefix p) ∷ []) o (λ same. cc) is
single_spelled (Word (meanings.Keyword k)) o is = value_spelled (Word (meanings.Keyword k) ∷ []) o (λ same. cc) is

two_not_one : (t u : Token) (ts : List Token) → t ∷ u ∷ ts ≡ One ∷ [] → ⊥
two_not_one t u ts is = cc

led_spelled : (t u : Token) (ts : List Token) (o : Operand) → led_operand t (u ∷ ts) ≡ Ok o → SpellsOperand o (t ∷ u ∷ ts)
led_spelled (Word (meanings.Keyword keywords.Short)) u ts o is = short_spelled (u ∷ ts) o is
led_spelled (Word (meanings.Keyword keywords.Byte)) u ts o is = sized_spelled (Some sizes.Byte) (u ∷ ts) (brackets_of (u ∷ ts)) o refl is
led_spelled (Word (meanings.Keyword keywords.Word)) u ts o is = sized_spelled (Some sizes.Word) (u ∷ ts) (brackets_of (u ∷ ts)) o refl is
led_spelled (Word (meanings.Keyword keywords.Far)) u ts o is = far_spelled (u ∷ ts) o is
led_spelled t u ts o is = place_spelled (t ∷ u ∷ ts) (brackets_of (t ∷ u ∷ ts)) o (two_not_one t u ts) refl is

operand_spelled : (ts : List Token) (o : Operand) → operand_of ts ≡ Ok o → SpellsOperand o ts
unfolding operand_of
operand_spelled [] o is = absurd (cc)
operand_spelled (t ∷ []) o is = single_spelled t o is
operand_spelled (t ∷ u ∷ ts) o is = led_spelled t u ts o is

some_operands : (os : List Operand) (ts : List Token) → WithCommas SpellsOperand os ts → SpellsOperands os ts
some_operands [] ts none = absurd none
some_operands (o ∷ os) ts spelled = spelled

pub operands_spelled : (ts : List Token) (os : List Operand) → operands_of ts ≡ Ok os → SpellsOperands os ts
unfolding operands_of
operands_spelled [] os is = let same : [] ≡ os = ok_is [] os is in subst (λ (ps : List Operand). SpellsOperands ps []) same refl
operands_spelled (t ∷ ts) os is = some_operands os (t ∷ ts) (commas_spelled operand_of SpellsOperand operand_spelled (t ∷ ts) os is)
