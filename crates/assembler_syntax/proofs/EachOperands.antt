-- Each spelling of an operand is read.
use Rattle.std.proofs.Common.{◌≡◌, ◌≢◌, ◌∙◌, Bool, true, false, List, [], ◌∷◌, ◌++◌, append_assoc, append-nil}
use Rattle.std.proofs.Common.{flat_map, refl, sym, ap, inl, inr, Option, Some, None, Result, Ok, Err}
use Rattle.isa.specs.declared.form.Base.{Base}
use Rattle.isa.specs.declared.form.Base.TheVariants as bases
use Rattle.isa.specs.declared.register.SegmentRegister.{SegmentRegister}
use Rattle.isa.specs.declared.register.WordRegister.{WordRegister}
use Rattle.isa.specs.declared.register.WordRegister.TheVariants.{Bx, Bp, Si, Di}
use Rattle.dialect.specs.declared.meaning.Meaning.TheVariants as meanings
use Rattle.dialect.specs.declared.keyword.Keyword.TheVariants as keywords
use Rattle.dialect.specs.declared.register.Register.{Register}
use Rattle.dialect.specs.declared.register.Register.TheVariants as registers
use Rattle.dialect.specs.declared.size.Size.{Size}
use Rattle.dialect.specs.declared.size.Size.TheVariants as sizes
use Rattle.assembler_lexeme.specs.declared.fault.SyntaxFault.{SyntaxFault}
use Rattle.assembler_lexeme.specs.declared.name.Name.{Name}
use Rattle.assembler_lexeme.specs.declared.token.Token.{Token}
use Rattle.assembler_lexeme.specs.declared.token.Token.TheVariants.{One, Number, Named, Word, Punctuator}
use Rattle.assembler_lexeme.specs.declared.token.Punctuator.TheVariants.{Colon, Plus, Minus, OpenBracket, CloseBracket, Dollar}
use Rattle.assembler_lexeme.specs.Faults.{◌>>=◌, wanted, all_of}
use Rattle.assembler_syntax.specs.declared.expression.Atom.{Atom}
use Rattle.assembler_syntax.specs.declared.expression.Term.{Term}
use Rattle.assembler_syntax.specs.declared.operand.Address.{Address}
use Rattle.assembler_syntax.specs.declared.operand.Operand.{Operand}
use Rattle.assembler_syntax.specs.declared.operand.Operand.TheVariants as operands
use Rattle.assembler_syntax.specs.PartSteps.{Signed, signed_part, signed_parts, onto_signed, parts, around, closed, is_colon, is_close_bracket}
use Rattle.assembler_syntax.specs.ExpressionSteps.{term_of, expression_of}
use Rattle.assembler_syntax.specs.OperandSteps.{base_with, with_register, terms_with, with_term, with_part, with_parts, empty_address}
use Rattle.assembler_syntax.specs.OperandSteps.{memory_of, value_of, brackets_of, far_of, far_target, operand_of, operands_of}
use Rattle.assembler_syntax.specs.StatementSteps.{is_equ}
use Rattle.assembler_syntax.specs.Spelling.{keyword, register, word, sign_token, segment_tokens, size_tokens}
use Rattle.assembler_syntax.specs.Spellings.{AddressPart, a_register, a_term, AreOfBase, Exactly, InTurn, leading_tokens, part_registers}
use Rattle.assembler_syntax.specs.Spellings.{part_terms, some_terms, SpellsAtom, SpellsExpression, SpellsFirstPart, SpellsInner}
use Rattle.assembler_syntax.specs.Spellings.{SpellsMoreParts, SpellsOperand, SpellsOperands, SpellsPart, SpellsParts, WithCommas}
use Rattle.assembler_syntax.proofs.Around.{AllPass, EachPasses, around_one, commas_pass, exactly_passes, fails, is_plain, pass_too, turn_passes}
use Rattle.assembler_syntax.proofs.EachTerms.{Begins, EachIsPart, IsPart, NoMinus, atom_is_part, atom_no_minus, begins_before}
use Rattle.assembler_syntax.proofs.EachTerms.{begins_some, begins_value, expression_begins, expression_read, led, of_atoms}
use Rattle.assembler_syntax.proofs.EachTerms.{parts_are, plain_expression, plain_first_term, plain_next_term, term_read}
use Rattle.assembler_syntax.proofs.EachLists.{Whole, commas_read, is_calm, keeps_calm, plain_is_calm}
use Rattle.assembler_syntax.proofs.BackTerms.{after_signs}

-- ---- what the parts in brackets come to
abbrev put : Address → AddressPart → Result Address SyntaxFault
put a (a_register r) = with_register a (registers.Word r)
put a (a_term t) = Ok (with_term a t)

abbrev put_all : Address → List AddressPart → Result Address SyntaxFault
put_all a [] = Ok a
put_all a (x ∷ xs) = put a x >>= λ b. put_all b xs

abbrev bases_with : Option Base → List WordRegister → Result (Option Base) SyntaxFault
bases_with before [] = Ok before
bases_with before (r ∷ rs) = wanted (base_with before r) >>= λ b. bases_with (Some b) rs

abbrev terms_more : Option (List Term) → List Term → Option (List Term)
terms_more before [] = before
terms_more before (t ∷ ts) = terms_more (Some (terms_with before t)) ts

abbrev address_with : Option Size → Option SegmentRegister → Option Base → Option (List Term) → Address
address_with size segment base displacement = record { size = size; segment = segment; base = base; displacement = displacement }

abbrev come_to : Address → List WordRegister → List Term → Result Address SyntaxFault
come_to a rs ts = bases_with a.base rs >>= λ b. Ok (address_with a.size a.segment b (terms_more a.displacement ts))

register_first : (a : Address) (w : Result Base SyntaxFault) (xs : List AddressPart) (rs : List WordRegister) (ts : List Term)
    → ((base : Base)
    → put_all (address_with a.size a.segment (Some base) a.displacement) xs ≡ come_to (address_with a.size a.segment (Some base) a.displacement) rs ts)
    → ((w >>= λ base. Ok (address_with a.size a.segment (Some base) a.displacement)) >>= λ b. put_all b xs)
    ≡ ((w >>= λ b. bases_with (Some b) rs) >>= λ b. Ok (address_with a.size a.segment b (terms_more a.displacement ts)))
register_first a (Ok base) xs rs ts more = more base
register_first a (Err fault) xs rs ts more = refl

all_put : (xs : List AddressPart) (a : Address) → put_all a xs ≡ come_to a (flat_map part_registers xs) (flat_map part_terms xs)
all_put [] a = refl
all_put (a_register r ∷ xs) a =
    register_first a (wanted (base_with a.base r)) xs (flat_map part_registers xs) (flat_map part_terms xs)
    (λ base. all_put xs (address_with a.size a.segment (Some base) a.displacement))
all_put (a_term t ∷ xs) a = all_put xs (with_term a t)

either_base : (b : Base) (r s : WordRegister) (rs : List WordRegister)
    → bases_with None (r ∷ s ∷ []) ≡ Ok (Some b) → rs ≡ r ∷ s ∷ [] → bases_with None rs ≡ Ok (Some b)
either_base b r s rs of is = ap (bases_with None) is ∙ of

base_is : (base : Option Base) (rs : List WordRegister) → AreOfBase base rs → bases_with None rs ≡ Ok base
base_is None rs is = ap (bases_with None) is
base_is (Some bases.BxSi) rs (inl is) = either_base bases.BxSi Bx Si rs refl is
base_is (Some bases.BxSi) rs (inr is) = either_base bases.BxSi Si Bx rs refl is
base_is (Some bases.BxDi) rs (inl is) = either_base bases.BxDi Bx Di rs refl is
base_is (Some bases.BxDi) rs (inr is) = either_base bases.BxDi Di Bx rs refl is
base_is (Some bases.BpSi) rs (inl is) = either_base bases.BpSi Bp Si rs refl is
base_is (Some bases.BpSi) rs (inr is) = either_base bases.BpSi Si Bp rs refl is
base_is (Some bases.BpDi) rs (inl is) = either_base bases.BpDi Bp Di rs refl is
base_is (Some bases.BpDi) rs (inr is) = either_base bases.BpDi Di Bp rs refl is
base_is (Some bases.Si) rs is = ap (bases_with None) is
base_is (Some bases.Di) rs is = ap (bases_with None) is
base_is (Some bases.Bp) rs is = ap (bases_with None) is
base_is (Some bases.Bx) rs is = ap (bases_with None) is

more_terms : (front ts : List Term) → terms_more (Some front) ts ≡ Some (front ++ ts)
more_terms front [] = ap (λ (ts : List Term). Some ts) (sym (append-nil front))
more_terms front (t ∷ ts) = more_terms (front ++ t ∷ []) ts ∙ ap (λ (ts : List Term). Some ts) (append_assoc front (t ∷ []) ts)

terms_are : (ts : List Term) → terms_more None ts ≡ some_terms ts
terms_are [] = refl
terms_are (t ∷ ts) = more_terms (t ∷ []) ts

-- ---- the parts in brackets
record IsSigned (x : AddressPart) (p : Signed) : Type 0 where
  is : IsPart p.tokens
  unled : NoMinus p.tokens
  read : (a : Address) → with_part a p ≡ put a x

register_signed : (r : WordRegister) → IsSigned (a_register r) (signed_part false (word r ∷ []))
unfolding with_part
register_signed r = record { is = λ n back rest is. ap (onto_signed n (word r)) is; unled = λ back. refl; read = λ a. refl }

abbrev NoRegister : Atom → List Token → Type 0
NoRegister atom us = (n : Bool) (a : Address) → with_part a (signed_part n us) ≡ (term_of (signed_part n us) >>= λ t. Ok (with_term a t))

no_register : (atom : Atom) (us : List Token) → SpellsAtom atom us → NoRegister atom us
unfolding with_part
no_register = of_atoms NoRegister (λ k n a. refl) (λ n a. refl) (λ name n a. refl) (λ n a. refl) (λ name n a. refl)

term_signed : (t : Term) (us : List Token) → SpellsAtom t.atom us → IsSigned (a_term t) (signed_part t.is_negative us)
term_signed t us is = record {
  is = atom_is_part t.atom us is;
  unled = atom_no_minus t.atom us is;
  read = λ a.
      no_register t.atom us is t.is_negative a ∙ ap (λ (r : Result Term SyntaxFault). r >>= λ t. Ok (with_term a t)) (term_read t.is_negative t.atom us is);
}

record Leads (tokens : Bool → List Token) (x : AddressPart) (ts : List Token) : Type 0 where
  part : Signed
  are : ts ≡ tokens part.is_negative ++ part.tokens
  signed : IsSigned x part

abbrev sign_tokens : Bool → List Token
sign_tokens n = sign_token n ∷ []

first_leads : (x : AddressPart) (ts : List Token) → SpellsFirstPart x ts → Leads leading_tokens x ts
first_leads (a_register r) ts is = record { part = signed_part false (word r ∷ []); are = is; signed = register_signed r }
first_leads (a_term t) ts is =
    let sign = led (leading_tokens t.is_negative) (SpellsAtom t.atom) ts is in
    record { part = signed_part t.is_negative sign.back; are = sign.are; signed = term_signed t sign.back sign.other }

next_leads : (x : AddressPart) (ts : List Token) → SpellsPart x ts → Leads sign_tokens x ts
next_leads (a_register r) ts is = record { part = signed_part false (word r ∷ []); are = is; signed = register_signed r }
next_leads (a_term t) ts is =
    let sign = led (sign_tokens t.is_negative) (SpellsAtom t.atom) ts is in
    record { part = signed_part t.is_negative sign.back; are = sign.are; signed = term_signed t sign.back sign.other }

record AreParts (xs : List AddressPart) (ts : List Token) : Type 0 where
  parts : List Signed
  are : ts ≡ after_signs parts
  each : EachIsPart parts
  read : (a : Address) → with_parts a parts ≡ put_all a xs

part_put : (a : Address) (p : Signed) (ps : List Signed) (x : AddressPart) (xs : List AddressPart)
    → with_part a p ≡ put a x → ((b : Address) → with_parts b ps ≡ put_all b xs) → with_parts a (p ∷ ps) ≡ put_all a (x ∷ xs)
part_put a p ps x xs one more = ap (λ (r : Result Address SyntaxFault). r >>= λ b. with_parts b ps) one ∙ following (put a x)
  where
    following : (r : Result Address SyntaxFault) → (r >>= λ b. with_parts b ps) ≡ (r >>= λ b. put_all b xs)
    following (Ok b) = more b
    following (Err fault) = refl

more_parts : (xs : List AddressPart) (ts : List Token) → SpellsMoreParts xs ts → AreParts xs ts
more_parts [] ts is = record { parts = []; are = is; each = tt; read = λ a. refl }
more_parts (x ∷ xs) ts is =
    let one = next_leads x is.front is.first in
    let more = more_parts xs is.back is.second in
    record {
      parts = one.part ∷ more.parts;
      are = is.are ∙ ap (λ (us : List Token). us ++ is.back) one.are
          ∙ ap (λ (us : List Token). sign_token one.part.is_negative ∷ (one.part.tokens ++ us)) more.are;
      each = (one.signed.is, more.each);
      read = λ a. part_put a one.part more.parts x xs (one.signed.read a) more.read;
    }

inner_put : (size : Option Size) (segment : Option SegmentRegister) (x : AddressPart) (xs : List AddressPart) (ts : List Token)
    → InTurn (SpellsFirstPart x) (SpellsMoreParts xs) ts
    → with_parts (empty_address size segment) (signed_parts ts) ≡ put_all (empty_address size segment) (x ∷ xs)
inner_put size segment x xs ts is =
    let one = first_leads x is.front is.first in
    let more = more_parts xs is.back is.second in
    let n : Bool = one.part.is_negative in
    ap (λ (us : List Token). with_parts (empty_address size segment) (signed_parts us))
    (is.are ∙ ap (λ (us : List Token). us ++ is.back) one.are ∙ append_assoc (leading_tokens n) one.part.tokens is.back
    ∙ ap (λ (us : List Token). leading_tokens n ++ (one.part.tokens ++ us)) more.are)
    ∙ ap (with_parts (empty_address size segment)) (parts_are one.part more.parts one.signed.is one.signed.unled more.each)
    ∙ part_put (empty_address size segment) one.part more.parts x xs (one.signed.read (empty_address size segment)) more.read

inner_read : (a : Address) (xs : List AddressPart) (ts : List Token) → SpellsParts xs ts → AreOfBase a.base (flat_map part_registers xs)
    → a.displacement ≡ some_terms (flat_map part_terms xs) → with_parts (empty_address a.size a.segment) (signed_parts ts) ≡ Ok a
inner_read a [] ts is base displacement = absurd is
inner_read a (x ∷ xs) ts is base displacement =
    let rs : List WordRegister = flat_map part_registers (x ∷ xs) in
    let terms : List Term = flat_map part_terms (x ∷ xs) in
    inner_put a.size a.segment x xs ts is
    ∙ all_put (x ∷ xs) (empty_address a.size a.segment)
    ∙ ap (λ (r : Result (Option Base) SyntaxFault). r >>= λ b. Ok (address_with a.size a.segment b (terms_more None terms))) (base_is a.base rs base)
    ∙ ap (λ (d : Option (List Term)). Ok (address_with a.size a.segment a.base d)) (terms_are terms ∙ sym displacement)

-- ---- a place in memory
part_plain : (x : AddressPart) → EachPasses is_plain (SpellsPart x)
part_plain (a_register r) = exactly_passes is_plain (Punctuator Plus ∷ word r ∷ []) refl
part_plain (a_term t) = plain_next_term t

first_plain : (x : AddressPart) → EachPasses is_plain (SpellsFirstPart x)
first_plain (a_register r) = exactly_passes is_plain (word r ∷ []) refl
first_plain (a_term t) = plain_first_term t

more_plain : (xs : List AddressPart) → EachPasses is_plain (SpellsMoreParts xs)
more_plain [] = exactly_passes is_plain [] refl
more_plain (x ∷ xs) = turn_passes is_plain (SpellsPart x) (SpellsMoreParts xs) (part_plain x) (more_plain xs)

parts_plain : (xs : List AddressPart) (ts : List Token) → SpellsParts xs ts → AllPass is_plain ts
parts_plain [] ts is = absurd is
parts_plain (x ∷ xs) ts is = turn_passes is_plain (SpellsFirstPart x) (SpellsMoreParts xs) (first_plain x) (more_plain xs) ts is

inner_plain : (a : Address) → EachPasses is_plain (SpellsInner a)
inner_plain a ts is = parts_plain is.parts ts is.spelled

open_passes : (t : Token) → is_plain t ≡ true → fails is_close_bracket t ≡ true
open_passes (Punctuator CloseBracket) is = cc
open_passes t is = refl

memory_read : (a : Address) (ts : List Token) → SpellsInner a ts → memory_of a.size a.segment (ts ++ Punctuator CloseBracket ∷ []) ≡ Ok (operands.Memory a)
unfolding memory_of
memory_read a ts is =
    ap (λ (found : Option (List Token × List Token)).
    closed found >>= λ inner. with_parts (empty_address a.size a.segment) (signed_parts inner) >>= λ b. Ok (operands.Memory b))
    (around_one is_close_bracket ts (Punctuator CloseBracket) [] (pass_too is_plain (fails is_close_bracket) open_passes ts (inner_plain a ts is)) refl)
    ∙ ap (λ (r : Result Address SyntaxFault). r >>= λ b. Ok (operands.Memory b)) (inner_read a is.parts ts is.spelled is.base is.displacement)

some_last : (ts : List Token) (t : Token) → ts ++ t ∷ [] ≢ []
some_last [] t none = cc
some_last (u ∷ ts) t none = cc

open_bracket : (ts : List Token) → ts ≢ [] → operand_of (Punctuator OpenBracket ∷ ts) ≡ memory_of None None ts
unfolding operand_of brackets_of
open_bracket [] some = absurd (some refl)
open_bracket (t ∷ ts) some = refl

segment_bracket : (s : SegmentRegister) (ts : List Token)
    → operand_of (register (registers.Segment s) ∷ Punctuator Colon ∷ Punctuator OpenBracket ∷ ts) ≡ memory_of None (Some s) ts
unfolding operand_of brackets_of
segment_bracket s ts = refl

size_bracket : (size : Size) (ts : List Token) → operand_of (size_tokens (Some size) ++ Punctuator OpenBracket ∷ ts) ≡ memory_of (Some size) None ts
unfolding operand_of brackets_of far_of
size_bracket sizes.Byte ts = refl
size_bracket sizes.Word ts = refl
size_bracket sizes.Far ts = refl

size_segment : (size : Size) (s : SegmentRegister) (ts : List Token)
    → operand_of (size_tokens (Some size) ++ (segment_tokens (Some s) ++ Punctuator OpenBracket ∷ ts)) ≡ memory_of (Some size) (Some s) ts
unfolding operand_of brackets_of far_of
size_segment sizes.Byte s ts = refl
size_segment sizes.Word s ts = refl
size_segment sizes.Far s ts = refl

-- a size, a segment register with its colon, and an open bracket
abbrev opening : Option Size → Option SegmentRegister → List Token
opening size segment = size_tokens size ++ (segment_tokens segment ++ Punctuator OpenBracket ∷ [])

place_of : (size : Option Size) (segment : Option SegmentRegister) (ts : List Token) → ts ≢ []
    → operand_of (opening size segment ++ ts) ≡ memory_of size segment ts
place_of None None ts some = open_bracket ts some
place_of None (Some s) ts some = segment_bracket s ts
place_of (Some sizes.Byte) None ts some = size_bracket sizes.Byte ts
place_of (Some sizes.Word) None ts some = size_bracket sizes.Word ts
place_of (Some sizes.Far) None ts some = size_bracket sizes.Far ts
place_of (Some sizes.Byte) (Some s) ts some = size_segment sizes.Byte s ts
place_of (Some sizes.Word) (Some s) ts some = size_segment sizes.Word s ts
place_of (Some sizes.Far) (Some s) ts some = size_segment sizes.Far s ts

address_read : (a : Address) (ts : List Token) → SpellsOperand (operands.Memory a) ts → operand_of ts ≡ Ok (operands.Memory a)
address_read a ts is =
    let inside = led (opening a.size a.segment) (InTurn (SpellsInner a) (Exactly (Punctuator CloseBracket ∷ []))) ts is in
    let inner = inside.other in
    ap operand_of (inside.are ∙ ap (λ (us : List Token). opening a.size a.segment ++ us) (inner.are ∙ ap (λ (us : List Token). inner.front ++ us) inner.second))
    ∙ place_of a.size a.segment (inner.front ++ Punctuator CloseBracket ∷ []) (some_last inner.front (Punctuator CloseBracket))
    ∙ memory_read a inner.front inner.first

-- ---- an expression
value_by : (t : Token) (ts : List Token) → begins_value t ≡ true → t ∷ ts ≢ One ∷ [] → operand_of (t ∷ ts) ≡ value_of (t ∷ ts)
unfolding operand_of brackets_of
value_by One [] is other = absurd (other refl)
value_by (Number n) [] is other = refl
value_by (Named name) [] is other = refl
value_by (Punctuator Dollar) [] is other = refl
value_by (Punctuator Minus) [] is other = refl
value_by (Word (meanings.Keyword keywords.Seg)) [] is other = refl
value_by One (u ∷ ts) is other = refl
value_by (Number n) (u ∷ ts) is other = refl
value_by (Named name) (u ∷ ts) is other = refl
value_by (Punctuator Dollar) (u ∷ ts) is other = refl
value_by (Punctuator Minus) (u ∷ ts) is other = refl
value_by (Word (meanings.Keyword keywords.Seg)) (u ∷ ts) is other = refl
value_by t ts is other = absurd (cc)

value_begins : (ts : List Token) → Begins ts → ts ≢ One ∷ [] → operand_of ts ≡ value_of ts
value_begins ts b other = ap operand_of b.are ∙ value_by b.first b.rest b.is (λ same. other (b.are ∙ same)) ∙ sym (ap value_of b.are)

value_is : (e : List Term) (ts : List Token) → SpellsExpression e ts → value_of ts ≡ Ok (operands.Value e)
unfolding value_of
value_is e ts is = ap (λ (r : Result (List Term) SyntaxFault). r >>= λ e. Ok (operands.Value e)) (expression_read e ts is)

value_read : (e : List Term) (ts : List Token) → SpellsExpression e ts → ts ≢ One ∷ [] → operand_of ts ≡ Ok (operands.Value e)
value_read e ts is other = value_begins ts (expression_begins e ts is) other ∙ value_is e ts is

-- ---- SHORT and FAR
short_by : (ts : List Token) → ts ≢ [] → operand_of (keyword keywords.Short ∷ ts) ≡ (expression_of ts >>= λ e. Ok (operands.Short e))
unfolding operand_of
short_by [] some = absurd (some refl)
short_by (t ∷ ts) some = refl

short_read : (e : List Term) (ts : List Token) → SpellsExpression e ts → operand_of (keyword keywords.Short ∷ ts) ≡ Ok (operands.Short e)
short_read e ts is =
    short_by ts (begins_some ts (expression_begins e ts is))
    ∙ ap (λ (r : Result (List Term) SyntaxFault). r >>= λ e. Ok (operands.Short e)) (expression_read e ts is)

far_by : (ts : List Token) → ts ≢ [] → operand_of (keyword keywords.Far ∷ ts) ≡ far_of ts
unfolding operand_of
far_by [] some = absurd (some refl)
far_by (t ∷ ts) some = refl

no_brackets_by : (t : Token) (ts : List Token) → begins_value t ≡ true → brackets_of (t ∷ ts) ≡ None
unfolding brackets_of
no_brackets_by One ts is = refl
no_brackets_by (Number n) ts is = refl
no_brackets_by (Named name) ts is = refl
no_brackets_by (Punctuator Dollar) ts is = refl
no_brackets_by (Punctuator Minus) ts is = refl
no_brackets_by (Word (meanings.Keyword keywords.Seg)) ts is = refl
no_brackets_by t ts is = absurd (cc)

no_brackets : (ts : List Token) → Begins ts → brackets_of ts ≡ None
no_brackets ts b = ap brackets_of b.are ∙ no_brackets_by b.first b.rest b.is

far_without_brackets : (ts : List Token) → brackets_of ts ≡ None → far_of ts ≡ far_target (around is_colon ts) ts
unfolding far_of
far_without_brackets ts none = rw none refl

no_colon_passes : (t : Token) → is_plain t ≡ true → fails is_colon t ≡ true
no_colon_passes (Punctuator Colon) is = cc
no_colon_passes t is = refl

pointer_read : (s o : List Term) (front back : List Token) → SpellsExpression s front → SpellsExpression o back
    → operand_of (keyword keywords.Far ∷ (front ++ Punctuator Colon ∷ back)) ≡ Ok (operands.FarPointer s o)
pointer_read s o front back is_s is_o =
    let tokens : List Token = front ++ Punctuator Colon ∷ back in
    let begins : Begins tokens = begins_before front (Punctuator Colon ∷ back) (expression_begins s front is_s) in
    far_by tokens (begins_some tokens begins)
    ∙ far_without_brackets tokens (no_brackets tokens begins)
    ∙ ap (λ (found : Option (List Token × List Token)). far_target found tokens)
    (around_one is_colon front (Punctuator Colon) back (pass_too is_plain (fails is_colon) no_colon_passes front (plain_expression s front is_s)) refl)
    ∙ ap (λ (r : Result (List Term) SyntaxFault). r >>= λ x. expression_of back >>= λ y. Ok (operands.FarPointer x y)) (expression_read s front is_s)
    ∙ ap (λ (r : Result (List Term) SyntaxFault). r >>= λ y. Ok (operands.FarPointer s y)) (expression_read o back is_o)

register_read : (r : Register) → operand_of (register r ∷ []) ≡ Ok (operands.Register r)
unfolding operand_of
register_read r = refl

one_is_read : operand_of (One ∷ []) ≡ Ok operands.One
unfolding operand_of
one_is_read = refl

label_read : (label : Name) → operand_of (keyword keywords.Far ∷ Named label ∷ []) ≡ Ok (operands.FarLabel label)
unfolding operand_of far_of brackets_of
label_read label = refl

operand_read : (op : Operand) (ts : List Token) → SpellsOperand op ts → operand_of ts ≡ Ok op
operand_read (operands.Register r) ts is = ap operand_of is ∙ register_read r
operand_read operands.One ts is = ap operand_of is ∙ one_is_read
operand_read (operands.Value e) ts is = value_read e ts is.0 is.1
operand_read (operands.Memory a) ts is = address_read a ts is
operand_read (operands.Short e) ts is =
    let target = led (keyword keywords.Short ∷ []) (SpellsExpression e) ts is in ap operand_of target.are ∙ short_read e target.back target.other
operand_read (operands.FarLabel label) ts is = ap operand_of is ∙ label_read label
operand_read (operands.FarPointer s o) ts is =
    let target = led (keyword keywords.Far ∷ []) (InTurn (SpellsExpression s) (InTurn (Exactly (Punctuator Colon ∷ [])) (SpellsExpression o))) ts is in
    let first = target.other in
    let following = led (Punctuator Colon ∷ []) (SpellsExpression o) first.back first.second in
    ap operand_of (target.are ∙ ap (λ (us : List Token). keyword keywords.Far ∷ us) (first.are ∙ ap (λ (us : List Token). first.front ++ us) following.are))
    ∙ pointer_read s o first.front following.back first.first following.other

-- ---- operands
calm_expression : (e : List Term) → EachPasses is_calm (SpellsExpression e)
calm_expression e ts is = pass_too is_plain is_calm plain_is_calm ts (plain_expression e ts is)

calm_opening : (size : Option Size) (segment : Option SegmentRegister) → AllPass is_calm (opening size segment)
calm_opening None None = refl
calm_opening None (Some s) = refl
calm_opening (Some sizes.Byte) None = refl
calm_opening (Some sizes.Word) None = refl
calm_opening (Some sizes.Far) None = refl
calm_opening (Some sizes.Byte) (Some s) = refl
calm_opening (Some sizes.Word) (Some s) = refl
calm_opening (Some sizes.Far) (Some s) = refl

calm_inner : (a : Address) → EachPasses is_calm (SpellsInner a)
calm_inner a ts is = pass_too is_plain is_calm plain_is_calm ts (inner_plain a ts is)

calm_operand : (op : Operand) → EachPasses is_calm (SpellsOperand op)
calm_operand (operands.Register r) = exactly_passes is_calm (register r ∷ []) refl
calm_operand operands.One = exactly_passes is_calm (One ∷ []) refl
calm_operand (operands.Value e) = λ ts is. calm_expression e ts is.0
calm_operand (operands.Memory a) =
    turn_passes is_calm (Exactly (opening a.size a.segment)) (InTurn (SpellsInner a) (Exactly (Punctuator CloseBracket ∷ [])))
    (exactly_passes is_calm (opening a.size a.segment) (calm_opening a.size a.segment))
    (turn_passes is_calm (SpellsInner a) (Exactly (Punctuator CloseBracket ∷ [])) (calm_inner a) (exactly_passes is_calm (Punctuator CloseBracket ∷ []) refl))
calm_operand (operands.Short e) =
    turn_passes is_calm (Exactly (keyword keywords.Short ∷ [])) (SpellsExpression e)
    (exactly_passes is_calm (keyword keywords.Short ∷ []) refl) (calm_expression e)
calm_operand (operands.FarLabel label) = exactly_passes is_calm (keyword keywords.Far ∷ Named label ∷ []) refl
calm_operand (operands.FarPointer s o) =
    turn_passes is_calm (Exactly (keyword keywords.Far ∷ [])) (InTurn (SpellsExpression s) (InTurn (Exactly (Punctuator Colon ∷ [])) (SpellsExpression o)))
    (exactly_passes is_calm (keyword keywords.Far ∷ []) refl)
    (turn_passes is_calm (SpellsExpression s) (InTurn (Exactly (Punctuator Colon ∷ [])) (SpellsExpression o)) (calm_expression s)
    (turn_passes is_calm (Exactly (Punctuator Colon ∷ [])) (SpellsExpression o) (exactly_passes is_calm (Punctuator Colon ∷ []) refl) (calm_expression o)))

whole_operand : (op : Operand) (ts : List Token) → SpellsOperand op ts → Whole ts
whole_operand op ts is = keeps_calm false ts (calm_operand op ts is)

-- no operand is without tokens
abbrev IsSome : List Token → Type 0
IsSome ts = ts ≢ []

led_some : (t : Token) (more : List Token) (Other : List Token → Type 0) (ts : List Token) → InTurn (Exactly (t ∷ more)) Other ts → IsSome ts
led_some t more Other ts is none =
    let of = led (t ∷ more) Other ts is in
    let never : [] ≡ t ∷ (more ++ of.back) = sym none ∙ of.are in cc

exactly_some : (t : Token) (more ts : List Token) → Exactly (t ∷ more) ts → IsSome ts
exactly_some t more ts is none = let never : [] ≡ t ∷ more = sym none ∙ is in cc

opening_some : (a : Address) (ts : List Token) → SpellsOperand (operands.Memory a) ts → IsSome ts
opening_some a ts is none = by_opening a.size a.segment is.front is.back (sym none ∙ is.are) is.first
  where
    by_opening : (size : Option Size) (segment : Option SegmentRegister) (front back : List Token) → [] ≡ front ++ back → front ≡ opening size segment → ⊥
    by_opening None None [] back are is = let never : [] ≡ opening None None = is in cc
    by_opening None (Some s) [] back are is = let never : [] ≡ opening None (Some s) = is in cc
    by_opening (Some sizes.Byte) segment [] back are is = cc
    by_opening (Some sizes.Word) segment [] back are is = cc
    by_opening (Some sizes.Far) segment [] back are is = cc
    by_opening size segment (t ∷ ts) back are is = cc

operand_some : (op : Operand) (ts : List Token) → SpellsOperand op ts → IsSome ts
operand_some (operands.Register r) ts is = exactly_some (register r) [] ts is
operand_some operands.One ts is = exactly_some One [] ts is
operand_some (operands.Value e) ts is = begins_some ts (expression_begins e ts is.0)
operand_some (operands.Memory a) ts is = opening_some a ts is
operand_some (operands.Short e) ts is = led_some (keyword keywords.Short) [] (SpellsExpression e) ts is
operand_some (operands.FarLabel label) ts is = exactly_some (keyword keywords.Far) (Named label ∷ []) ts is
operand_some (operands.FarPointer s o) ts is =
    led_some (keyword keywords.Far) [] (InTurn (SpellsExpression s) (InTurn (Exactly (Punctuator Colon ∷ [])) (SpellsExpression o))) ts is

front_some : (front back : List Token) → IsSome front → IsSome (front ++ back)
front_some [] back some none = some refl
front_some (t ∷ front) back some none = cc

commas_some : (ops : List Operand) (ts : List Token) → WithCommas SpellsOperand ops ts → IsSome ts
commas_some [] ts is none = is
commas_some (op ∷ []) ts is none = operand_some op ts is none
commas_some (op ∷ next ∷ ops) ts is none = front_some is.front is.back (operand_some op is.front is.first) (sym is.are ∙ none)

operands_by : (ts : List Token) → IsSome ts → operands_of ts ≡ all_of operand_of (parts ts)
unfolding operands_of
operands_by [] some = absurd (some refl)
operands_by (t ∷ ts) some = refl

no_operands : operands_of [] ≡ Ok []
unfolding operands_of
no_operands = refl

pub operands_read : (ops : List Operand) (ts : List Token) → SpellsOperands ops ts → operands_of ts ≡ Ok ops
operands_read [] ts is = ap operands_of is ∙ no_operands
operands_read (op ∷ ops) ts is =
    operands_by ts (commas_some (op ∷ ops) ts is) ∙ commas_read operand_of SpellsOperand whole_operand operand_read (op ∷ ops) ts is

-- ---- no EQU is among the tokens of an operand
pub calm_no_equ : (t : Token) → is_calm t ≡ true → fails is_equ t ≡ true
calm_no_equ (Word (meanings.Keyword keywords.Equ)) is = cc
calm_no_equ t is = refl

operand_no_equ : (op : Operand) → EachPasses (fails is_equ) (SpellsOperand op)
operand_no_equ op ts is = pass_too is_calm (fails is_equ) calm_no_equ ts (calm_operand op ts is)

pub operands_no_equ : (ops : List Operand) → EachPasses (fails is_equ) (SpellsOperands ops)
operands_no_equ [] = exactly_passes (fails is_equ) [] refl
operands_no_equ (op ∷ ops) = commas_pass (fails is_equ) refl SpellsOperand operand_no_equ (op ∷ ops)
