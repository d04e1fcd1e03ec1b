-- No row has two operands in one part, so each part has what its operand puts there.
use Rattle.std.proofs.Common.{◌≡◌, ◌∙◌, ℕ, ◌+◌, List, Contains, refl, sym, ap, subst, arith, Bool, true, false, not, ◌&&◌, ◌||◌, Some}
use Rattle.std.specs.Prelude.{ℤ, pos, slice_get}
use Rattle.std.specs.List.{list_all}
use Rattle.std.proofs.lemmas.Option.{get_or_from_slice_get, slice_get_within}
use Rattle.isa.specs.declared.form.Place.{Place}
use Rattle.isa.specs.declared.form.Place.TheVariants as places
use Rattle.isa.specs.declared.form.Form.{Form}
use Rattle.isa.specs.declared.form.Values.{Values}
use Rattle.isa.specs.declared.row.Kind.{Kind}
use Rattle.isa.specs.declared.row.Kind.TheVariants as kinds
use Rattle.isa.specs.declared.row.Row.{Row}
use Rattle.isa.specs.Row.{first_of, second_of}
use Rattle.isa.specs.Encoding.{displacement_field}
use Rattle.isa.specs.Table.{rows}
use Rattle.isa.proofs.Rows.{each}
use Rattle.assembler_form.specs.declared.operand.KnownOperand.{KnownOperand}
use Rattle.assembler_form.specs.declared.asked.Asked.{Asked}
use Rattle.assembler_form.specs.declared.fields.Numbers.{Numbers}
use Rattle.assembler_form.specs.Fields.{displacement_in, field_kind, field_kind_of, number_in, segment_in, values_of}
use Rattle.assembler_form.specs.OperandBytes.{first_place, form_with, in_opcode, in_place, in_reg}
use Rattle.assembler_form.specs.Kinds.{is_of}
use Rattle.assembler_form.specs.Takes.{Takes}
use Rattle.assembler_form.proofs.Alike.{in_steps}
use Rattle.assembler_form.proofs.FieldRanges.{values_are}
use Rattle.assembler_laws.specs.SameMeaning.{FormsMeanWhatIsAsked}
use Rattle.assembler_laws.proofs.ChosenForms.{kind_means, Puts}

-- ---- which parts an operand of a kind has
abbrev pub has_code : Kind → Bool
has_code kinds.Code8 = true
has_code kinds.Code16 = true
has_code kinds.CodeSegment = true
has_code kinds.CodeSegmentNotCs = true
has_code kinds.EscNumber = true
has_code _ = false

abbrev pub has_reg : Kind → Bool
has_reg kinds.Reg8 = true
has_reg kinds.Reg16 = true
has_reg kinds.Segment = true
has_reg kinds.SegmentNotCs = true
has_reg kinds.EscNumber = true
has_reg _ = false

abbrev pub has_place : Kind → Bool
has_place kinds.Rm8 = true
has_place kinds.Rm16 = true
has_place kinds.Memory = true
has_place _ = false

abbrev pub has_field : Kind → Bool
has_field kinds.Imm8 = true
has_field kinds.Imm16 = true
has_field kinds.Signed8 = true
has_field kinds.Rel8 = true
has_field kinds.Rel16 = true
has_field kinds.At8 = true
has_field kinds.At16 = true
has_field kinds.Far = true
has_field _ = false

no_code : (k : Kind) (x : KnownOperand) → has_code k ≡ false → in_opcode k x ≡ 0
no_code kinds.Code8 x e = cc
no_code kinds.Code16 x e = cc
no_code kinds.CodeSegment x e = cc
no_code kinds.CodeSegmentNotCs x e = cc
no_code kinds.EscNumber x e = cc
no_code _ x e = refl

no_reg : (k : Kind) (x : KnownOperand) → has_reg k ≡ false → in_reg k x ≡ 0
no_reg kinds.Reg8 x e = cc
no_reg kinds.Reg16 x e = cc
no_reg kinds.Segment x e = cc
no_reg kinds.SegmentNotCs x e = cc
no_reg kinds.EscNumber x e = cc
no_reg _ x e = refl

no_place : (k : Kind) (x : KnownOperand) → has_place k ≡ false → in_place k x ≡ places.Absent
no_place kinds.Rm8 x e = cc
no_place kinds.Rm16 x e = cc
no_place kinds.Memory x e = cc
no_place _ x e = refl

pub first_field : (k l : Kind) → has_field k ≡ true → field_kind_of k l ≡ k
first_field kinds.Imm8 l e = refl
first_field kinds.Imm16 l e = refl
first_field kinds.Signed8 l e = refl
first_field kinds.Rel8 l e = refl
first_field kinds.Rel16 l e = refl
first_field kinds.At8 l e = refl
first_field kinds.At16 l e = refl
first_field kinds.Far l e = refl
first_field _ l e = cc

pub second_field : (k l : Kind) → has_field k ≡ false → field_kind_of k l ≡ l
second_field kinds.Imm8 l e = cc
second_field kinds.Imm16 l e = cc
second_field kinds.Signed8 l e = cc
second_field kinds.Rel8 l e = cc
second_field kinds.Rel16 l e = cc
second_field kinds.At8 l e = cc
second_field kinds.At16 l e = cc
second_field kinds.Far l e = cc
second_field _ l e = refl

-- ---- no row has two operands in one part
abbrev one_of : Bool → Bool → Bool
one_of a b = not a || not b

abbrev are_apart : Row → Bool
are_apart r =
    one_of (has_code (first_of r)) (has_code (second_of r))
    && (one_of (has_reg (first_of r)) (has_reg (second_of r))
    && (one_of (has_place (first_of r)) (has_place (second_of r))
    && one_of (has_field (first_of r)) (has_field (second_of r))))

all_are_apart : list_all are_apart rows ≡ true
unfolding rows
all_are_apart = refl

not_second : (a b : Bool) → one_of a b ≡ true → a ≡ true → b ≡ false
not_second true false e is = refl
not_second true true e is = absurd (let never : false ≡ true = e in cc)
not_second false b e is = absurd (let never : false ≡ true = is in cc)

not_first : (a b : Bool) → one_of a b ≡ true → b ≡ true → a ≡ false
not_first false b e is = refl
not_first true true e is = absurd (let never : false ≡ true = e in cc)
not_first true false e is = absurd (let never : false ≡ true = is in cc)

four : (a b c d : Bool) → (a && (b && (c && d))) ≡ true → (a ≡ true) × (b ≡ true) × (c ≡ true) × (d ≡ true)
four true true true true e = (refl, refl, refl, refl)
four true true true false e = absurd (let never : false ≡ true = e in cc)
four true true false d e = absurd (let never : false ≡ true = e in cc)
four true false c d e = absurd (let never : false ≡ true = e in cc)
four false b c d e = absurd (let never : false ≡ true = e in cc)

-- ---- what stands in a kind's parts
record HasParts (f : Form) (v : Values) (next : ℤ) (n : Numbers) (k : Kind) (x : KnownOperand) : Type 0 where
  pub code : has_code k ≡ true → f.code ≡ in_opcode k x
  pub reg : has_reg k ≡ true → f.reg ≡ in_reg k x
  pub place : has_place k ≡ true → f.place ≡ in_place k x
  pub displacement : displacement_in (displacement_field f.place) n.displacement ≡ Some v.displacement
  pub number : has_field k ≡ true → number_in k next n ≡ Some v.number
  pub segment : has_field k ≡ true → segment_in k n.segment ≡ Some v.segment

puts_of : (f : Form) (v : Values) (next : ℤ) (n : Numbers) (k : Kind) (x : KnownOperand) → HasParts f v next n k x → Puts f v next n k x
puts_of f v next n kinds.Code8 x parts = parts.code refl
puts_of f v next n kinds.Code16 x parts = parts.code refl
puts_of f v next n kinds.CodeSegment x parts = parts.code refl
puts_of f v next n kinds.CodeSegmentNotCs x parts = parts.code refl
puts_of f v next n kinds.EscNumber x parts = (parts.code refl, parts.reg refl)
puts_of f v next n kinds.Reg8 x parts = parts.reg refl
puts_of f v next n kinds.Reg16 x parts = parts.reg refl
puts_of f v next n kinds.Segment x parts = parts.reg refl
puts_of f v next n kinds.SegmentNotCs x parts = parts.reg refl
puts_of f v next n kinds.Rm8 x parts = (parts.place refl, parts.displacement)
puts_of f v next n kinds.Rm16 x parts = (parts.place refl, parts.displacement)
puts_of f v next n kinds.Memory x parts = (parts.place refl, parts.displacement)
puts_of f v next n kinds.Imm8 x parts = parts.number refl
puts_of f v next n kinds.Imm16 x parts = parts.number refl
puts_of f v next n kinds.Signed8 x parts = parts.number refl
puts_of f v next n kinds.Rel8 x parts = parts.number refl
puts_of f v next n kinds.Rel16 x parts = parts.number refl
puts_of f v next n kinds.At8 x parts = parts.number refl
puts_of f v next n kinds.At16 x parts = parts.number refl
puts_of f v next n kinds.Far x parts = (parts.number refl, parts.segment refl)
puts_of f v next n _ x parts = tt

-- ---- the parts of the form that is chosen
first_alone : (p : Place) → first_place p places.Absent ≡ p
first_alone places.Absent = refl
first_alone (places.Register _) = refl
first_alone places.Direct = refl
first_alone (places.Base _) = refl
first_alone (places.BaseByte _) = refl
first_alone (places.BaseWord _) = refl

pub record HasForm (f : Form) (a : Asked) : Type 0 where
  pub code : f.code ≡ in_opcode (first_of f.row) a.first + in_opcode (second_of f.row) a.second
  pub reg : f.reg ≡ in_reg (first_of f.row) a.first + in_reg (second_of f.row) a.second
  pub place : f.place ≡ first_place (in_place (first_of f.row) a.first) (in_place (second_of f.row) a.second)

pub has_form : (f : Form) (a : Asked) → f ≡ form_with f.row a → HasForm f a
unfolding form_with
has_form f a is = record { code = ap (λ (g : Form). g.code) is; reg = ap (λ (g : Form). g.reg) is; place = ap (λ (g : Form). g.place) is }

fields_are : (f : Form) (next : ℤ) (n : Numbers) (v : Values) → values_of f next n ≡ Some v
    → (displacement_in (displacement_field f.place) n.displacement ≡ Some v.displacement)
    × (number_in (field_kind f.row) next n ≡ Some v.number) × (segment_in (field_kind f.row) n.segment ≡ Some v.segment)
unfolding values_of
fields_are f next n v e =
    values_are (displacement_in (displacement_field f.place) n.displacement) (number_in (field_kind f.row) next n) (segment_in (field_kind f.row) n.segment) v e

plus_none : (a b c : ℕ) → a ≡ b + c → c ≡ 0 → a ≡ b
plus_none a b c is none = omega (arith, is, none)

none_plus : (a b c : ℕ) → a ≡ b + c → b ≡ 0 → a ≡ c
none_plus a b c is none = omega (arith, is, none)

first_parts : (f : Form) (a : Asked) (v : Values) (next : ℤ) (n : Numbers)
    → are_apart f.row ≡ true → HasForm f a → values_of f next n ≡ Some v → HasParts f v next n (first_of f.row) a.first
first_parts f a v next n apart is e =
    let k : Kind = first_of f.row in
    let l : Kind = second_of f.row in
    let ones =
    four (one_of (has_code k) (has_code l)) (one_of (has_reg k) (has_reg l)) (one_of (has_place k) (has_place l)) (one_of (has_field k) (has_field l)) apart in
    let fields = fields_are f next n v e in
    record {
      code = λ has.
          plus_none f.code (in_opcode k a.first) (in_opcode l a.second) is.code (no_code l a.second (not_second (has_code k) (has_code l) ones.0 has));
      reg = λ has. plus_none f.reg (in_reg k a.first) (in_reg l a.second) is.reg (no_reg l a.second (not_second (has_reg k) (has_reg l) ones.1 has));
      place = λ has.
          is.place ∙ (ap (first_place (in_place k a.first)) (no_place l a.second (not_second (has_place k) (has_place l) ones.2 has))
          ∙ first_alone (in_place k a.first));
      displacement = fields.0;
      number = λ has. subst (λ (m : Kind). number_in m next n ≡ Some v.number) (first_field k l has) fields.1;
      segment = λ has. subst (λ (m : Kind). segment_in m n.segment ≡ Some v.segment) (first_field k l has) fields.2;
    }

second_parts : (f : Form) (a : Asked) (v : Values) (next : ℤ) (n : Numbers)
    → are_apart f.row ≡ true → HasForm f a → values_of f next n ≡ Some v → HasParts f v next n (second_of f.row) a.second
second_parts f a v next n apart is e =
    let k : Kind = first_of f.row in
    let l : Kind = second_of f.row in
    let ones =
    four (one_of (has_code k) (has_code l)) (one_of (has_reg k) (has_reg l)) (one_of (has_place k) (has_place l)) (one_of (has_field k) (has_field l)) apart in
    let fields = fields_are f next n v e in
    record {
      code = λ has. none_plus f.code (in_opcode k a.first) (in_opcode l a.second) is.code (no_code k a.first (not_first (has_code k) (has_code l) ones.0 has));
      reg = λ has. none_plus f.reg (in_reg k a.first) (in_reg l a.second) is.reg (no_reg k a.first (not_first (has_reg k) (has_reg l) ones.1 has));
      place = λ has. is.place ∙ ap (λ (p : Place). first_place p (in_place l a.second)) (no_place k a.first (not_first (has_place k) (has_place l) ones.2 has));
      displacement = fields.0;
      number = λ has. subst (λ (m : Kind). number_in m next n ≡ Some v.number) (second_field k l (not_first (has_field k) (has_field l) ones.3 has)) fields.1;
      segment = λ has.
          subst (λ (m : Kind). segment_in m n.segment ≡ Some v.segment) (second_field k l (not_first (has_field k) (has_field l) ones.3 has)) fields.2;
    }

within_rows : (rs : List Row) (r : Row) (i : ℕ) → slice_get rs i ≡ Some r → Contains rs r
within_rows rs r i is = (i, slice_get_within rs i r is, get_or_from_slice_get rs i r r is)

pub forms_mean_what_is_asked : FormsMeanWhatIsAsked
forms_mean_what_is_asked a f v next n chosen e first_is second_is =
    let r : Row = f.row in
    let takes : Takes r a = chosen.first.takes in
    let apart : are_apart r ≡ true = each are_apart rows r all_are_apart (within_rows rows r chosen.first.place chosen.first.stands) in
    let is : HasForm f a = has_form f a chosen.parts in
    record {
      operation = takes.operation;
      first = kind_means f v next n (first_of r) a.first
          (subst (λ o. is_of o (first_of r) a.first ≡ true) (sym takes.operation) (in_steps a.operation (first_of r) a.first takes.first)) first_is
          (puts_of f v (pos next) n (first_of r) a.first (first_parts f a v (pos next) n apart is e));
      second = kind_means f v next n (second_of r) a.second
          (subst (λ o. is_of o (second_of r) a.second ≡ true) (sym takes.operation) (in_steps a.operation (second_of r) a.second takes.second)) second_is
          (puts_of f v (pos next) n (second_of r) a.second (second_parts f a v (pos next) n apart is e));
    }
