-- The numbers fit the form's fields.
use Rattle.std.proofs.Common.{ℕ, ◌≡◌, ◌<◌, Bool, true, false, cond, refl, sym, ap, subst, arith, lit<, Option, Some, None}
use Rattle.std.specs.Prelude.{ℤ, pos, negsuc, ◌-ℤ◌}
use Rattle.isa.specs.declared.layout.Field.{Field}
use Rattle.isa.specs.declared.layout.Field.TheVariants.{Absent, Byte, Word, Far}
use Rattle.isa.specs.declared.row.Kind.{Kind}
use Rattle.isa.specs.declared.row.Kind.TheVariants as kinds
use Rattle.isa.specs.declared.form.Form.{Form}
use Rattle.isa.specs.declared.form.Values.{Values}
use Rattle.isa.specs.Row.{first_of, second_of}
use Rattle.isa.specs.Layout.{first_field, kind_field}
use Rattle.isa.specs.Encoding.{displacement_field, FitsField, FitsForm}
use Rattle.assembler_form.specs.declared.fields.Numbers.{Numbers}
use Rattle.assembler_form.specs.Takes.{is_within}
use Rattle.assembler_form.specs.Fields.{byte_of, displacement_in, field_kind, field_kind_of, modulo, number_in}
use Rattle.assembler_form.specs.Fields.{segment_in, signed_byte_of, values_of, values_with, word_of}

modulo_within : (m : ℕ) (n : ℤ) → 0 < m → modulo m n < m
modulo_within m (pos n) some = omega arith
modulo_within m (negsuc n) some = omega arith

some_within : (b : Bool) (m n v : ℕ) → n < m → cond b (Some n) None ≡ Some v → v < m
some_within true m n v within e = let is : n ≡ v = cc in omega arith
some_within false m n v within e = cc

byte_within : (n : ℤ) (v : ℕ) → byte_of n ≡ Some v → v < 256
byte_within n v e = some_within (is_within (negsuc 127) (pos 255) n) 256 (modulo 256 n) v (modulo_within 256 n (lit< tt)) e

signed_within : (n : ℤ) (v : ℕ) → signed_byte_of n ≡ Some v → v < 256
signed_within n v e = some_within (is_within (negsuc 127) (pos 127) n) 256 (modulo 256 n) v (modulo_within 256 n (lit< tt)) e

word_within : (n : ℤ) (v : ℕ) → word_of n ≡ Some v → v < 65536
word_within n v e = some_within (is_within (negsuc 32767) (pos 65535) n) 65536 (modulo 65536 n) v (modulo_within 65536 n (lit< tt)) e

displacement_fits : (f : Field) (n : ℤ) (v : ℕ) → displacement_in f n ≡ Some v → FitsField f v 0
displacement_fits Absent n v e = (cc, refl)
displacement_fits Byte n v e = (signed_within n v e, refl)
displacement_fits Word n v e = (word_within n v e, refl)
displacement_fits Far n v e = (word_within n v e, lit< tt)

number_fits : (k : Kind) (next : ℤ) (n : Numbers) (v s : ℕ) → number_in k next n ≡ Some v → segment_in k n.segment ≡ Some s → FitsField (kind_field k) v s
number_fits kinds.Imm8 next n v s e g = (byte_within n.number v e, cc)
number_fits kinds.Signed8 next n v s e g = (signed_within n.number v e, cc)
number_fits kinds.Imm16 next n v s e g = (word_within n.number v e, cc)
number_fits kinds.Far next n v s e g = (word_within n.number v e, word_within n.segment s g)
number_fits kinds.At8 next n v s e g = (word_within n.displacement v e, cc)
number_fits kinds.At16 next n v s e g = (word_within n.displacement v e, cc)
number_fits kinds.Rel8 next n v s e g = (signed_within (n.number -ℤ next) v e, cc)
number_fits kinds.Rel16 next n v s e g =
    (let is : modulo 65536 (n.number -ℤ next) ≡ v = cc in subst (λ x. x < 65536) is (modulo_within 65536 (n.number -ℤ next) (lit< tt)), cc)
number_fits _ next n v s e g = (cc, cc)

field_of_kind : (k l : Kind) → first_field (kind_field k) (kind_field l) ≡ kind_field (field_kind_of k l)
field_of_kind kinds.Imm8 l = refl
field_of_kind kinds.Imm16 l = refl
field_of_kind kinds.Signed8 l = refl
field_of_kind kinds.Rel8 l = refl
field_of_kind kinds.Rel16 l = refl
field_of_kind kinds.At8 l = refl
field_of_kind kinds.At16 l = refl
field_of_kind kinds.Far l = refl
field_of_kind _ l = refl

pub values_are : (a b c : Option ℕ) (v : Values) → values_with a b c ≡ Some v → (a ≡ Some v.displacement) × (b ≡ Some v.number) × (c ≡ Some v.segment)
values_are (Some a) (Some b) (Some c) v e =
    let is : record { displacement = a; number = b; segment = c } ≡ v = cc in
    (ap (λ x. Some x.displacement) is, ap (λ x. Some x.number) is, ap (λ x. Some x.segment) is)
values_are None b c v e = cc
values_are (Some a) None c v e = cc
values_are (Some a) (Some b) None v e = cc

pub values_fit : (f : Form) (next : ℤ) (n : Numbers) (v : Values) → values_of f next n ≡ Some v → FitsForm f v
unfolding values_of
values_fit f next n v e =
    let k : Kind = field_kind f.row in
    let are : (displacement_in (displacement_field f.place) n.displacement ≡ Some v.displacement)
    × (number_in k next n ≡ Some v.number) × (segment_in k n.segment ≡ Some v.segment) =
    values_are (displacement_in (displacement_field f.place) n.displacement) (number_in k next n) (segment_in k n.segment) v e in
    record {
      displacement = displacement_fits (displacement_field f.place) n.displacement v.displacement are.0;
      number = subst (λ x. FitsField x v.number v.segment) (sym (field_of_kind (first_of f.row) (second_of f.row)))
          (number_fits k next n v.number v.segment are.1 are.2);
    }
