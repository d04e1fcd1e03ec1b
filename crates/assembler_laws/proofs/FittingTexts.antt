-- The numbers of the text of an instruction are in range.
use Rattle.std.proofs.Common.{◌≡◌, ◌∙◌, ℕ, ◌<◌, refl, sym, ap, subst, arith, Bool, true, false, ◌&&◌, nat_le, nat_lt, if◌then◌else◌, Option, None, Some}
use Rattle.std.specs.Prelude.{ℤ, pos, negsuc, ◌-ℤ◌, IsTrue}
use Rattle.std.proofs.lemmas.Bool.{and_parts}
use Rattle.std.proofs.lemmas.Bool.Decides.{nat_tests}
use Rattle.isa.specs.declared.operation.Operation.{Operation}
use Rattle.isa.specs.declared.form.Base.{Base as BaseType}
use Rattle.isa.specs.declared.form.Base.TheVariants as bases
use Rattle.isa.specs.declared.form.Place.{Place}
use Rattle.isa.specs.declared.form.Place.TheVariants.{BaseByte, BaseWord}
use Rattle.isa.specs.declared.form.Place.TheVariants as places
use Rattle.isa.specs.declared.form.Form.{Form}
use Rattle.isa.specs.declared.form.Values.{Values}
use Rattle.isa.specs.declared.row.Kind.{Kind}
use Rattle.isa.specs.declared.row.Kind.TheVariants as kinds
use Rattle.isa.specs.Row.{first_of, second_of}
use Rattle.isa.specs.Encoding.{displacement_field}
use Rattle.assembler_form.specs.declared.operand.Number.TheVariants.{Constant}
use Rattle.assembler_form.specs.declared.operand.KnownOperand.{KnownOperand}
use Rattle.assembler_form.specs.declared.operand.KnownOperand.TheVariants as known
use Rattle.assembler_form.specs.declared.asked.Asked.{Asked}
use Rattle.assembler_form.specs.declared.fields.Numbers.{Numbers}
use Rattle.assembler_form.specs.Fields.{byte_of, displacement_in, field_kind, modulo, number_in, segment_in, signed_byte_of, values_of, values_with, word_of}
use Rattle.assembler_form.specs.OperandBytes.{first_place, in_place, place_at, place_of, place_without}
use Rattle.assembler_form.specs.Kinds.{is_direct, is_far_target, is_of}
use Rattle.assembler_form.specs.Takes.{is_constant_within, is_within, Takes}
use Rattle.assembler_form.proofs.Alike.{in_steps}
use Rattle.assembler_laws.specs.SameMeaning.{AreOf, IsWord}
use Rattle.assembler_laws.specs.Fitting.{FitsByte, NumbersFit}
use Rattle.assembler_laws.proofs.ChosenForms.{a_word}
use Rattle.assembler_laws.proofs.ChosenRows.{first_field, has_field, has_form, second_field, HasForm}

-- there is a number
abbrev pub IsThere : Option ℕ → Type 0
IsThere o = (w : ℕ) × (o ≡ Some w)

there_by : (b : Bool) (m : ℕ) → b ≡ true → IsThere (if b then Some m else None)
there_by true m e = (m, refl)
there_by false m e = absurd (let never : false ≡ true = e in cc)

byte_there : (x : ℕ) → x < 256 → IsThere (byte_of (pos x))
byte_there x small = there_by (is_within (negsuc 127) (pos 255) (pos x)) (modulo 256 (pos x)) (low x small)
  where
    low : (x : ℕ) → x < 256 → (true && nat_le x 255) ≡ true
    low x small = grind (arith, nat_tests)

word_there : (x : ℕ) → x < 65536 → IsThere (word_of (pos x))
word_there x small = there_by (is_within (negsuc 32767) (pos 65535) (pos x)) (modulo 65536 (pos x)) (low x small)
  where
    low : (x : ℕ) → x < 65536 → (true && nat_le x 65535) ≡ true
    low x small = grind (arith, nat_tests)

zero_there : (b : BaseType) (d : ℕ) → d ≡ 0 → IsThere (displacement_in (displacement_field (place_without b)) (pos d))
zero_there bases.Bp d is = subst (λ (k : ℕ). IsThere (signed_byte_of (pos k))) (sym is) (0, refl)
zero_there bases.BxSi d is = (0, refl)
zero_there bases.BxDi d is = (0, refl)
zero_there bases.BpSi d is = (0, refl)
zero_there bases.BpDi d is = (0, refl)
zero_there bases.Si d is = (0, refl)
zero_there bases.Di d is = (0, refl)
zero_there bases.Bx d is = (0, refl)

based_there : (b : BaseType) (d : ℕ) → d < 65536 → (none near : Bool) → nat_lt d 1 ≡ none → is_within (negsuc 127) (pos 127) (pos d) ≡ near
    → IsThere (displacement_in (displacement_field (if none then place_without b else (if near then BaseByte b else BaseWord b))) (pos d))
based_there b d small true near none_is near_is = let zero_is : d ≡ 0 = grind (arith, nat_tests) in zero_there b d zero_is
based_there b d small false true none_is near_is = there_by (is_within (negsuc 127) (pos 127) (pos d)) (modulo 256 (pos d)) near_is
based_there b d small false false none_is near_is = word_there d small

place_there : (base : Option BaseType) (d : ℕ) → d < 65536 → IsThere (displacement_in (displacement_field (place_at base (Constant (pos d)))) (pos d))
place_there None d small = word_there d small
place_there (Some b) d small = based_there b d small (nat_lt d 1) (is_within (negsuc 127) (pos 127) (pos d)) refl refl

operand_place_there : (x : KnownOperand) (n : Numbers) → AreOf x n → IsThere (displacement_in (displacement_field (place_of x)) n.displacement)
operand_place_there (known.Memory m) n of =
    let at : place_at m.base m.displacement ≡ place_at m.base (Constant (pos of.0.value)) = ap (place_at m.base) (of.1 ∙ ap Constant of.0.is) in
    subst (λ (p : Place). IsThere (displacement_in (displacement_field p) n.displacement)) (sym at)
    (subst (λ (z : ℤ). IsThere (displacement_in (displacement_field (place_at m.base (Constant (pos of.0.value)))) z))
    (sym of.0.is) (place_there m.base of.0.value of.0.small))
operand_place_there known.Nothing n of = (0, refl)
operand_place_there (known.Register r) n of = (0, refl)
operand_place_there known.One n of = (0, refl)
operand_place_there (known.Number c) n of = (0, refl)
operand_place_there known.Short n of = (0, refl)
operand_place_there known.Far n of = (0, refl)

-- ---- the number of a kind
word_number_there : (z : ℤ) → IsWord z → IsThere (word_of z)
word_number_there z word = subst (λ (y : ℤ). IsThere (word_of y)) (sym word.is) (word_there word.value word.small)

constant_there : (x : KnownOperand) (n : Numbers) → IsTrue (is_constant_within (negsuc 127) (pos 127) x) → AreOf x n → IsThere (signed_byte_of n.number)
constant_there known.One n is of = subst (λ (z : ℤ). IsThere (signed_byte_of z)) (sym of) (1, refl)
constant_there (known.Number (Constant c)) n is of =
    let same : c ≡ n.number = (let e : Constant c ≡ Constant n.number = of.1 in cc) in
    subst (λ (z : ℤ). IsThere (signed_byte_of z)) same (there_by (is_within (negsuc 127) (pos 127) c) (modulo 256 c) is)
constant_there _ n is of = cc

direct_there : (x : KnownOperand) (n : Numbers) → IsTrue (is_direct x) → AreOf x n → IsThere (word_of n.displacement)
direct_there (known.Memory m) n is of = word_number_there n.displacement of.0
direct_there _ n is of = cc

far_there : (x : KnownOperand) (n : Numbers) → IsTrue (is_far_target x) → AreOf x n → IsThere (word_of n.number) × IsThere (word_of n.segment)
far_there known.Far n is of = (word_number_there n.number of.1, word_number_there n.segment of.0)
far_there _ n is of = cc

number_there : (op : Operation) (k : Kind) (x : KnownOperand) (next : ℕ) (n : Numbers) → IsTrue (is_of op k x) → AreOf x n → FitsByte k next n
    → IsThere (number_in k (pos next) n) × IsThere (segment_in k n.segment)
number_there op kinds.Imm8 x next n is of fits = (subst (λ (z : ℤ). IsThere (byte_of z)) (sym fits.1) (byte_there fits.0 fits.2), (0, refl))
number_there op kinds.Imm16 x next n is of fits = (word_number_there n.number (a_word x n is of).0, (0, refl))
number_there op kinds.Signed8 x next n is of fits = (constant_there x n is of, (0, refl))
number_there op kinds.Rel8 x next n is of fits =
    (there_by (is_within (negsuc 127) (pos 127) (n.number -ℤ pos next)) (modulo 256 (n.number -ℤ pos next)) fits, (0, refl))
number_there op kinds.Rel16 x next n is of fits = ((modulo 65536 (n.number -ℤ pos next), refl), (0, refl))
number_there op kinds.At8 x next n is of fits = (direct_there x n (and_parts _ _ is).0 of, (0, refl))
number_there op kinds.At16 x next n is of fits = (direct_there x n (and_parts _ _ is).0 of, (0, refl))
number_there op kinds.Far x next n is of fits = far_there x n is of
number_there op _ x next n is of fits = ((0, refl), (0, refl))

-- ---- all numbers of the form that is chosen
all_there : (a b c : Option ℕ) → IsThere a → IsThere b → IsThere c → (v : Values) × (values_with a b c ≡ Some v)
all_there a b c one two three =
    let v : Values = record { displacement = one.0; number = two.0; segment = three.0 } in (
      v,
      rw (one.1, two.1, three.1) refl,
    )

field_there : (f : Form) (a : Asked) (next : ℕ) (n : Numbers) → Takes f.row a → AreOf a.first n → AreOf a.second n → FitsByte (field_kind f.row) next n
    → (b : Bool) → has_field (first_of f.row) ≡ b → IsThere (number_in (field_kind f.row) (pos next) n) × IsThere (segment_in (field_kind f.row) n.segment)
field_there f a next n takes one two fits true e =
    let is : field_kind f.row ≡ first_of f.row = first_field (first_of f.row) (second_of f.row) e in
    subst (λ (k : Kind). IsThere (number_in k (pos next) n) × IsThere (segment_in k n.segment)) (sym is)
    (number_there a.operation (first_of f.row) a.first next n
    (in_steps a.operation (first_of f.row) a.first takes.first) one (subst (λ (k : Kind). FitsByte k next n) is fits))
field_there f a next n takes one two fits false e =
    let is : field_kind f.row ≡ second_of f.row = second_field (first_of f.row) (second_of f.row) e in
    subst (λ (k : Kind). IsThere (number_in k (pos next) n) × IsThere (segment_in k n.segment)) (sym is)
    (number_there a.operation (second_of f.row) a.second next n
    (in_steps a.operation (second_of f.row) a.second takes.second) two (subst (λ (k : Kind). FitsByte k next n) is fits))

kind_place_there : (k : Kind) (x : KnownOperand) (n : Numbers) → AreOf x n → IsThere (displacement_in (displacement_field (in_place k x)) n.displacement)
kind_place_there kinds.Rm8 x n of = operand_place_there x n of
kind_place_there kinds.Rm16 x n of = operand_place_there x n of
kind_place_there kinds.Memory x n of = operand_place_there x n of
kind_place_there _ x n of = (0, refl)

either_place : (p q : Place) (n : ℤ) → IsThere (displacement_in (displacement_field p) n) → IsThere (displacement_in (displacement_field q) n)
    → IsThere (displacement_in (displacement_field (first_place p q)) n)
either_place places.Absent q n one two = two
either_place (places.Register r) q n one two = one
either_place places.Direct q n one two = one
either_place (places.Base b) q n one two = one
either_place (places.BaseByte b) q n one two = one
either_place (places.BaseWord b) q n one two = one

pub numbers_fit : NumbersFit
unfolding values_of
numbers_fit a f next n chosen one two fits =
    let is : HasForm f a = has_form f a chosen.parts in
    let place : IsThere (displacement_in (displacement_field f.place) n.displacement) =
    subst (λ (p : Place). IsThere (displacement_in (displacement_field p) n.displacement)) (sym is.place)
    (either_place (in_place (first_of f.row) a.first) (in_place (second_of f.row) a.second) n.displacement
    (kind_place_there (first_of f.row) a.first n one) (kind_place_there (second_of f.row) a.second n two)) in
    let field = field_there f a next n chosen.first.takes one two fits (has_field (first_of f.row)) refl in
    all_there (displacement_in (displacement_field f.place) n.displacement)
    (number_in (field_kind f.row) (pos next) n) (segment_in (field_kind f.row) n.segment) place field.0 field.1
