-- What a row takes fits its parts. That no row has two operands in one part is computed from a test of one row.
use Rattle.std.specs.Option.{option_map}
use Rattle.std.proofs.Common.{ℕ, ◌≡◌, ◌≢◌, ◌+◌, ◌<◌, Bool, true, false, not, ◌&&◌, ◌||◌, cond, List}
use Rattle.std.proofs.Common.{Contains, refl, sym, subst, ap, arith, rules, lit<, Option, Some, None}
use Rattle.std.specs.Prelude.{IsTrue, pos, negsuc, slice_get}
use Rattle.std.proofs.lemmas.Bool.{and_parts}
use Rattle.std.proofs.lemmas.Bool.Decides.{nat_tests}
use Rattle.std.proofs.lemmas.Option.{get_or_from_slice_get, slice_get_within}
use Rattle.std.specs.List.{list_all}
use Rattle.isa.specs.declared.operation.Operation.{Operation}
use Rattle.isa.specs.declared.operation.Operation.TheVariants.{Control}
use Rattle.isa.specs.declared.register.ByteRegister.{ByteRegister}
use Rattle.isa.specs.declared.register.WordRegister.{WordRegister}
use Rattle.isa.specs.declared.register.SegmentRegister.{SegmentRegister}
use Rattle.isa.specs.declared.register.SegmentRegister.TheVariants.{Es, Cs, Ss, Ds}
use Rattle.isa.specs.declared.layout.CodePart.{CodePart}
use Rattle.isa.specs.declared.layout.CodePart.TheVariants as code_parts
use Rattle.isa.specs.declared.layout.RegPart.{RegPart}
use Rattle.isa.specs.declared.layout.RegPart.TheVariants as reg_parts
use Rattle.isa.specs.declared.layout.PlacePart.{PlacePart}
use Rattle.isa.specs.declared.layout.PlacePart.TheVariants as place_parts
use Rattle.isa.specs.declared.form.Base.{Base as BaseType}
use Rattle.isa.specs.declared.form.Base.TheVariants.{BxSi, BxDi, BpSi, BpDi, Si, Di, Bp, Bx}
use Rattle.isa.specs.declared.form.Place.{Place}
use Rattle.isa.specs.declared.form.Place.TheVariants.{Absent, Register, Direct, Base, BaseByte, BaseWord}
use Rattle.isa.specs.declared.form.Form.{Form}
use Rattle.isa.specs.declared.row.Kind.{Kind}
use Rattle.isa.specs.declared.row.Kind.TheVariants as kinds
use Rattle.isa.specs.declared.row.Row.{Row}
use Rattle.isa.specs.Table.{rows}
use Rattle.isa.specs.Row.{first_of, second_of}
use Rattle.isa.specs.RegisterNumbers.{byte_register_number, segment_register_number, word_register_number}
use Rattle.isa.specs.Layout.{first_code, first_reg, kind_code, kind_reg, reg_part, places, second_with}
use Rattle.isa.specs.Encoding.{FitsCode, FitsPlace, FitsReg, FitsSecond, IsForm, IsMemory, IsPlace}
use Rattle.isa.proofs.Rows.{each}
use Rattle.dialect.specs.declared.register.Register.TheVariants as registers
use Rattle.assembler_form.specs.declared.operand.Number.{Number as NumberType}
use Rattle.assembler_form.specs.declared.operand.Number.TheVariants.{Constant, Later}
use Rattle.assembler_form.specs.declared.operand.KnownOperand.{KnownOperand}
use Rattle.assembler_form.specs.declared.operand.KnownOperand.TheVariants as operands
use Rattle.assembler_form.specs.declared.asked.Asked.{Asked}
use Rattle.assembler_form.specs.Takes.{is_within, Takes}
use Rattle.assembler_form.specs.Kinds.{is_of, is_segment_not_cs, is_segment_register, is_pointer, is_far_memory, is_word_memory}
use Rattle.assembler_form.proofs.Alike.{in_steps}
use Rattle.assembler_form.specs.Choice.{IsChosen, IsFirst}
use Rattle.assembler_form.specs.OperandBytes.{escape_number, first_place, form_with, in_opcode, in_place, in_reg}
use Rattle.assembler_form.specs.OperandBytes.{is_zero, place_at, place_of, place_with, place_without, register_number}

-- registers' numbers
byte_within : (r : ByteRegister) → byte_register_number r < 8
byte_within r = search rules

word_within : (r : WordRegister) → word_register_number r < 8
word_within r = search rules

segment_within : (r : SegmentRegister) → segment_register_number r < 4
segment_within r = search rules

number_within : (x : KnownOperand) → register_number x < 8
number_within (operands.Register (registers.Byte r)) = byte_within r
number_within (operands.Register (registers.Word r)) = word_within r
number_within (operands.Register (registers.Segment r)) = omega (arith, segment_within r)
number_within _ = lit< tt

segment_number_within : (x : KnownOperand) → is_segment_register x ≡ true → register_number x < 4
segment_number_within (operands.Register (registers.Segment r)) e = segment_within r
segment_number_within _ e = cc

not_cs_number : (x : KnownOperand) → is_segment_not_cs x ≡ true → (register_number x < 4) × (register_number x ≢ 1)
not_cs_number (operands.Register (registers.Segment Es)) e = (lit< tt, λ f. absurd (omega (arith, f)))
not_cs_number (operands.Register (registers.Segment Cs)) e = cc
not_cs_number (operands.Register (registers.Segment Ss)) e = (lit< tt, λ f. absurd (omega (arith, f)))
not_cs_number (operands.Register (registers.Segment Ds)) e = (lit< tt, λ f. absurd (omega (arith, f)))
not_cs_number _ e = cc

escape_within : (x : KnownOperand) → escape_number x < 64
escape_within (operands.Number (Constant (pos n))) = grind (arith, nat_tests)
escape_within _ = lit< tt

-- what an operand puts into the opcode fits it
code_fits : (o : Operation) (k : Kind) (x : KnownOperand) → IsTrue (is_of o k x) → FitsCode (kind_code k) (in_opcode k x)
code_fits o kinds.Code8 x e = number_within x
code_fits o kinds.Code16 x e = number_within x
code_fits o kinds.CodeSegment x e = segment_number_within x e
code_fits o kinds.CodeSegmentNotCs x e = not_cs_number x e
code_fits o kinds.EscNumber x e = omega (arith, escape_within x)
code_fits o _ x e = refl

abbrev is_fixed : CodePart → Bool
is_fixed code_parts.Fixed = true
is_fixed _ = false

both_codes : (p q : CodePart) (m n : ℕ) → (is_fixed p || is_fixed q) ≡ true → FitsCode p m → FitsCode q n → FitsCode (first_code p q) (m + n)
both_codes code_parts.Fixed q m n one p_fits q_fits = subst (FitsCode q) (omega (arith, p_fits)) q_fits
both_codes p code_parts.Fixed m n one p_fits q_fits = subst (FitsCode p) (omega (arith, q_fits)) p_fits
both_codes _ _ m n one p_fits q_fits = cc

-- what an operand puts into reg fits it
abbrev FitsMaybe : Option RegPart → ℕ → Type 0
FitsMaybe None n = n ≡ 0
FitsMaybe (Some part) n = FitsReg part n

reg_fits : (o : Operation) (k : Kind) (x : KnownOperand) → IsTrue (is_of o k x) → FitsMaybe (kind_reg k) (in_reg k x)
reg_fits o kinds.Reg8 x e = number_within x
reg_fits o kinds.Reg16 x e = number_within x
reg_fits o kinds.Segment x e = segment_number_within x e
reg_fits o kinds.SegmentNotCs x e = not_cs_number x e
reg_fits o kinds.EscNumber x e = omega (arith, escape_within x)
reg_fits o _ x e = refl

abbrev is_none : Option RegPart → Bool
is_none None = true
is_none (Some _) = false

abbrev is_none_digit : Option ℕ → Bool
is_none_digit None = true
is_none_digit (Some _) = false

both_regs : (p q : Option RegPart) (m n : ℕ) → (is_none p || is_none q) ≡ true → FitsMaybe p m → FitsMaybe q n → FitsMaybe (first_reg p q) (m + n)
both_regs None q m n one p_fits q_fits = subst (FitsMaybe q) (omega (arith, p_fits)) q_fits
both_regs p None m n one p_fits q_fits = subst (FitsMaybe p) (omega (arith, q_fits)) p_fits
both_regs (Some _) (Some _) m n one p_fits q_fits = cc

-- a digit leaves reg to no operand
with_digit : (d : Option ℕ) (p : Option RegPart) (n : ℕ) → (is_none_digit d || is_none p) ≡ true → FitsMaybe p n
    → FitsMaybe (first_reg (option_map reg_parts.Digit d) p) n
with_digit None p n one fits = fits
with_digit (Some _) None n one fits = fits
with_digit (Some _) (Some _) n one fits = cc

-- what an operand puts into mod and r/m fits them
without_is_memory : (base : BaseType) → IsMemory (place_without base)
without_is_memory Bp = tt
without_is_memory BxSi = λ e. cc
without_is_memory BxDi = λ e. cc
without_is_memory BpSi = λ e. cc
without_is_memory BpDi = λ e. cc
without_is_memory Si = λ e. cc
without_is_memory Di = λ e. cc
without_is_memory Bx = λ e. cc

chosen_is_memory : (b : Bool) (p q : Place) → IsMemory p → IsMemory q → IsMemory (cond b p q)
chosen_is_memory true p q p_is q_is = p_is
chosen_is_memory false p q p_is q_is = q_is

with_is_memory : (base : BaseType) (d : NumberType) → IsMemory (place_with base d)
with_is_memory base (Constant n) =
    chosen_is_memory (is_zero n) (place_without base) (cond (is_within (negsuc 127) (pos 127) n) (BaseByte base) (BaseWord base))
    (without_is_memory base) (chosen_is_memory (is_within (negsuc 127) (pos 127) n) (BaseByte base) (BaseWord base) tt tt)
with_is_memory base Later = tt

at_is_memory : (base : Option BaseType) (d : NumberType) → IsMemory (place_at base d)
at_is_memory None d = tt
at_is_memory (Some base) d = with_is_memory base d

memory_is_place : (p : Place) → IsMemory p → IsPlace p
memory_is_place Absent is = is
memory_is_place (Register n) is = absurd is
memory_is_place Direct is = is
memory_is_place (Base base) is = is
memory_is_place (BaseByte base) is = is
memory_is_place (BaseWord base) is = is

is_place : (x : KnownOperand) → IsPlace (place_of x)
is_place (operands.Memory m) = memory_is_place (place_at m.base m.displacement) (at_is_memory m.base m.displacement)
is_place operands.Nothing = number_within operands.Nothing
is_place (operands.Register (registers.Byte r)) = number_within (operands.Register (registers.Byte r))
is_place (operands.Register (registers.Word r)) = number_within (operands.Register (registers.Word r))
is_place (operands.Register (registers.Segment r)) = number_within (operands.Register (registers.Segment r))
is_place operands.One = number_within operands.One
is_place (operands.Number n) = number_within (operands.Number n)
is_place operands.Short = number_within operands.Short
is_place operands.Far = number_within operands.Far

far_is_memory : (x : KnownOperand) → is_far_memory x ≡ true → IsMemory (place_of x)
far_is_memory (operands.Memory m) e = at_is_memory m.base m.displacement
far_is_memory _ e = cc

word_is_memory : (x : KnownOperand) → is_word_memory x ≡ true → IsMemory (place_of x)
word_is_memory (operands.Memory m) e = at_is_memory m.base m.displacement
word_is_memory _ e = cc

pointer_is_memory : (o : Operation) (x : KnownOperand) → is_pointer o x ≡ true → IsMemory (place_of x)
pointer_is_memory (Control _) x e = far_is_memory x e
pointer_is_memory _ x e = word_is_memory x e

-- the kinds whose operands have a place
abbrev PlaceOfKind : Kind → Place → Type 0
PlaceOfKind kinds.Rm8 p = IsPlace p
PlaceOfKind kinds.Rm16 p = IsPlace p
PlaceOfKind kinds.Memory p = IsMemory p
PlaceOfKind _ p = p ≡ Absent

place_fits : (o : Operation) (k : Kind) (x : KnownOperand) → IsTrue (is_of o k x) → PlaceOfKind k (in_place k x)
place_fits o kinds.Rm8 x e = is_place x
place_fits o kinds.Rm16 x e = is_place x
place_fits o kinds.Memory x e = pointer_is_memory o x e
place_fits o _ x e = refl

abbrev has_place : Kind → Bool
has_place kinds.Rm8 = true
has_place kinds.Rm16 = true
has_place kinds.Memory = true
has_place _ = false

absent_without : (k : Kind) (p : Place) → has_place k ≡ false → PlaceOfKind k p → p ≡ Absent
absent_without kinds.Rm8 p e is = cc
absent_without kinds.Rm16 p e is = cc
absent_without kinds.Memory p e is = cc
absent_without _ p e is = is

any_before : (k : Kind) → has_place k ≡ false → (places kinds.Rm8 k ≡ place_parts.Any) × (places kinds.Rm16 k ≡ place_parts.Any)
any_before kinds.Memory e = cc
any_before _ e = (refl, refl)

any_after : (k : Kind) → has_place k ≡ false
    → (places k kinds.Rm8 ≡ place_parts.Any) × (places k kinds.Rm16 ≡ place_parts.Any) × (places k kinds.Memory ≡ place_parts.Memory)
any_after kinds.Memory e = cc
any_after _ e = (refl, refl, refl)

first_has_place : (k l : Kind) (p : Place) → has_place k ≡ true → has_place l ≡ false → PlaceOfKind k p → FitsPlace (places k l) p
first_has_place kinds.Rm8 l p e f is = subst (λ q. FitsPlace q p) (sym (any_before l f).0) is
first_has_place kinds.Rm16 l p e f is = subst (λ q. FitsPlace q p) (sym (any_before l f).1) is
first_has_place kinds.Memory l p e f is = is
first_has_place _ l p e f is = cc

second_has_place : (k l : Kind) (p : Place) → has_place k ≡ false → has_place l ≡ true → PlaceOfKind l p → FitsPlace (places k l) p
second_has_place k kinds.Rm8 p e f is = subst (λ q. FitsPlace q p) (sym (any_after k e).0) is
second_has_place k kinds.Rm16 p e f is = subst (λ q. FitsPlace q p) (sym (any_after k e).1) is
second_has_place k kinds.Memory p e f is = subst (λ q. FitsPlace q p) (sym (any_after k e).2) is
second_has_place k _ p e f is = cc

-- the first operand's place, or the second's: one of them has a place if the row has an addressing byte
first_place_left : (p : Place) → IsPlace p → first_place p Absent ≡ p
first_place_left Absent is = absurd is
first_place_left (Register _) is = refl
first_place_left Direct is = refl
first_place_left (Base _) is = refl
first_place_left (BaseByte _) is = refl
first_place_left (BaseWord _) is = refl

abbrev has_one_place : Bool → Bool → Bool
has_one_place true second = not second
has_one_place false second = second

abbrev has_its_place : Option RegPart → Bool → Bool → Bool
has_its_place None first second = not (first || second)
has_its_place (Some _) first second = has_one_place first second

named_is_place : (named : PlacePart) (p : Place) → FitsPlace named p → IsPlace p
named_is_place place_parts.Any p fits = fits
named_is_place place_parts.Memory p fits = memory_is_place p fits

both_places : (k l : Kind) (p q : Place) (h j : Bool) → has_place k ≡ h → has_place l ≡ j
    → has_one_place h j ≡ true → PlaceOfKind k p → PlaceOfKind l q → FitsPlace (places k l) (first_place p q)
both_places k l p q true false h_is j_is one p_is q_is =
    let fits : FitsPlace (places k l) p = first_has_place k l p h_is j_is p_is in
    subst (λ x. FitsPlace (places k l) (first_place p x)) (sym (absent_without l q j_is q_is))
    (subst (λ x. FitsPlace (places k l) x) (sym (first_place_left p (named_is_place (places k l) p fits))) fits)
both_places k l p q false true h_is j_is one p_is q_is =
    subst (λ x. FitsPlace (places k l) (first_place x q)) (sym (absent_without k p h_is p_is)) (second_has_place k l q h_is j_is q_is)
both_places k l p q true true h_is j_is one p_is q_is = cc
both_places k l p q false false h_is j_is one p_is q_is = cc

no_places : (k l : Kind) (p q : Place) (h j : Bool) → has_place k ≡ h → has_place l ≡ j
    → not (h || j) ≡ true → PlaceOfKind k p → PlaceOfKind l q → first_place p q ≡ Absent
no_places k l p q false false h_is j_is none p_is q_is =
    subst (λ x. first_place x q ≡ Absent) (sym (absent_without k p h_is p_is)) (absent_without l q j_is q_is)
no_places k l p q true _ h_is j_is none p_is q_is = cc
no_places k l p q false true h_is j_is none p_is q_is = cc

fits_none : (k : Kind) (named : PlacePart) (n : ℕ) (p : Place) → n ≡ 0 → p ≡ Absent → FitsSecond (second_with None named k) n p
fits_none kinds.Ten named n p n_is p_is = (n_is, p_is)
fits_none _ named n p n_is p_is = (n_is, p_is)

second_fits : (part : Option RegPart) (k l : Kind) (n : ℕ) (p q : Place) → has_its_place part (has_place k) (has_place l) ≡ true
    → FitsMaybe part n → PlaceOfKind k p → PlaceOfKind l q → FitsSecond (second_with part (places k l) k) n (first_place p q)
second_fits None k l n p q one n_fits p_is q_is =
    fits_none k (places k l) n (first_place p q) n_fits (no_places k l p q (has_place k) (has_place l) refl refl one p_is q_is)
second_fits (Some part) k l n p q one n_fits p_is q_is =
    (n_fits, both_places k l p q (has_place k) (has_place l) refl refl one p_is q_is)

-- no row has two operands in one part, and each has the parts that its operands want
abbrev has_its_parts : Row → Bool
has_its_parts r =
    (is_fixed (kind_code (first_of r)) || is_fixed (kind_code (second_of r)))
    && ((is_none (kind_reg (first_of r)) || is_none (kind_reg (second_of r)))
    && ((is_none_digit r.digit || is_none (first_reg (kind_reg (first_of r)) (kind_reg (second_of r))))
    && has_its_place (reg_part r) (has_place (first_of r)) (has_place (second_of r))))

all_have_their_parts : list_all has_its_parts rows ≡ true
unfolding rows
all_have_their_parts = refl

form_fits : (r : Row) (a : Asked) → has_its_parts r ≡ true → Contains rows r → Takes r a → IsForm (form_with r a)
unfolding form_with
form_fits r a shape within takes =
    let k : Kind = first_of r in
    let l : Kind = second_of r in
    let first : IsTrue (is_of a.operation k a.first) = in_steps a.operation k a.first takes.first in
    let second : IsTrue (is_of a.operation l a.second) = in_steps a.operation l a.second takes.second in
    let codes : Bool = is_fixed (kind_code k) || is_fixed (kind_code l) in
    let regs : Bool = is_none (kind_reg k) || is_none (kind_reg l) in
    let digits : Bool = is_none_digit r.digit || is_none (first_reg (kind_reg k) (kind_reg l)) in
    let placed : Bool = has_its_place (reg_part r) (has_place k) (has_place l) in
    let after_codes : (regs && (digits && placed)) ≡ true = (and_parts codes (regs && (digits && placed)) shape).1 in
    let after_regs : (digits && placed) ≡ true = (and_parts regs (digits && placed) after_codes).1 in
    record {
      row = within;
      code = both_codes (kind_code k) (kind_code l) (in_opcode k a.first) (in_opcode l a.second)
          (and_parts codes (regs && (digits && placed)) shape).0
          (code_fits a.operation k a.first first) (code_fits a.operation l a.second second);
      second = second_fits (reg_part r) k l (in_reg k a.first + in_reg l a.second) (in_place k a.first) (in_place l a.second)
          (and_parts digits placed after_regs).1
          (with_digit r.digit (first_reg (kind_reg k) (kind_reg l)) (in_reg k a.first + in_reg l a.second)
          (and_parts digits placed after_regs).0
          (both_regs (kind_reg k) (kind_reg l) (in_reg k a.first) (in_reg l a.second)
          (and_parts regs (digits && placed) after_codes).0
          (reg_fits a.operation k a.first first) (reg_fits a.operation l a.second second)))
          (place_fits a.operation k a.first first) (place_fits a.operation l a.second second);
    }

form_is : (r : Row) (a : Asked) → Contains rows r → Takes r a → IsForm (form_with r a)
form_is r a within takes = form_fits r a (each has_its_parts rows r all_have_their_parts within) within takes

row_is : (f : Form) (r : Row) (a : Asked) → f ≡ form_with r a → f.row ≡ r
unfolding form_with
row_is f r a e = ap (λ x. x.row) e

pub chosen_is : (f : Form) (r : Row) (a b : Asked) (rs : List Row) → f ≡ form_with r a → a ≡ b → rs ≡ rows → IsFirst rs a r → IsChosen b f
chosen_is f r a b rs e is rs_is first = record {
  first = subst (λ x. IsFirst rows b x) (sym (row_is f r a e))
      (subst (λ x. IsFirst rows x r) is (subst (λ x. IsFirst x a r) rs_is first));
  parts = subst (λ x. f ≡ form_with f.row x) is (subst (λ x. f ≡ form_with x a) (sym (row_is f r a e)) e);
}

within_first : (rs : List Row) (r : Row) (i : ℕ) → slice_get rs i ≡ Some r → Contains rs r
within_first rs r i is = (i, slice_get_within rs i r is, get_or_from_slice_get rs i r r is)

pub form_of_first : (f : Form) (r : Row) (a : Asked) (rs : List Row) → f ≡ form_with r a → rs ≡ rows → IsFirst rs a r → IsForm f
form_of_first f r a rs e rs_is first =
    subst IsForm (sym e) (form_is r a (subst (λ x. Contains x r) rs_is (within_first rs r first.place first.stands)) first.takes)
