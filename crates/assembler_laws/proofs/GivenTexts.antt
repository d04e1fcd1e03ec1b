-- The text of an instruction gets its numbers, if a short jump's target is near.
use Rattle.std.proofs.Common.{◌≡◌, ◌∙◌, ℕ, ◌+◌, ◌%◌, ◌<◌, Contains, refl, sym, ap, subst, arith, Bool, true, false, not, ◌&&◌, ◌||◌, Option, Some}
use Rattle.std.specs.Prelude.{pos, negsuc, ◌-ℤ◌, IsTrue}
use Rattle.std.specs.List.{list_all}
use Rattle.std.proofs.lemmas.Bool.{and_parts}
use Rattle.isa.specs.declared.operation.Operation.{Operation}
use Rattle.isa.specs.declared.operation.Operation.TheVariants.{Jump, Looping, Transfer, Control}
use Rattle.isa.specs.declared.operation.Transfer.TheVariants as transfer
use Rattle.isa.specs.declared.operation.Control.TheVariants as control
use Rattle.isa.specs.declared.layout.Field.{Field}
use Rattle.isa.specs.declared.layout.Field.TheVariants as fields
use Rattle.isa.specs.declared.layout.Second.{Second}
use Rattle.isa.specs.declared.layout.Second.TheVariants as seconds
use Rattle.isa.specs.declared.form.Place.{Place}
use Rattle.isa.specs.declared.form.Place.TheVariants as places
use Rattle.isa.specs.declared.form.Form.{Form}
use Rattle.isa.specs.declared.form.Values.{Values}
use Rattle.isa.specs.declared.row.Kind.{Kind}
use Rattle.isa.specs.declared.row.Kind.TheVariants as kinds
use Rattle.isa.specs.declared.row.Row.{Row}
use Rattle.isa.specs.Row.{first_of, operation_of, second_of}
use Rattle.isa.specs.Table.{rows}
use Rattle.isa.specs.Layout.{field_part, second_part}
use Rattle.isa.specs.Encoding.{form_length, sign_extended, FitsSecond, IsForm}
use Rattle.isa.proofs.Rows.{each}
use Rattle.dialect.specs.declared.keyword.Keyword.{Keyword}
use Rattle.dialect.specs.declared.keyword.Keyword.TheVariants as keywords
use Rattle.dialect.specs.declared.register.Register.TheVariants as registers
use Rattle.dialect.specs.declared.size.Size.{Size}
use Rattle.dialect.specs.declared.size.Size.TheVariants as sizes
use Rattle.disassembler.specs.Written.{byte_operand, far_size, size_beside as written_size, target_operand, word_operand, written_operand}
use Rattle.assembler_form.specs.declared.operand.KnownOperand.{KnownOperand}
use Rattle.assembler_form.specs.declared.operand.KnownOperand.TheVariants as known
use Rattle.assembler_form.specs.declared.fields.Numbers.{Numbers}
use Rattle.assembler_form.specs.Asked.{asked_in_order, size_beside, size_or, sized}
use Rattle.assembler_form.specs.Fields.{field_kind}
use Rattle.assembler_form.specs.Kinds.{is_byte_memory, is_byte_register, is_near, is_of, is_short}
use Rattle.assembler_form.specs.Takes.{is_byte_size, is_number, is_within, Takes}
use Rattle.assembler_form.proofs.Alike.{in_steps}
use Rattle.assembler_laws.specs.SaidTexts.{first_written, said_size, second_written}
use Rattle.assembler_laws.specs.Fitting.{FitsByte}
use Rattle.assembler_laws.proofs.AskedTexts.{asked_by, Has, HasSize}
use Rattle.assembler_laws.proofs.ChosenRows.{first_field, has_field, second_field}
use Rattle.assembler_laws.proofs.TextForms.{far_agrees, is_near_kind, not_true, RowAgrees}

-- ---- tests of each row
abbrev pub is_byte_kind : Kind → Bool
is_byte_kind kinds.Al = true
is_byte_kind kinds.Rm8 = true
is_byte_kind kinds.Code8 = true
is_byte_kind _ = false

abbrev pub is_word_kind : Kind → Bool
is_word_kind kinds.Ax = true
is_word_kind kinds.Rm16 = true
is_word_kind kinds.Code16 = true
is_word_kind _ = false

-- kinds whose number may be a whole word
abbrev pub is_wide : Kind → Bool
is_wide kinds.Imm16 = true
is_wide kinds.Signed8 = true
is_wide kinds.Rel8 = true
is_wide kinds.Rel16 = true
is_wide _ = false

abbrev pub is_imm8 : Kind → Bool
is_imm8 kinds.Imm8 = true
is_imm8 _ = false

abbrev pub is_rel8 : Kind → Bool
is_rel8 kinds.Rel8 = true
is_rel8 _ = false

abbrev pub is_in : Operation → Bool
is_in (Transfer transfer.In) = true
is_in _ = false

-- INT and OUT have a byte first
abbrev pub is_int_or_out : Operation → Bool
is_int_or_out (Transfer transfer.Out) = true
is_int_or_out (Control control.Int) = true
is_int_or_out _ = false

-- operations that have short targets alone
abbrev pub is_short_jump : Operation → Bool
is_short_jump (Jump _) = true
is_short_jump (Looping _) = true
is_short_jump _ = false

abbrev pub is_jmp : Operation → Bool
is_jmp (Control control.Jmp) = true
is_jmp _ = false

abbrev pub is_bare : Second → Bool
is_bare seconds.Absent = true
is_bare _ = false

abbrev pub is_byte_field : Field → Bool
is_byte_field fields.Byte = true
is_byte_field _ = false

abbrev pub implies : Bool → Bool → Bool
implies a b = not a || b

abbrev is_strict : Row → Bool
is_strict r =
    (implies (is_imm8 (second_of r)) (is_byte_kind (first_of r) || is_in (operation_of r))
    && implies (is_wide (second_of r)) (is_word_kind (first_of r) && not (is_in (operation_of r))))
    && ((implies (is_imm8 (first_of r)) (is_int_or_out (operation_of r)) && implies (is_int_or_out (operation_of r)) (not (is_wide (first_of r))))
    && ((implies (is_rel8 (first_of r)) (is_jmp (operation_of r) || is_short_jump (operation_of r))
    && implies (is_short_jump (operation_of r)) (is_rel8 (first_of r)))
    && (not (is_rel8 (second_of r)) && implies (is_rel8 (first_of r)) (is_bare (second_part r) && is_byte_field (field_part r)))))

all_strict : list_all is_strict rows ≡ true
unfolding rows
all_strict = refl

pub record IsStrict (r : Row) : Type 0 where
  pub byte_second : implies (is_imm8 (second_of r)) (is_byte_kind (first_of r) || is_in (operation_of r)) ≡ true
  pub word_second : implies (is_wide (second_of r)) (is_word_kind (first_of r) && not (is_in (operation_of r))) ≡ true
  pub byte_first : implies (is_imm8 (first_of r)) (is_int_or_out (operation_of r)) ≡ true
  pub word_first : implies (is_int_or_out (operation_of r)) (not (is_wide (first_of r))) ≡ true
  pub target : implies (is_rel8 (first_of r)) (is_jmp (operation_of r) || is_short_jump (operation_of r)) ≡ true
  pub targets : implies (is_short_jump (operation_of r)) (is_rel8 (first_of r)) ≡ true
  pub no_second : not (is_rel8 (second_of r)) ≡ true
  pub bare : implies (is_rel8 (first_of r)) (is_bare (second_part r) && is_byte_field (field_part r)) ≡ true

pub row_strict : (r : Row) → Contains rows r → IsStrict r
row_strict r within =
    let one = and_parts _ _ (each is_strict rows r all_strict within) in
    let two = and_parts _ _ one.1 in
    let three = and_parts _ _ two.1 in
    let second = and_parts _ _ one.0 in
    let first = and_parts _ _ two.0 in
    let target = and_parts _ _ three.0 in
    let rest = and_parts _ _ three.1 in
    record {
      byte_second = second.0;
      word_second = second.1;
      byte_first = first.0;
      word_first = first.1;
      target = target.0;
      targets = target.1;
      no_second = rest.0;
      bare = rest.1;
    }

follows : (a b : Bool) → implies a b ≡ true → a ≡ true → b ≡ true
follows true b e is = e
follows false b e is = absurd (let never : false ≡ true = is in cc)

-- ---- a number of a kind that isn't wide is a byte
abbrev pub IsByte : Numbers → Type 0
IsByte n = (x : ℕ) × (n.number ≡ pos x) × (x < 256)

byte_not_number : (op : Operation) (p : Place) (kw : Option Keyword) (d : ℕ) (other : KnownOperand)
    → is_number (sized op (asked_by (byte_operand p kw d)) other) ≡ false
byte_not_number op places.Absent kw d other = refl
byte_not_number op (places.Register r) kw d other = refl
byte_not_number op places.Direct kw d other = refl
byte_not_number op (places.Base b) kw d other = refl
byte_not_number op (places.BaseByte b) kw d other = refl
byte_not_number op (places.BaseWord b) kw d other = refl

word_not_number : (op : Operation) (p : Place) (kw : Option Keyword) (d : ℕ) (other : KnownOperand)
    → is_number (sized op (asked_by (word_operand p kw d)) other) ≡ false
word_not_number op places.Absent kw d other = refl
word_not_number op (places.Register r) kw d other = refl
word_not_number op places.Direct kw d other = refl
word_not_number op (places.Base b) kw d other = refl
word_not_number op (places.BaseByte b) kw d other = refl
word_not_number op (places.BaseWord b) kw d other = refl

pub never : {A : Type 0} → (b : Bool) → b ≡ false → b ≡ true → A
never b is_false is_true = absurd (let contradiction : false ≡ true = sym is_false ∙ is_true in cc)

narrow_byte : (f : Form) (v : Values) (next : ℕ) (op : Operation) (k l : Kind) (other : KnownOperand) (n : Numbers)
    → is_wide k ≡ false → Has (written_operand f v next k l) n → is_number (sized op (asked_by (written_operand f v next k l)) other) ≡ true → IsByte n
unfolding written_operand
narrow_byte f v next op kinds.Imm8 l other n e has is = (v.number % 256, has, omega arith)
narrow_byte f v next op kinds.EscNumber l other n e has is = (_, has, omega arith)
narrow_byte f v next op kinds.One l other n e has is = (1, has, omega arith)
narrow_byte f v next op kinds.Imm16 l other n e has is = cc
narrow_byte f v next op kinds.Signed8 l other n e has is = cc
narrow_byte f v next op kinds.Rel8 l other n e has is = cc
narrow_byte f v next op kinds.Rel16 l other n e has is = cc
narrow_byte f v next op kinds.Rm8 l other n e has is = never _ (byte_not_number op f.place (written_size keywords.Byte l) v.displacement other) is
narrow_byte f v next op kinds.Rm16 l other n e has is = never _ (word_not_number op f.place (written_size keywords.Word l) v.displacement other) is
narrow_byte f v next op kinds.Memory l other n e has is = never _ (word_not_number op f.place (far_size (operation_of f.row)) v.displacement other) is
narrow_byte f v next op _ l other n e has is = cc

-- ---- bytes and words apart
abbrev is_bytelike : KnownOperand → Bool
is_bytelike x = is_byte_register x || is_byte_memory x

byte_taken : (op : Operation) (k : Kind) (x : KnownOperand) → is_byte_kind k ≡ true → IsTrue (is_of op k x) → is_bytelike x ≡ true
byte_taken op kinds.Al (known.Register (registers.Byte r)) e is = refl
byte_taken op kinds.Al _ e is = cc
byte_taken op kinds.Rm8 x e is = is
byte_taken op kinds.Code8 (known.Register (registers.Byte r)) e is = refl
byte_taken op kinds.Code8 _ e is = cc
byte_taken op _ x e is = cc

no_byte_size : (s : Option Size) → s ≡ Some sizes.Word → is_byte_size s ≡ false
no_byte_size s is = ap is_byte_size is

word_not_byte : (op : Operation) (p : Place) (kw : Option Keyword) (d : ℕ) (other : KnownOperand)
    → size_or (said_size kw) (size_beside op other) ≡ Some sizes.Word → is_bytelike (sized op (asked_by (word_operand p kw d)) other) ≡ false
word_not_byte op places.Absent kw d other e = refl
word_not_byte op (places.Register r) kw d other e = refl
word_not_byte op places.Direct kw d other e = no_byte_size _ e
word_not_byte op (places.Base b) kw d other e = no_byte_size _ e
word_not_byte op (places.BaseByte b) kw d other e = no_byte_size _ e
word_not_byte op (places.BaseWord b) kw d other e = no_byte_size _ e

word_kind_not_byte : (f : Form) (v : Values) (next : ℕ) (op : Operation) (k l : Kind) (other : KnownOperand) → is_word_kind k ≡ true → HasSize op k l other
    → is_bytelike (sized op (asked_by (written_operand f v next k l)) other) ≡ false
unfolding written_operand
word_kind_not_byte f v next op kinds.Ax l other e size = refl
word_kind_not_byte f v next op kinds.Code16 l other e size = refl
word_kind_not_byte f v next op kinds.Rm16 l other e size = word_not_byte op f.place (written_size keywords.Word l) v.displacement other size
word_kind_not_byte f v next op _ l other e size = cc

-- ---- the byte of a form that is chosen in the text's order
byte_first_by : (f : Form) (v : Values) (next : ℕ) (s : Row) (n : Numbers)
    → IsStrict f.row → IsStrict s → operation_of s ≡ operation_of f.row → first_of s ≡ kinds.Imm8 → Has (first_written f v next) n
    → is_number (sized (operation_of f.row) (asked_by (first_written f v next)) (asked_by (second_written f v next))) ≡ true → IsByte n
byte_first_by f v next s n strict s_strict same is has number =
    let op : Operation = operation_of f.row in
    let outs : is_int_or_out op ≡ true = subst (λ (o : Operation). is_int_or_out o ≡ true) same
    (follows (is_imm8 (first_of s)) (is_int_or_out (operation_of s)) s_strict.byte_first (ap is_imm8 is)) in
    let narrow : is_wide (first_of f.row) ≡ false =
    not_true (is_wide (first_of f.row)) (follows (is_int_or_out op) (not (is_wide (first_of f.row))) strict.word_first outs) in
    narrow_byte f v next op (first_of f.row) (second_of f.row) (asked_by (second_written f v next)) n narrow has number

either_true : (a b : Bool) → (a || b) ≡ true → b ≡ false → a ≡ true
either_true true b e is_false = refl
either_true false b e is_false = absurd (let contradiction : false ≡ true = sym is_false ∙ e in cc)

byte_second_by : (f : Form) (v : Values) (next : ℕ) (s : Row) (n : Numbers) → IsStrict f.row → IsStrict s → operation_of s ≡ operation_of f.row
    → second_of s ≡ kinds.Imm8 → HasSize (operation_of f.row) (first_of f.row) (second_of f.row) (asked_by (second_written f v next))
    → IsTrue (is_of (operation_of f.row) (first_of s) (sized (operation_of f.row) (asked_by (first_written f v next)) (asked_by (second_written f v next))))
    → Has (second_written f v next) n
    → is_number (sized (operation_of f.row) (asked_by (second_written f v next)) (asked_by (first_written f v next))) ≡ true → IsByte n
byte_second_by f v next s n strict s_strict same is size takes has number = by (is_wide (second_of f.row)) refl
  where
    by : (b : Bool) → is_wide (second_of f.row) ≡ b → IsByte n
    by false e = narrow_byte f v next (operation_of f.row) (second_of f.row) (first_of f.row) (asked_by (first_written f v next)) n e has number
    by true e =
        let words =
        and_parts _ _ (follows (is_wide (second_of f.row)) (is_word_kind (first_of f.row) && not (is_in (operation_of f.row))) strict.word_second e) in
        let no_in : is_in (operation_of s) ≡ false = ap is_in same ∙ not_true (is_in (operation_of f.row)) words.1 in
        let bytes : is_byte_kind (first_of s) ≡ true =
        either_true (is_byte_kind (first_of s)) (is_in (operation_of s))
        (follows (is_imm8 (second_of s)) (is_byte_kind (first_of s) || is_in (operation_of s)) s_strict.byte_second (ap is_imm8 is)) no_in in
        never _ (word_kind_not_byte f v next (operation_of f.row) (first_of f.row) (second_of f.row) (asked_by (second_written f v next)) words.0 size)
        (byte_taken (operation_of f.row) (first_of s)
        (sized (operation_of f.row) (asked_by (first_written f v next)) (asked_by (second_written f v next))) bytes takes)

-- ---- the target of a short jump
pub rel_is : (k : Kind) → is_rel8 k ≡ true → k ≡ kinds.Rel8
rel_is kinds.Rel8 e = refl
rel_is _ e = cc

jmp_is : (op : Operation) → is_jmp op ≡ true → op ≡ Control control.Jmp
jmp_is (Control control.Jmp) e = refl
jmp_is _ e = cc

word_not_short : (op : Operation) (p : Place) (kw : Option Keyword) (d : ℕ) (other : KnownOperand)
    → is_short (sized op (asked_by (word_operand p kw d)) other) ≡ false
word_not_short op places.Absent kw d other = refl
word_not_short op (places.Register r) kw d other = refl
word_not_short op places.Direct kw d other = refl
word_not_short op (places.Base b) kw d other = refl
word_not_short op (places.BaseByte b) kw d other = refl
word_not_short op (places.BaseWord b) kw d other = refl

short_kind : (f : Form) (v : Values) (next : ℕ) (op : Operation) (k l : Kind) (other : KnownOperand)
    → is_near_kind k ≡ true → is_short (sized op (asked_by (written_operand f v next k l)) other) ≡ true → is_rel8 k ≡ true
unfolding written_operand
short_kind f v next op kinds.Rel8 l other e is = refl
short_kind f v next op kinds.Rel16 l other e is = cc
short_kind f v next op kinds.Rm16 l other e is = never _ (word_not_short op f.place (written_size keywords.Word l) v.displacement other) is
short_kind f v next op _ l other e is = cc

or_either : {A : Type 0} → (a b : Bool) → (a || b) ≡ true → (a ≡ true → A) → (b ≡ true → A) → A
or_either true b e one two = one refl
or_either false b e one two = two e

target_kind : (f : Form) (v : Values) (next : ℕ) (s : Row) → IsStrict f.row → IsStrict s
    → RowAgrees f.row → operation_of s ≡ operation_of f.row → first_of s ≡ kinds.Rel8
    → IsTrue (is_of (operation_of f.row) kinds.Rel8 (sized (operation_of f.row) (asked_by (first_written f v next)) (asked_by (second_written f v next))))
    → first_of f.row ≡ kinds.Rel8
target_kind f v next s strict s_strict agrees same is takes =
    let op : Operation = operation_of f.row in
    let x : KnownOperand = sized op (asked_by (first_written f v next)) (asked_by (second_written f v next)) in
    let jumps : (is_jmp op || is_short_jump op) ≡ true =
    subst (λ (o : Operation). (is_jmp o || is_short_jump o) ≡ true) same
    (follows (is_rel8 (first_of s)) (is_jmp (operation_of s) || is_short_jump (operation_of s)) s_strict.target (ap is_rel8 is)) in
    rel_is (first_of f.row)
    (or_either (is_jmp op) (is_short_jump op) jumps
    (λ e. let jmp : op ≡ Control control.Jmp = jmp_is op e in
    short_kind f v next op (first_of f.row) (second_of f.row) (asked_by (second_written f v next))
    (subst (λ (o : Operation). far_agrees o (first_of f.row) ≡ true) jmp agrees.far) (subst (λ (o : Operation). is_near o x ≡ true) jmp takes))
    (λ e. follows (is_short_jump op) (is_rel8 (first_of f.row)) strict.targets e))

bare_place : (s : Second) (reg : ℕ) (p : Place) → FitsSecond s reg p → is_bare s ≡ true → (s ≡ seconds.Absent) × (p ≡ places.Absent)
bare_place seconds.Absent reg p fits e = (refl, fits.1)
bare_place (seconds.Exactly b) reg p fits e = cc
bare_place (seconds.Addressing part named) reg p fits e = cc

byte_field_is : (field : Field) → is_byte_field field ≡ true → field ≡ fields.Byte
byte_field_is fields.Byte e = refl
byte_field_is _ e = cc

pub rel_length : (f : Form) → IsForm f → first_of f.row ≡ kinds.Rel8 → form_length f ≡ 2
unfolding form_length
rel_length f is rel =
    let strict : IsStrict f.row = row_strict f.row is.row in
    let bare =
    and_parts _ _ (follows (is_rel8 (first_of f.row)) (is_bare (second_part f.row) && is_byte_field (field_part f.row)) strict.bare (ap is_rel8 rel)) in
    let place = bare_place (second_part f.row) f.reg f.place is.second bare.0 in
    rw (place.0, place.1, byte_field_is (field_part f.row) bare.1) refl

-- what is written of a target
target_number : (op : Operation) (x : ℕ) (n : Numbers) → Has (target_operand op x) n → n.number ≡ pos x
target_number (Control control.Jmp) x n has = has
target_number _ x n has = has

pub rel_number : (f : Form) (v : Values) (next : ℕ) (l : Kind) (n : Numbers) → Has (written_operand f v next kinds.Rel8 l) n
    → n.number ≡ pos ((next + sign_extended v.number) % 65536)
unfolding written_operand
rel_number f v next l n has = target_number (operation_of f.row) ((next + sign_extended v.number) % 65536) n has

-- ---- what goes into a byte fits
pub fits_byte : (k : Kind) (next : ℕ) (n : Numbers) → (k ≡ kinds.Imm8 → IsByte n)
    → (k ≡ kinds.Rel8 → is_within (negsuc 127) (pos 127) (n.number -ℤ pos next) ≡ true) → FitsByte k next n
fits_byte kinds.Imm8 next n byte near = byte refl
fits_byte kinds.Rel8 next n byte near = near refl
fits_byte _ next n byte near = tt

pub record Chosen (f : Form) (v : Values) (next : ℕ) (n : Numbers) (s : Row) : Type 0 where
  pub strict : IsStrict f.row
  pub s_strict : IsStrict s
  pub agrees : RowAgrees f.row
  pub size : HasSize (operation_of f.row) (first_of f.row) (second_of f.row) (asked_by (second_written f v next))
  pub has_first : Has (first_written f v next) n
  pub has_second : Has (second_written f v next) n
  pub takes : Takes s (asked_in_order (operation_of f.row) (asked_by (first_written f v next)) (asked_by (second_written f v next)))

pub in_order_fits : (f : Form) (v : Values) (next : ℕ) (n : Numbers) (s : Row) (from : ℕ) → Chosen f v next n s
    → (first_of f.row ≡ kinds.Rel8 → first_of s ≡ kinds.Rel8 → is_within (negsuc 127) (pos 127) (n.number -ℤ pos from) ≡ true) → FitsByte (field_kind s) from n
in_order_fits f v next n s from is near = by (has_field (first_of s)) refl
  where
    by : (b : Bool) → has_field (first_of s) ≡ b → FitsByte (field_kind s) from n
    by true e =
        let same : field_kind s ≡ first_of s = first_field (first_of s) (second_of s) e in
        subst (λ (k : Kind). FitsByte k from n) (sym same)
        (fits_byte (first_of s) from n
        (λ imm. byte_first_by f v next s n is.strict is.s_strict is.takes.operation imm is.has_first
        (subst (λ (k : Kind).
        is_of (operation_of f.row) k (sized (operation_of f.row) (asked_by (first_written f v next)) (asked_by (second_written f v next))) ≡ true)
        imm (in_steps (operation_of f.row) (first_of s)
        (sized (operation_of f.row) (asked_by (first_written f v next)) (asked_by (second_written f v next))) is.takes.first)))
        (λ rel. near (target_kind f v next s is.strict is.s_strict is.agrees is.takes.operation rel
        (subst (λ (k : Kind).
        is_of (operation_of f.row) k (sized (operation_of f.row) (asked_by (first_written f v next)) (asked_by (second_written f v next))) ≡ true)
        rel (in_steps (operation_of f.row) (first_of s)
        (sized (operation_of f.row) (asked_by (first_written f v next)) (asked_by (second_written f v next))) is.takes.first)))
        rel))
    by false e =
        let same : field_kind s ≡ second_of s = second_field (first_of s) (second_of s) e in
        subst (λ (k : Kind). FitsByte k from n) (sym same)
        (fits_byte (second_of s) from n
        (λ imm. byte_second_by f v next s n is.strict is.s_strict is.takes.operation imm is.size (in_steps (operation_of f.row)
        (first_of s) (sized (operation_of f.row) (asked_by (first_written f v next)) (asked_by (second_written f v next))) is.takes.first)
        is.has_second
        (subst (λ (k : Kind).
        is_of (operation_of f.row) k (sized (operation_of f.row) (asked_by (second_written f v next)) (asked_by (first_written f v next))) ≡ true)
        imm (in_steps (operation_of f.row) (second_of s)
        (sized (operation_of f.row) (asked_by (second_written f v next)) (asked_by (first_written f v next))) is.takes.second)))
        (λ rel. never (is_rel8 (second_of s)) (not_true (is_rel8 (second_of s)) is.s_strict.no_second) (ap is_rel8 rel)))
