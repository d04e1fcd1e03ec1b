-- Some row takes what the text of an instruction asks.
use Rattle.std.proofs.Common.{◌≡◌, ◌≢◌, ◌∙◌, ℕ, zero, suc, ◌+◌, ◌*◌, ◌%◌, ◌<◌, ◌≤◌, List, length, Contains, refl, sym, ap, subst}
use Rattle.std.proofs.Common.{arith, lit<, Bool, true, false, not, ◌&&◌, nat_le, nat_lt, if◌then◌else◌, Option, None, Some}
use Rattle.std.specs.Prelude.{pos, negsuc}
use Rattle.std.specs.List.{list_all}
use Rattle.std.proofs.lemmas.Bool.{and_parts}
use Rattle.std.proofs.lemmas.Bool.Decides.{nat_tests}
use Rattle.isa.specs.declared.operation.Operation.{Operation}
use Rattle.isa.specs.declared.operation.Operation.TheVariants.{Arithmetic, Transfer, Control}
use Rattle.isa.specs.declared.operation.Arithmetic.TheVariants.{Add, Or, Adc, Sbb, And, Sub, Xor, Cmp, Test}
use Rattle.isa.specs.declared.operation.Transfer.TheVariants as transfer
use Rattle.isa.specs.declared.operation.Control.TheVariants as control
use Rattle.isa.specs.declared.register.WordRegister.TheVariants.{Ax}
use Rattle.isa.specs.declared.layout.CodePart.{CodePart}
use Rattle.isa.specs.declared.layout.CodePart.TheVariants as code_parts
use Rattle.isa.specs.declared.layout.RegPart.TheVariants as reg_parts
use Rattle.isa.specs.declared.layout.Second.{Second}
use Rattle.isa.specs.declared.layout.Second.TheVariants as seconds
use Rattle.isa.specs.declared.form.Base.{Base as BaseType}
use Rattle.isa.specs.declared.form.Place.{Place}
use Rattle.isa.specs.declared.form.Place.TheVariants as places
use Rattle.isa.specs.declared.form.Form.{Form}
use Rattle.isa.specs.declared.form.Values.{Values}
use Rattle.isa.specs.declared.form.Instr.{Instr}
use Rattle.isa.specs.declared.form.Prefix.{Prefix}
use Rattle.isa.specs.declared.row.Kind.{Kind}
use Rattle.isa.specs.declared.row.Kind.TheVariants as kinds
use Rattle.isa.specs.declared.row.Clocks.TheVariants.{Place as AtPlace, Always}
use Rattle.isa.specs.declared.row.Row.{Row}
use Rattle.isa.specs.Row.{first_of, operation_of, second_of}
use Rattle.isa.specs.RegisterNumbers.{segment_register_of}
use Rattle.isa.specs.Table.{row, row/, rows}
use Rattle.isa.specs.Layout.{code_part, second_part}
use Rattle.isa.specs.Encoding.{sign_extended, FitsCode, FitsForm, FitsSecond, IsForm, IsInstr, IsMemory, IsPlace}
use Rattle.isa.proofs.Rows.{each}
use Rattle.dialect.specs.declared.keyword.Keyword.{Keyword}
use Rattle.dialect.specs.declared.keyword.Keyword.TheVariants as keywords
use Rattle.dialect.specs.declared.register.Register.TheVariants as registers
use Rattle.dialect.specs.declared.size.Size.{Size}
use Rattle.dialect.specs.declared.size.Size.TheVariants as sizes
use Rattle.disassembler.specs.Text.{is_nop}
use Rattle.disassembler.specs.Written.{byte_operand, far_size, size_beside as written_size, target_operand, word_operand, written_operand}
use Rattle.assembler_form.specs.declared.operand.Number.{Number as NumberType}
use Rattle.assembler_form.specs.declared.operand.KnownOperand.{KnownOperand}
use Rattle.assembler_form.specs.declared.operand.KnownOperand.TheVariants as known
use Rattle.assembler_form.specs.declared.asked.Asked.{Asked}
use Rattle.assembler_form.specs.declared.fields.Numbers.{Numbers}
use Rattle.assembler_form.specs.Asked.{asked, asked_in_order, asked_of, is_exchanged, is_far_size, is_memory, is_register_and_ax, size_beside, size_or, sized}
use Rattle.assembler_form.specs.Kinds.{is_near, is_of, is_pointer, is_segment_not_cs}
use Rattle.assembler_form.specs.Takes.{is_byte_size, is_within, is_word_size, Takes}
use Rattle.assembler_form.proofs.Alike.{from_steps}
use Rattle.assembler_meaning.specs.Instructions.{instruction_asked, known_operands, no_numbers, prefixes_of, IsFormFor}
use Rattle.assembler_meaning.specs.Values.{Names}
use Rattle.assembler_laws.specs.SaidTexts.{first_written, mnemonic_in, next_of, operands_in, said_instruction, said_size, second_written}
use Rattle.assembler_laws.specs.SameMeaning.{pointer_size}
use Rattle.assembler_laws.specs.TextsTaken.{TextsTakeAForm}
use Rattle.assembler_laws.proofs.AskedTexts.{asked_by, FitsKind, HasSize}
use Rattle.assembler_laws.proofs.Outcome.{form_for}
use Rattle.assembler_laws.proofs.TextForms.{ask_both, ax, exchanged_is, first_asked, has_memory, has_size, kind_fits, nop_says, not_true}
use Rattle.assembler_laws.proofs.TextForms.{numbers_said, plain_says, remembered_is, row_agrees, second_asked, unremembered, RowAgrees, Says}

byte_place_taken : (op : Operation) (kw : Option Keyword) (p : Place) (d : ℕ) (other : KnownOperand)
    → IsPlace p → size_or (said_size kw) (size_beside op other) ≡ Some sizes.Byte → is_of op kinds.Rm8 (sized op (asked_by (byte_operand p kw d)) other) ≡ true
byte_place_taken op kw places.Absent d other is e = absurd is
byte_place_taken op kw (places.Register n) d other is e = refl
byte_place_taken op kw places.Direct d other is e = ap is_byte_size e
byte_place_taken op kw (places.Base b) d other is e = ap is_byte_size e
byte_place_taken op kw (places.BaseByte b) d other is e = ap is_byte_size e
byte_place_taken op kw (places.BaseWord b) d other is e = ap is_byte_size e

word_place_taken : (op : Operation) (kw : Option Keyword) (p : Place) (d : ℕ) (other : KnownOperand)
    → IsPlace p → size_or (said_size kw) (size_beside op other) ≡ Some sizes.Word → is_of op kinds.Rm16 (sized op (asked_by (word_operand p kw d)) other) ≡ true
word_place_taken op kw places.Absent d other is e = absurd is
word_place_taken op kw (places.Register n) d other is e = refl
word_place_taken op kw places.Direct d other is e = ap is_word_size e
word_place_taken op kw (places.Base b) d other is e = ap is_word_size e
word_place_taken op kw (places.BaseByte b) d other is e = ap is_word_size e
word_place_taken op kw (places.BaseWord b) d other is e = ap is_word_size e

pointer_is : (op : Operation) (b : Option BaseType) (s : Option Size) (d : NumberType) → s ≡ Some (pointer_size op)
    → is_pointer op (known.Memory (record { size = s; base = b; displacement = d })) ≡ true
pointer_is (Control c) b s d is = ap is_far_size is
pointer_is _ b s d is = ap is_word_size is

pointer_taken : (op : Operation) (kw : Option Keyword) (p : Place) (d : ℕ) (other : KnownOperand) → IsMemory p
    → size_or (said_size kw) (size_beside op other) ≡ Some (pointer_size op) → is_pointer op (sized op (asked_by (word_operand p kw d)) other) ≡ true
pointer_taken op kw places.Absent d other is e = absurd is
pointer_taken op kw (places.Register n) d other is e = absurd is
pointer_taken op kw places.Direct d other is e = pointer_is op _ _ _ e
pointer_taken op kw (places.Base b) d other is e = pointer_is op _ _ _ e
pointer_taken op kw (places.BaseByte b) d other is e = pointer_is op _ _ _ e
pointer_taken op kw (places.BaseWord b) d other is e = pointer_is op _ _ _ e

target_taken : (op : Operation) (n : ℕ) (other : KnownOperand) → is_near op (sized op (asked_by (target_operand op n)) other) ≡ true
target_taken (Control control.Jmp) n other = refl
target_taken _ n other = refl

not_cs : (n : ℕ) → n < 4 → n ≢ 1 → is_segment_not_cs (known.Register (registers.Segment (segment_register_of n))) ≡ true
not_cs zero small other = refl
not_cs (suc zero) small other = absurd (other refl)
not_cs (suc (suc zero)) small other = refl
not_cs (suc (suc (suc zero))) small other = refl
not_cs (suc (suc (suc (suc n)))) small other = absurd (omega (arith, small))

-- what a kind wants of the opcode and of reg
abbrev pub FitsNumbers : Kind → ℕ → ℕ → Type 0
FitsNumbers kinds.CodeSegmentNotCs code reg = (code < 4) × (code ≢ 1)
FitsNumbers kinds.SegmentNotCs code reg = (reg < 4) × (reg ≢ 1)
FitsNumbers kinds.EscNumber code reg = (code < 8) × (reg < 8)
FitsNumbers _ code reg = Unit {0}

abbrev pub IsNear : Kind → ℕ → Type 0
IsNear kinds.Signed8 n = n < 128
IsNear _ n = Unit {0}

escape_taken : (code reg : ℕ) → code < 8 → reg < 8 → is_within (pos 0) (pos 63) (pos ((8 * code + reg) % 256)) ≡ true
escape_taken code reg p q =
    let low : (8 * code + reg) % 256 ≤ 63 = omega (arith, p, q) in
    within ((8 * code + reg) % 256) low
  where
    within : (n : ℕ) → n ≤ 63 → (nat_le 0 n && nat_le n 63) ≡ true
    within n low = grind (arith, nat_tests)

signed_taken : (n : ℕ) → n < 128 → is_within (negsuc 127) (pos 127) (pos (sign_extended n)) ≡ true
signed_taken n small =
    let is : sign_extended n ≡ n = (let low : nat_lt n 128 ≡ true = grind (arith, nat_tests) in rw low refl) in
    ap (λ (k : ℕ). is_within (negsuc 127) (pos 127) (pos k)) is ∙ within n small
  where
    within : (n : ℕ) → n < 128 → (true && nat_le n 127) ≡ true
    within n small = grind (arith, nat_tests)

kind_taken : (f : Form) (v : Values) (next : ℕ) (k l : Kind) (other : KnownOperand) → FitsKind k f.place → FitsNumbers k f.code f.reg → IsNear k v.number
    → HasSize (operation_of f.row) k l other → is_of (operation_of f.row) k (sized (operation_of f.row) (asked_by (written_operand f v next k l)) other) ≡ true
unfolding written_operand
kind_taken f v next kinds.CodeSegmentNotCs l other place fits near size = not_cs f.code fits.0 fits.1
kind_taken f v next kinds.SegmentNotCs l other place fits near size = not_cs f.reg fits.0 fits.1
kind_taken f v next kinds.EscNumber l other place fits near size = escape_taken f.code f.reg fits.0 fits.1
kind_taken f v next kinds.Signed8 l other place fits near size = signed_taken v.number near
kind_taken f v next kinds.Rm8 l other place fits near size =
    byte_place_taken (operation_of f.row) (written_size keywords.Byte l) f.place v.displacement other place size
kind_taken f v next kinds.Rm16 l other place fits near size =
    word_place_taken (operation_of f.row) (written_size keywords.Word l) f.place v.displacement other place size
kind_taken f v next kinds.Memory l other place fits near size =
    pointer_taken (operation_of f.row) (far_size (operation_of f.row)) f.place v.displacement other place size
kind_taken f v next kinds.Rel8 l other place fits near size = target_taken (operation_of f.row) _ other
kind_taken f v next kinds.At8 l other place fits near size = ap is_byte_size size
kind_taken f v next kinds.At16 l other place fits near size = ap is_word_size size
kind_taken f v next _ l other place fits near size = refl

-- ---- tests of each row
abbrev numbers_agree : CodePart → Second → Kind → Bool
numbers_agree code_parts.SegmentNotCs s kinds.CodeSegmentNotCs = true
numbers_agree c s kinds.CodeSegmentNotCs = false
numbers_agree c (seconds.Addressing reg_parts.SegmentNotCs _) kinds.SegmentNotCs = true
numbers_agree c s kinds.SegmentNotCs = false
numbers_agree code_parts.Register (seconds.Addressing reg_parts.Register _) kinds.EscNumber = true
numbers_agree c s kinds.EscNumber = false
numbers_agree c s k = true

abbrev is_signed : Kind → Bool
is_signed kinds.Signed8 = true
is_signed _ = false

abbrev is_word_place : Kind → Bool
is_word_place kinds.Rm16 = true
is_word_place _ = false

abbrev has_wide : Operation → Bool
has_wide (Arithmetic Test) = false
has_wide (Arithmetic _) = true
has_wide _ = false

abbrev wide_agrees : Operation → Kind → Kind → Bool
wide_agrees op k kinds.Signed8 = is_word_place k && has_wide op
wide_agrees op k _ = true

abbrev exchange_agrees : Operation → Kind → Bool
exchange_agrees (Transfer transfer.Xchg) l = not (has_memory l)
exchange_agrees _ l = true

abbrev suits : Row → Bool
suits r =
    (numbers_agree (code_part r) (second_part r) (first_of r) && numbers_agree (code_part r) (second_part r) (second_of r))
    && ((not (is_signed (first_of r)) && wide_agrees (operation_of r) (first_of r) (second_of r)) && exchange_agrees (operation_of r) (second_of r))

all_suit : list_all suits rows ≡ true
unfolding rows
all_suit = refl

record RowSuits (r : Row) : Type 0 where
  pub number_first : numbers_agree (code_part r) (second_part r) (first_of r) ≡ true
  pub number_second : numbers_agree (code_part r) (second_part r) (second_of r) ≡ true
  pub unsigned : not (is_signed (first_of r)) ≡ true
  pub wide : wide_agrees (operation_of r) (first_of r) (second_of r) ≡ true
  pub exchange : exchange_agrees (operation_of r) (second_of r) ≡ true

row_suits : (r : Row) → Contains rows r → RowSuits r
row_suits r within =
    let all = and_parts _ _ (each suits rows r all_suit within) in
    let number = and_parts _ _ all.0 in
    let rest = and_parts _ _ all.1 in
    let signed = and_parts _ _ rest.0 in
    record { number_first = number.0; number_second = number.1; unsigned = signed.0; wide = signed.1; exchange = rest.1 }

fits_numbers : (c : CodePart) (s : Second) (k : Kind) (code reg : ℕ) (p : Place)
    → FitsCode c code → FitsSecond s reg p → numbers_agree c s k ≡ true → FitsNumbers k code reg
fits_numbers code_parts.SegmentNotCs s kinds.CodeSegmentNotCs code reg p c_fits s_fits e = c_fits
fits_numbers c s kinds.CodeSegmentNotCs code reg p c_fits s_fits e = cc
fits_numbers c (seconds.Addressing reg_parts.SegmentNotCs _) kinds.SegmentNotCs code reg p c_fits s_fits e = s_fits.0
fits_numbers c s kinds.SegmentNotCs code reg p c_fits s_fits e = cc
fits_numbers code_parts.Register (seconds.Addressing reg_parts.Register _) kinds.EscNumber code reg p c_fits s_fits e = (c_fits, s_fits.0)
fits_numbers c s kinds.EscNumber code reg p c_fits s_fits e = cc
fits_numbers c s k code reg p c_fits s_fits e = tt

unsigned_near : (k : Kind) (n : ℕ) → not (is_signed k) ≡ true → IsNear k n
unsigned_near kinds.Signed8 n e = absurd (let never : false ≡ true = e in cc)
unsigned_near _ n e = tt

-- ---- the row of the text, or the one with a whole word
first_taken : (f : Form) (v : Values) (next : ℕ) → IsForm f
    → is_of (operation_of f.row) (first_of f.row) (sized (operation_of f.row) (asked_by (first_written f v next)) (asked_by (second_written f v next))) ≡ true
first_taken f v next is =
    let r : Row = f.row in
    let has : RowAgrees r = row_agrees r is.row in
    let suit : RowSuits r = row_suits r is.row in
    kind_taken f v next (first_of r) (second_of r) (asked_by (second_written f v next))
    (kind_fits (second_part r) (first_of r) f.reg f.place is.second has.place_first)
    (fits_numbers (code_part r) (second_part r) (first_of r) f.code f.reg f.place is.code is.second suit.number_first)
    (unsigned_near (first_of r) v.number suit.unsigned) (has_size f v next (operation_of r) (first_of r) (second_of r) has.size_first)

second_taken : (f : Form) (v : Values) (next : ℕ) → IsForm f → IsNear (second_of f.row) v.number
    → is_of (operation_of f.row) (second_of f.row) (sized (operation_of f.row) (asked_by (second_written f v next)) (asked_by (first_written f v next))) ≡ true
second_taken f v next is near =
    let r : Row = f.row in
    let has : RowAgrees r = row_agrees r is.row in
    let suit : RowSuits r = row_suits r is.row in
    kind_taken f v next (second_of r) (first_of r) (asked_by (first_written f v next))
    (kind_fits (second_part r) (second_of r) f.reg f.place is.second has.place_second)
    (fits_numbers (code_part r) (second_part r) (second_of r) f.code f.reg f.place is.code is.second suit.number_second) near
    (has_size f v next (operation_of r) (second_of r) (first_of r) has.size_second)

abbrev Taken : Asked → Type 0
Taken a = (r : Row) × Contains rows r × Takes r a

same_row : (f : Form) (v : Values) (next : ℕ) → IsForm f → IsNear (second_of f.row) v.number
    → Taken (asked_in_order (operation_of f.row) (asked_by (first_written f v next)) (asked_by (second_written f v next)))
same_row f v next is near =
    let op : Operation = operation_of f.row in
    let x : KnownOperand = asked_by (first_written f v next) in
    let y : KnownOperand = asked_by (second_written f v next) in (
      f.row,
      is.row,
      record {
        operation = refl;
        first = from_steps op (first_of f.row) (sized op x y) (first_taken f v next is);
        second = from_steps op (second_of f.row) (sized op y x) (second_taken f v next is near);
      },
    )

-- a word as the number
record HasWide (op : Operation) : Type 0 where
  pub wide : Row
  pub within : Contains rows wide
  pub operation : operation_of wide ≡ op
  pub first : first_of wide ≡ kinds.Rm16
  pub second : second_of wide ≡ kinds.Imm16

wide_row : (op : Operation) → has_wide op ≡ true → HasWide op
unfolding rows
wide_row (Arithmetic Add) e = record {
  wide = row/ (Arithmetic Add) 0x81 0 kinds.Rm16 kinds.Imm16 (AtPlace 4 17);
  within = (29, lit< tt, refl);
  operation = refl;
  first = refl;
  second = refl;
}
wide_row (Arithmetic Or) e = record {
  wide = row/ (Arithmetic Or) 0x81 1 kinds.Rm16 kinds.Imm16 (AtPlace 4 17);
  within = (30, lit< tt, refl);
  operation = refl;
  first = refl;
  second = refl;
}
wide_row (Arithmetic Adc) e = record {
  wide = row/ (Arithmetic Adc) 0x81 2 kinds.Rm16 kinds.Imm16 (AtPlace 4 17);
  within = (31, lit< tt, refl);
  operation = refl;
  first = refl;
  second = refl;
}
wide_row (Arithmetic Sbb) e = record {
  wide = row/ (Arithmetic Sbb) 0x81 3 kinds.Rm16 kinds.Imm16 (AtPlace 4 17);
  within = (32, lit< tt, refl);
  operation = refl;
  first = refl;
  second = refl;
}
wide_row (Arithmetic And) e = record {
  wide = row/ (Arithmetic And) 0x81 4 kinds.Rm16 kinds.Imm16 (AtPlace 4 17);
  within = (33, lit< tt, refl);
  operation = refl;
  first = refl;
  second = refl;
}
wide_row (Arithmetic Sub) e = record {
  wide = row/ (Arithmetic Sub) 0x81 5 kinds.Rm16 kinds.Imm16 (AtPlace 4 17);
  within = (34, lit< tt, refl);
  operation = refl;
  first = refl;
  second = refl;
}
wide_row (Arithmetic Xor) e = record {
  wide = row/ (Arithmetic Xor) 0x81 6 kinds.Rm16 kinds.Imm16 (AtPlace 4 17);
  within = (35, lit< tt, refl);
  operation = refl;
  first = refl;
  second = refl;
}
wide_row (Arithmetic Cmp) e = record {
  wide = row/ (Arithmetic Cmp) 0x81 7 kinds.Rm16 kinds.Imm16 (AtPlace 4 10);
  within = (36, lit< tt, refl);
  operation = refl;
  first = refl;
  second = refl;
}
wide_row _ e = cc

word_place_is : (k : Kind) → is_word_place k ≡ true → k ≡ kinds.Rm16
word_place_is kinds.Rm16 e = refl
word_place_is _ e = cc

signed_is : (k : Kind) → is_signed k ≡ true → k ≡ kinds.Signed8
signed_is kinds.Signed8 e = refl
signed_is _ e = cc

signed_number : (f : Form) (v : Values) (next : ℕ) (op : Operation) (k : Kind) (other : KnownOperand)
    → is_of op kinds.Imm16 (sized op (asked_by (written_operand f v next kinds.Signed8 k)) other) ≡ true
unfolding written_operand
signed_number f v next op k other = refl

wide_taken : (f : Form) (v : Values) (next : ℕ) → IsForm f → second_of f.row ≡ kinds.Signed8
    → Taken (asked_in_order (operation_of f.row) (asked_by (first_written f v next)) (asked_by (second_written f v next)))
wide_taken f v next is signed =
    let op : Operation = operation_of f.row in
    let x : KnownOperand = asked_by (first_written f v next) in
    let y : KnownOperand = asked_by (second_written f v next) in
    let suit : RowSuits f.row = row_suits f.row is.row in
    let agrees = and_parts _ _ (subst (λ (l : Kind). wide_agrees op (first_of f.row) l ≡ true) signed suit.wide) in
    let wide : HasWide op = wide_row op agrees.1 in
    let first : is_of op kinds.Rm16 (sized op x y) ≡ true =
    subst (λ (k : Kind). is_of op k (sized op x y) ≡ true) (word_place_is (first_of f.row) agrees.0) (first_taken f v next is) in
    let second : is_of op kinds.Imm16 (sized op y x) ≡ true =
    subst (λ (l : Kind). is_of op kinds.Imm16 (sized op (asked_by (written_operand f v next l (first_of f.row))) x) ≡ true)
    (sym signed) (signed_number f v next op (first_of f.row) x) in (
      wide.wide,
      wide.within,
      record {
        operation = wide.operation;
        first = from_steps op (first_of wide.wide) (sized op x y) (subst (λ (k : Kind). is_of op k (sized op x y) ≡ true) (sym wide.first) first);
        second = from_steps op (second_of wide.wide) (sized op y x) (subst (λ (k : Kind). is_of op k (sized op y x) ≡ true) (sym wide.second) second);
      },
    )

order_taken : (f : Form) (v : Values) (next : ℕ) → IsForm f
    → Taken (asked_in_order (operation_of f.row) (asked_by (first_written f v next)) (asked_by (second_written f v next)))
order_taken f v next is = by (is_signed (second_of f.row)) refl
  where
    by : (b : Bool) → is_signed (second_of f.row) ≡ b
        → Taken (asked_in_order (operation_of f.row) (asked_by (first_written f v next)) (asked_by (second_written f v next)))
    by true e = wide_taken f v next is (signed_is (second_of f.row) e)
    by false e = same_row f v next is (unsigned_near (second_of f.row) v.number (rw e refl))

-- ---- XCHG of AX and a register
xchg_within : Contains rows (row (Transfer transfer.Xchg) 0x90 kinds.Ax kinds.Code16 (Always 3))
unfolding rows
xchg_within = (97, lit< tt, refl)

xchg_taken : (x y : KnownOperand) → is_register_and_ax x y ≡ true → Taken (asked_in_order (Transfer transfer.Xchg) y x)
xchg_taken (known.Register (registers.Word r)) (known.Register (registers.Word Ax)) e =
    (row (Transfer transfer.Xchg) 0x90 kinds.Ax kinds.Code16 (Always 3), xchg_within, record { operation = refl; first = refl; second = refl })
xchg_taken _ _ e = cc

exchange_by : (b : Bool) (x y : KnownOperand) → is_memory y ≡ b → b ≡ false → is_exchanged (Transfer transfer.Xchg) x y ≡ true → is_register_and_ax x y ≡ true
exchange_by b x y is none e = ap (λ (c : Bool). if c then true else is_register_and_ax x y) (sym (is ∙ none)) ∙ e

pub xchg_registers : (f : Form) (v : Values) (next : ℕ) → IsForm f
    → is_exchanged (operation_of f.row) (asked_by (first_written f v next)) (asked_by (second_written f v next)) ≡ true
    → operation_of f.row ≡ Transfer transfer.Xchg → is_register_and_ax (asked_by (first_written f v next)) (asked_by (second_written f v next)) ≡ true
xchg_registers f v next is e xchg =
    let x : KnownOperand = asked_by (first_written f v next) in
    let y : KnownOperand = asked_by (second_written f v next) in
    let suit : RowSuits f.row = row_suits f.row is.row in
    let alone : not (has_memory (second_of f.row)) ≡ true = subst (λ (o : Operation). exchange_agrees o (second_of f.row) ≡ true) xchg suit.exchange in
    let none : is_memory y ≡ false =
    remembered_is (second_written f v next) ∙ unremembered f v next (second_of f.row) (first_of f.row) (not_true (has_memory (second_of f.row)) alone) in
    exchange_by (is_memory y) x y refl none (subst (λ (o : Operation). is_exchanged o x y ≡ true) xchg e)

exchange_taken : (f : Form) (v : Values) (next : ℕ) → IsForm f
    → is_exchanged (operation_of f.row) (asked_by (first_written f v next)) (asked_by (second_written f v next)) ≡ true
    → operation_of f.row ≡ Transfer transfer.Xchg
    → Taken (asked_in_order (operation_of f.row) (asked_by (second_written f v next)) (asked_by (first_written f v next)))
exchange_taken f v next is e xchg =
    let x : KnownOperand = asked_by (first_written f v next) in
    let y : KnownOperand = asked_by (second_written f v next) in
    let suit : RowSuits f.row = row_suits f.row is.row in
    let alone : not (has_memory (second_of f.row)) ≡ true = subst (λ (o : Operation). exchange_agrees o (second_of f.row) ≡ true) xchg suit.exchange in
    let none : is_memory y ≡ false =
    remembered_is (second_written f v next) ∙ unremembered f v next (second_of f.row) (first_of f.row) (not_true (has_memory (second_of f.row)) alone) in
    subst (λ (o : Operation). Taken (asked_in_order o y x)) (sym xchg)
    (xchg_taken x y (exchange_by (is_memory y) x y refl none (subst (λ (o : Operation). is_exchanged o x y ≡ true) xchg e)))

asked_taken : (f : Form) (v : Values) (next : ℕ) → IsForm f → FitsForm f v
    → Taken (asked_of (operation_of f.row) (asked_by (first_written f v next)) (asked_by (second_written f v next)))
asked_taken f v next is fits = by (is_exchanged (operation_of f.row) (asked_by (first_written f v next)) (asked_by (second_written f v next))) refl
  where
    by : (b : Bool) → is_exchanged (operation_of f.row) (asked_by (first_written f v next)) (asked_by (second_written f v next)) ≡ b
        → Taken (if b then asked_in_order (operation_of f.row) (asked_by (second_written f v next)) (asked_by (first_written f v next))
        else asked_in_order (operation_of f.row) (asked_by (first_written f v next)) (asked_by (second_written f v next)))
    by true e =
        exchange_taken f v next is e
        (exchanged_is (operation_of f.row) (asked_by (first_written f v next)) (asked_by (second_written f v next)) e (ask_both f v next is fits).order)
    by false e = order_taken f v next is

nop_taken : Taken (asked_in_order (Transfer transfer.Xchg) ax ax)
nop_taken = xchg_taken ax ax refl

-- ---- the form
form_taken : (o : Option Asked) (a : Asked) → o ≡ Some a → Taken a → (f : Form) × IsFormFor o (Some f)
form_taken o a is taken = subst (λ (p : Option Asked). (f : Form) × IsFormFor p (Some f)) (sym is) (by (form_for (Some a)).0 (form_for (Some a)).1)
  where
    by : (form : Option Form) → IsFormFor (Some a) form → (f : Form) × IsFormFor (Some a) (Some f)
    by (Some f) found = (f, found)
    by None none = absurd (none taken.0 taken.1 taken.2)

few_enough : (n : ℕ) → n ≤ 7 → nat_le n 7 ≡ true
few_enough n few = grind (arith, nat_tests)

says_asked : (before : Names) (i : Instr) (ip : ℕ) (x y : KnownOperand) → length (prefixes_of (said_instruction i ip)) ≤ 7
    → known_operands before (operands_in i.form i.values (next_of i ip)) ≡ Some (x, y)
    → instruction_asked before (said_instruction i ip) ≡ Some (asked (mnemonic_in i.form) x y)
unfolding instruction_asked
says_asked before i ip x y few is = rw (few_enough (length (prefixes_of (said_instruction i ip))) few, is) refl

text_by : (before : Names) (i : Instr) (ip : ℕ) (x y : KnownOperand) (n : Numbers) (a : Asked) → IsInstr i → Says before before ip i x y n a → Taken a
    → (f : Form) × IsFormFor (instruction_asked before (said_instruction i ip)) (Some f)
text_by before i ip x y n a is says taken =
    let few : length (prefixes_of (said_instruction i ip)) ≤ 7 = subst (λ (ps : List Prefix). length ps ≤ 7) (sym says.prefixes) is.few in
    form_taken (instruction_asked before (said_instruction i ip)) a (says_asked before i ip x y few says.known_are ∙ ap Some says.asks) taken

pub texts_take_a_form : TextsTakeAForm
texts_take_a_form before i ip is = by (is_nop i.form) refl
  where
    by : (b : Bool) → is_nop i.form ≡ b → (f : Form) × IsFormFor (instruction_asked before (said_instruction i ip)) (Some f)
    by true nop =
        text_by before i ip known.Nothing known.Nothing no_numbers
        (asked_in_order (Transfer transfer.Xchg) ax ax) is (nop_says before before ip i nop) nop_taken
    by false plain =
        text_by before i ip (first_asked i ip) (second_asked i ip) (numbers_said i.form i.values (next_of i ip))
        (asked_of (operation_of i.form.row) (first_asked i ip) (second_asked i ip)) is
        (plain_says before before ip i is plain) (asked_taken i.form i.values (next_of i ip) is.form is.values)
