-- The text of an instruction takes a form that means the same.
use Rattle.std.proofs.Common.{◌≡◌, ◌∙◌, ℕ, ◌+◌, ◌%◌, List, [], ◌∷◌, ◌++◌, length, append-nil, refl, sym, ap, subst, arith}
use Rattle.std.proofs.Common.{inl, inr, Bool, true, false, not, ◌&&◌, ◌||◌, nat_le, if◌then◌else◌, Option, None, Some}
use Rattle.std.specs.Prelude.{pos, Contains}
use Rattle.std.specs.List.{list_all}
use Rattle.std.specs.Option.{option_map}
use Rattle.std.proofs.lemmas.Bool.{and_parts, eqb-true}
use Rattle.isa.specs.declared.operation.Operation.{Operation}
use Rattle.isa.specs.declared.operation.Operation.TheVariants.{Arithmetic, Shift, Transfer, Control}
use Rattle.isa.specs.declared.operation.Arithmetic.TheVariants.{Test}
use Rattle.isa.specs.declared.operation.Transfer.TheVariants as transfer
use Rattle.isa.specs.declared.operation.Control.TheVariants as control
use Rattle.isa.specs.declared.register.WordRegister.TheVariants.{Ax}
use Rattle.isa.specs.declared.layout.PlacePart.TheVariants as place_parts
use Rattle.isa.specs.declared.layout.Second.{Second}
use Rattle.isa.specs.declared.layout.Second.TheVariants as seconds
use Rattle.isa.specs.declared.form.Place.{Place}
use Rattle.isa.specs.declared.form.Place.TheVariants as places
use Rattle.isa.specs.declared.form.Form.{Form}
use Rattle.isa.specs.declared.form.Values.{Values}
use Rattle.isa.specs.declared.form.Instr.{Instr}
use Rattle.isa.specs.declared.row.Kind.{Kind}
use Rattle.isa.specs.declared.row.Kind.TheVariants as kinds
use Rattle.isa.specs.declared.row.Row.{Row}
use Rattle.isa.specs.Row.{first_of, operation_of, second_of}
use Rattle.isa.specs.Table.{rows}
use Rattle.isa.specs.Layout.{field_part, second_part}
use Rattle.isa.specs.Encoding.{displacement_field, instr_length, FitsForm, FitsSecond, IsForm, IsInstr, IsMemory, IsPlace}
use Rattle.isa.proofs.Rows.{each}
use Rattle.dialect.specs.declared.keyword.Keyword.TheVariants as keywords
use Rattle.dialect.specs.declared.mnemonic.Mnemonic.TheVariants as mnemonics
use Rattle.dialect.specs.declared.register.Register.TheVariants as registers
use Rattle.dialect.specs.declared.size.Size.{Size}
use Rattle.dialect.specs.declared.size.Size.TheVariants as sizes
use Rattle.disassembler.specs.declared.written.Written.{Written}
use Rattle.disassembler.specs.declared.written.Written.TheVariants.{Nothing, Register, One, Byte, Word, Short, Far, Memory}
use Rattle.disassembler.specs.Text.{is_ax, is_nop, is_xchg}
use Rattle.disassembler.specs.Written.{byte_operand, far_size, size_beside as written_size, target_operand, tells_size, word_operand, written_operand}
use Rattle.assembler_syntax.specs.declared.operand.Operand.{Operand}
use Rattle.assembler_form.specs.declared.operand.Number.TheVariants.{Constant}
use Rattle.assembler_form.specs.declared.operand.KnownOperand.{KnownOperand}
use Rattle.assembler_form.specs.declared.operand.KnownOperand.TheVariants as known
use Rattle.assembler_form.specs.declared.asked.Asked.{Asked}
use Rattle.assembler_form.specs.declared.fields.Numbers.{Numbers}
use Rattle.assembler_form.specs.Asked.{asked, asked_in_order, asked_of, is_exchanged, is_far, is_memory}
use Rattle.assembler_form.specs.Asked.{operand_meant as operand_as_meant, operation_meant, register_size, size_beside, size_or, sized}
use Rattle.assembler_form.specs.Choice.{IsChosen}
use Rattle.assembler_meaning.specs.declared.symbol.Location.{Location}
use Rattle.assembler_meaning.specs.Values.{Names, constant_of, value_of}
use Rattle.assembler_meaning.specs.Instructions.{displacement_value, instruction_asked, instruction_size, known_displacement, known_operand}
use Rattle.assembler_meaning.specs.Instructions.{known_operands, no_numbers, number_by, numbers_after, numbers_of, numbers_with, operand_override}
use Rattle.assembler_meaning.specs.Instructions.{or_else, override_of, override_prefix, prefixes_of, with_displacement, with_number, IsFormFor}
use Rattle.assembler.specs.Placement.{fields_for, fields_of}
use Rattle.assembler_laws.specs.DecodingBack.{instr_of}
use Rattle.assembler_laws.specs.SaidTexts.{first_written, mnemonic_in, next_of, number, operands_in}
use Rattle.assembler_laws.specs.SaidTexts.{said_instruction, said_mnemonic, said_operands, said_size, second_written}
use Rattle.assembler_laws.specs.SameMeaning.{a_register, asked_meant, first_meant, operand_meant, pointer_size}
use Rattle.assembler_laws.specs.SameMeaning.{second_meant, AreOf, IsOfValues, Meant, MeansTheSame, TextsMeanTheSame}
use Rattle.assembler_laws.proofs.AskedTexts.{asked_by, displacement_by, kind_asks, numbers_by, memory_is_place, Asks, FitsKind, Has, HasSize, IsSmall}
use Rattle.assembler_laws.proofs.ChosenRows.{forms_mean_what_is_asked}
use Rattle.assembler_laws.proofs.CleanRows.{chosen_there}
use Rattle.assembler_laws.proofs.WrittenOperands.{field_small, operand_said, operand_written, said_is, said_with_first, IsWritten, MayBeWritten}

-- ---- what is said is asked, whatever the names
no_more : (n : ℕ) → n + 0 ≡ n
no_more n = omega arith

constant_number : (names : Names) (n : ℕ) → constant_of names (number n) ≡ Some (pos n)
unfolding constant_of value_of
constant_number names n = ap (λ (k : ℕ). Some (pos k)) (no_more n)

value_number : (names : Names) (here n : ℕ) → value_of names here (number n) ≡ Some (pos n)
unfolding value_of
value_number names here n = ap (λ (k : ℕ). Some (pos k)) (no_more n)

displacement_known : (names : Names) (d : Option ℕ) → known_displacement names (option_map number d) ≡ Constant (pos (displacement_by d))
displacement_known names None = refl
displacement_known names (Some d) = ap number_by (constant_number names d)

said_known : (names : Names) (w : Written) → IsWritten w → known_operand names (operand_said w) ≡ asked_by w
said_known names Nothing is = absurd is
said_known names (Register r) is = refl
said_known names One is = refl
said_known names (Byte n) is = ap (λ o. known.Number (number_by o)) (constant_number names n)
said_known names (Word n) is = ap (λ o. known.Number (number_by o)) (constant_number names n)
said_known names (Short n) is = refl
said_known names (Far s o) is = refl
said_known names (Memory m) is =
    ap (λ d. known.Memory (record { size = said_size m.size; base = m.base; displacement = d })) (displacement_known names m.displacement)

displacement_valued : (names : Names) (here : ℕ) (d : Option ℕ) → displacement_value names here (option_map number d) ≡ Some (pos (displacement_by d))
displacement_valued names here None = refl
displacement_valued names here (Some d) = value_number names here d

said_numbers : (names : Names) (here : ℕ) (n : Numbers) (w : Written) → IsWritten w → numbers_with names here n (operand_said w) ≡ Some (numbers_by w n)
said_numbers names here n Nothing is = absurd is
said_numbers names here n (Register r) is = refl
said_numbers names here n One is = refl
said_numbers names here n (Byte x) is = ap (option_map (with_number n)) (value_number names here x)
said_numbers names here n (Word x) is = ap (option_map (with_number n)) (value_number names here x)
said_numbers names here n (Short x) is = ap (option_map (with_number n)) (value_number names here x)
said_numbers names here n (Far s o) is = rw (value_number names here s, value_number names here o) refl
said_numbers names here n (Memory m) is = ap (option_map (with_displacement n)) (displacement_valued names here m.displacement)

-- ---- both operands
pub record AreBoth (names : Names) (here : ℕ) (v w : Written) : Type 0 where
  pub asked : known_operands names (said_operands v w) ≡ Some (asked_by v, asked_by w)
  pub numbers : numbers_of names here (said_operands v w) ≡ Some (numbers_by w (numbers_by v no_numbers))
  pub override : override_of (said_operands v w) ≡ None

no_override : (w : Written) → operand_override (operand_said w) ≡ None
no_override Nothing = refl
no_override (Register r) = refl
no_override One = refl
no_override (Byte n) = refl
no_override (Word n) = refl
no_override (Short n) = refl
no_override (Far s o) = refl
no_override (Memory m) = refl

none_said : (names : Names) (here : ℕ) → AreBoth names here Nothing Nothing
unfolding numbers_of
none_said names here = record { asked = refl; numbers = refl; override = refl }

one_said : (names : Names) (here : ℕ) (v : Written) → IsWritten v → AreBoth names here v Nothing
unfolding numbers_of
one_said names here v is =
    let os : said_operands v Nothing ≡ operand_said v ∷ [] = said_with_first v Nothing is in
    record {
      asked = ap (known_operands names) os ∙ ap (λ (x : KnownOperand). Some (x, known.Nothing)) (said_known names v is);
      numbers = ap (numbers_after names here (Some no_numbers)) os ∙ ap (λ o. numbers_after names here o []) (said_numbers names here no_numbers v is);
      override = ap override_of os ∙ ap (λ o. or_else o None) (no_override v);
    }

two_said : (names : Names) (here : ℕ) (v w : Written) → IsWritten v → IsWritten w → AreBoth names here v w
unfolding numbers_of
two_said names here v w is there =
    let os : said_operands v w ≡ operand_said v ∷ operand_said w ∷ [] =
    said_with_first v w is ∙ ap (λ (os : List Operand). operand_said v ∷ os) (said_is w there) in
    record {
      asked = ap (known_operands names) os ∙ (ap (λ (x : KnownOperand). Some (x, known_operand names (operand_said w))) (said_known names v is)
          ∙ ap (λ (x : KnownOperand). Some (asked_by v, x)) (said_known names w there));
      numbers = ap (numbers_after names here (Some no_numbers)) os
          ∙ (ap (λ o. numbers_after names here o (operand_said w ∷ [])) (said_numbers names here no_numbers v is)
          ∙ ap (λ o. numbers_after names here o []) (said_numbers names here (numbers_by v no_numbers) w there));
      override = ap override_of os
          ∙ (ap (λ o. or_else o (override_of (operand_said w ∷ []))) (no_override v)
          ∙ ap (λ o. or_else o None) (no_override w));
    }

-- ---- tests of each row
abbrev pub is_none : Kind → Bool
is_none kinds.Nothing = true
is_none kinds.Ten = true
is_none _ = false

abbrev pub has_number : Kind → Bool
has_number kinds.One = true
has_number kinds.EscNumber = true
has_number kinds.Imm8 = true
has_number kinds.Imm16 = true
has_number kinds.Signed8 = true
has_number kinds.Rel8 = true
has_number kinds.Rel16 = true
has_number kinds.Far = true
has_number _ = false

abbrev pub has_memory : Kind → Bool
has_memory kinds.Rm8 = true
has_memory kinds.Rm16 = true
has_memory kinds.Memory = true
has_memory kinds.At8 = true
has_memory kinds.At16 = true
has_memory _ = false

-- the operations in which a register says the size of memory beside it
abbrev pub is_plain : Operation → Bool
is_plain (Shift _) = false
is_plain (Transfer transfer.Push) = false
is_plain (Transfer transfer.Pop) = false
is_plain (Control _) = false
is_plain _ = true

abbrev pub is_byte_beside : Kind → Bool
is_byte_beside kinds.Reg8 = true
is_byte_beside kinds.Al = true
is_byte_beside _ = false

abbrev pub is_word_beside : Kind → Bool
is_word_beside kinds.Reg16 = true
is_word_beside kinds.Ax = true
is_word_beside kinds.Segment = true
is_word_beside kinds.SegmentNotCs = true
is_word_beside _ = false

abbrev pub is_control : Operation → Bool
is_control (Control _) = true
is_control _ = false

abbrev pub sizes_agree : Operation → Kind → Kind → Bool
sizes_agree op kinds.Rm8 l = not (tells_size l) || (is_byte_beside l && is_plain op)
sizes_agree op kinds.Rm16 l = not (tells_size l) || (is_word_beside l && is_plain op)
sizes_agree op kinds.Memory l = is_control op || (is_word_beside l && is_plain op)
sizes_agree op kinds.At8 l = is_byte_beside l && is_plain op
sizes_agree op kinds.At16 l = is_word_beside l && is_plain op
sizes_agree op _ l = true

abbrev pub is_addressed : Second → Bool
is_addressed (seconds.Addressing _ _) = true
is_addressed _ = false

abbrev pub is_memory_alone : Second → Bool
is_memory_alone (seconds.Addressing _ place_parts.Memory) = true
is_memory_alone _ = false

abbrev pub places_agree : Second → Kind → Bool
places_agree s kinds.Rm8 = is_addressed s
places_agree s kinds.Rm16 = is_addressed s
places_agree s kinds.Memory = is_memory_alone s
places_agree s _ = true

abbrev pub is_near_kind : Kind → Bool
is_near_kind kinds.Rel8 = true
is_near_kind kinds.Rel16 = true
is_near_kind kinds.Rm16 = true
is_near_kind _ = false

abbrev pub is_far_kind : Kind → Bool
is_far_kind kinds.Far = true
is_far_kind kinds.Memory = true
is_far_kind _ = false

abbrev pub far_agrees : Operation → Kind → Bool
far_agrees (Control control.Jmp) k = is_near_kind k
far_agrees (Control control.Call) k = is_near_kind k
far_agrees (Control control.JmpFar) k = is_far_kind k
far_agrees (Control control.CallFar) k = is_far_kind k
far_agrees _ k = true

abbrev pub order_agrees : Operation → Kind → Bool
order_agrees (Arithmetic Test) l = not (has_memory l)
order_agrees _ l = true

-- XCHG of AX alone is of AX and the register in the opcode
abbrev pub is_code_word : Kind → Bool
is_code_word kinds.Code16 = true
is_code_word _ = false

abbrev pub nop_agrees : Operation → Kind → Kind → Bool
nop_agrees (Transfer transfer.Xchg) kinds.Ax l = is_code_word l
nop_agrees _ k l = true

abbrev agrees : Row → Bool
agrees r =
    (sizes_agree (operation_of r) (first_of r) (second_of r) && sizes_agree (operation_of r) (second_of r) (first_of r))
    && ((not (has_number (first_of r) && has_number (second_of r)) && not (has_memory (first_of r) && has_memory (second_of r)))
    && ((places_agree (second_part r) (first_of r) && places_agree (second_part r) (second_of r))
    && ((far_agrees (operation_of r) (first_of r) && order_agrees (operation_of r) (second_of r))
    && (nop_agrees (operation_of r) (first_of r) (second_of r) && (not (is_none (first_of r)) || is_none (second_of r))))))

all_agree : list_all agrees rows ≡ true
unfolding rows
all_agree = refl

pub record RowAgrees (r : Row) : Type 0 where
  pub size_first : sizes_agree (operation_of r) (first_of r) (second_of r) ≡ true
  pub size_second : sizes_agree (operation_of r) (second_of r) (first_of r) ≡ true
  pub one_number : not (has_number (first_of r) && has_number (second_of r)) ≡ true
  pub one_memory : not (has_memory (first_of r) && has_memory (second_of r)) ≡ true
  pub place_first : places_agree (second_part r) (first_of r) ≡ true
  pub place_second : places_agree (second_part r) (second_of r) ≡ true
  pub far : far_agrees (operation_of r) (first_of r) ≡ true
  pub order : order_agrees (operation_of r) (second_of r) ≡ true
  pub nop : nop_agrees (operation_of r) (first_of r) (second_of r) ≡ true
  pub none : (not (is_none (first_of r)) || is_none (second_of r)) ≡ true

pub row_agrees : (r : Row) → Contains rows r → RowAgrees r
row_agrees r within =
    let all = each agrees rows r all_agree within in
    let one = and_parts _ _ all in
    let two = and_parts _ _ one.1 in
    let three = and_parts _ _ two.1 in
    let four = and_parts _ _ three.1 in
    let size = and_parts _ _ one.0 in
    let alone = and_parts _ _ two.0 in
    let place = and_parts _ _ three.0 in
    let far = and_parts _ _ four.0 in
    let nop = and_parts _ _ four.1 in
    record {
      size_first = size.0;
      size_second = size.1;
      one_number = alone.0;
      one_memory = alone.1;
      place_first = place.0;
      place_second = place.1;
      far = far.0;
      order = far.1;
      nop = nop.0;
      none = nop.1;
    }

-- ---- sizes
plain_size : (op : Operation) (x : KnownOperand) → is_plain op ≡ true → size_beside op x ≡ register_size x
plain_size (Shift s) x e = cc
plain_size (Transfer transfer.Push) x e = cc
plain_size (Transfer transfer.Pop) x e = cc
plain_size (Control c) x e = cc
plain_size _ x e = refl

byte_beside : (f : Form) (v : Values) (next : ℕ) (l k : Kind) → is_byte_beside l ≡ true
    → register_size (asked_by (written_operand f v next l k)) ≡ Some sizes.Byte
unfolding written_operand
byte_beside f v next kinds.Reg8 k e = refl
byte_beside f v next kinds.Al k e = refl
byte_beside f v next _ k e = cc

word_beside : (f : Form) (v : Values) (next : ℕ) (l k : Kind) → is_word_beside l ≡ true
    → register_size (asked_by (written_operand f v next l k)) ≡ Some sizes.Word
unfolding written_operand
word_beside f v next kinds.Reg16 k e = refl
word_beside f v next kinds.Ax k e = refl
word_beside f v next kinds.Segment k e = refl
word_beside f v next kinds.SegmentNotCs k e = refl
word_beside f v next _ k e = cc

byte_told : (f : Form) (v : Values) (next : ℕ) (op : Operation) (l k : Kind) → (is_byte_beside l && is_plain op) ≡ true
    → size_beside op (asked_by (written_operand f v next l k)) ≡ Some sizes.Byte
byte_told f v next op l k e =
    let both = and_parts (is_byte_beside l) (is_plain op) e in
    plain_size op (asked_by (written_operand f v next l k)) both.1 ∙ byte_beside f v next l k both.0

word_told : (f : Form) (v : Values) (next : ℕ) (op : Operation) (l k : Kind) → (is_word_beside l && is_plain op) ≡ true
    → size_beside op (asked_by (written_operand f v next l k)) ≡ Some sizes.Word
word_told f v next op l k e =
    let both = and_parts (is_word_beside l) (is_plain op) e in
    plain_size op (asked_by (written_operand f v next l k)) both.1 ∙ word_beside f v next l k both.0

byte_by : (told q : Bool) (beside : Option Size) → (not told || q) ≡ true → (q ≡ true → beside ≡ Some sizes.Byte)
    → size_or (said_size (if told then None else Some keywords.Byte)) beside ≡ Some sizes.Byte
byte_by true q beside e says = says e
byte_by false q beside e says = refl

word_by : (told q : Bool) (beside : Option Size) → (not told || q) ≡ true → (q ≡ true → beside ≡ Some sizes.Word)
    → size_or (said_size (if told then None else Some keywords.Word)) beside ≡ Some sizes.Word
word_by true q beside e says = says e
word_by false q beside e says = refl

pointer_by : (op : Operation) (q : Bool) (beside : Option Size) → (is_control op || q) ≡ true → (q ≡ true → beside ≡ Some sizes.Word)
    → size_or (said_size (far_size op)) beside ≡ Some (pointer_size op)
pointer_by (Control c) q beside e says = refl
pointer_by _ q beside e says = says e

pub has_size : (f : Form) (v : Values) (next : ℕ) (op : Operation) (k l : Kind) → sizes_agree op k l ≡ true
    → HasSize op k l (asked_by (written_operand f v next l k))
has_size f v next op kinds.Rm8 l e =
    byte_by (tells_size l) (is_byte_beside l && is_plain op)
    (size_beside op (asked_by (written_operand f v next l kinds.Rm8))) e (byte_told f v next op l kinds.Rm8)
has_size f v next op kinds.Rm16 l e =
    word_by (tells_size l) (is_word_beside l && is_plain op)
    (size_beside op (asked_by (written_operand f v next l kinds.Rm16))) e (word_told f v next op l kinds.Rm16)
has_size f v next op kinds.Memory l e =
    pointer_by op (is_word_beside l && is_plain op)
    (size_beside op (asked_by (written_operand f v next l kinds.Memory))) e (word_told f v next op l kinds.Memory)
has_size f v next op kinds.At8 l e = byte_told f v next op l kinds.At8 e
has_size f v next op kinds.At16 l e = word_told f v next op l kinds.At16 e
has_size f v next op _ l e = tt

-- ---- places
memory_fits : (s : Second) (reg : ℕ) (p : Place) → FitsSecond s reg p → is_memory_alone s ≡ true → IsMemory p
memory_fits (seconds.Addressing part place_parts.Memory) reg p fits e = fits.1
memory_fits (seconds.Addressing part place_parts.Any) reg p fits e = cc
memory_fits seconds.Absent reg p fits e = cc
memory_fits (seconds.Exactly b) reg p fits e = cc

place_fits : (s : Second) (reg : ℕ) (p : Place) → FitsSecond s reg p → is_addressed s ≡ true → IsPlace p
place_fits (seconds.Addressing part place_parts.Memory) reg p fits e = memory_is_place p fits.1
place_fits (seconds.Addressing part place_parts.Any) reg p fits e = fits.1
place_fits seconds.Absent reg p fits e = cc
place_fits (seconds.Exactly b) reg p fits e = cc

pub kind_fits : (s : Second) (k : Kind) (reg : ℕ) (p : Place) → FitsSecond s reg p → places_agree s k ≡ true → FitsKind k p
kind_fits s kinds.Rm8 reg p fits e = place_fits s reg p fits e
kind_fits s kinds.Rm16 reg p fits e = place_fits s reg p fits e
kind_fits s kinds.Memory reg p fits e = memory_fits s reg p fits e
kind_fits s _ reg p fits e = tt

-- ---- whether something is written
abbrev is_solid : Written → Bool
is_solid Nothing = false
is_solid _ = true

byte_solid : (p : Place) (kw : _) (d : ℕ) → IsPlace p → is_solid (byte_operand p kw d) ≡ true
byte_solid places.Absent kw d is = absurd is
byte_solid (places.Register r) kw d is = refl
byte_solid places.Direct kw d is = refl
byte_solid (places.Base b) kw d is = refl
byte_solid (places.BaseByte b) kw d is = refl
byte_solid (places.BaseWord b) kw d is = refl

word_solid : (p : Place) (kw : _) (d : ℕ) → IsPlace p → is_solid (word_operand p kw d) ≡ true
word_solid places.Absent kw d is = absurd is
word_solid (places.Register r) kw d is = refl
word_solid places.Direct kw d is = refl
word_solid (places.Base b) kw d is = refl
word_solid (places.BaseByte b) kw d is = refl
word_solid (places.BaseWord b) kw d is = refl

target_solid : (op : Operation) (n : ℕ) → is_solid (target_operand op n) ≡ true
target_solid (Control control.Jmp) n = refl
target_solid _ n = refl

kind_solid : (f : Form) (v : Values) (next : ℕ) (k l : Kind) → is_none k ≡ false → FitsKind k f.place → is_solid (written_operand f v next k l) ≡ true
unfolding written_operand
kind_solid f v next kinds.Nothing l e fits = cc
kind_solid f v next kinds.Ten l e fits = cc
kind_solid f v next kinds.Rm8 l e fits = byte_solid f.place (written_size keywords.Byte l) v.displacement fits
kind_solid f v next kinds.Rm16 l e fits = word_solid f.place (written_size keywords.Word l) v.displacement fits
kind_solid f v next kinds.Memory l e fits = word_solid f.place (far_size (operation_of f.row)) v.displacement (memory_is_place f.place fits)
kind_solid f v next kinds.Rel8 l e fits = target_solid (operation_of f.row) _
kind_solid f v next _ l e fits = refl

kind_empty : (f : Form) (v : Values) (next : ℕ) (k l : Kind) → is_none k ≡ true → written_operand f v next k l ≡ Nothing
unfolding written_operand
kind_empty f v next kinds.Nothing l e = refl
kind_empty f v next kinds.Ten l e = refl
kind_empty f v next _ l e = cc

solid_written : (w : Written) → is_solid w ≡ true → MayBeWritten w → IsWritten w
solid_written w solid (inr is) = is
solid_written w solid (inl none) = absurd (let never : false ≡ true = sym (ap is_solid none) ∙ solid in cc)

empty_is : (w : Written) → is_solid w ≡ false → w ≡ Nothing
empty_is Nothing e = refl
empty_is _ e = cc

-- ---- numbers of both
abbrev is_numbered : Written → Bool
is_numbered One = true
is_numbered (Byte n) = true
is_numbered (Word n) = true
is_numbered (Short n) = true
is_numbered (Far s o) = true
is_numbered _ = false

abbrev pub is_remembered : Written → Bool
is_remembered (Memory m) = true
is_remembered _ = false

keeps_number : (w : Written) (m : Numbers) → is_numbered w ≡ false → ((numbers_by w m).number ≡ m.number) × ((numbers_by w m).segment ≡ m.segment)
keeps_number Nothing m e = (refl, refl)
keeps_number (Register r) m e = (refl, refl)
keeps_number (Memory a) m e = (refl, refl)
keeps_number _ m e = cc

keeps_displacement : (w : Written) (m : Numbers) → is_remembered w ≡ false → (numbers_by w m).displacement ≡ m.displacement
keeps_displacement (Memory a) m e = cc
keeps_displacement _ m e = refl

has_second : (w : Written) (m : Numbers) → Has w (numbers_by w m)
has_second Nothing m = tt
has_second (Register r) m = tt
has_second One m = refl
has_second (Byte n) m = refl
has_second (Word n) m = refl
has_second (Short n) m = refl
has_second (Far s o) m = (refl, refl)
has_second (Memory a) m = refl

no_other : (b : Bool) → not (true && b) ≡ true → b ≡ false
no_other true e = absurd (let never : false ≡ true = e in cc)
no_other false e = refl

has_first : (w u : Written) (m : Numbers) → not (is_numbered w && is_numbered u) ≡ true → not (is_remembered w && is_remembered u) ≡ true
    → Has w (numbers_by u (numbers_by w m))
has_first Nothing u m e g = tt
has_first (Register r) u m e g = tt
has_first One u m e g = (keeps_number u (numbers_by One m) (no_other (is_numbered u) e)).0
has_first (Byte n) u m e g = (keeps_number u (numbers_by (Byte n) m) (no_other (is_numbered u) e)).0
has_first (Word n) u m e g = (keeps_number u (numbers_by (Word n) m) (no_other (is_numbered u) e)).0
has_first (Short n) u m e g = (keeps_number u (numbers_by (Short n) m) (no_other (is_numbered u) e)).0
has_first (Far s o) u m e g =
    let keeps = keeps_number u (numbers_by (Far s o) m) (no_other (is_numbered u) e) in (keeps.1, keeps.0)
has_first (Memory a) u m e g = keeps_displacement u (numbers_by (Memory a) m) (no_other (is_remembered u) g)

byte_unnumbered : (p : Place) (kw : _) (d : ℕ) → is_numbered (byte_operand p kw d) ≡ false
byte_unnumbered places.Absent kw d = refl
byte_unnumbered (places.Register r) kw d = refl
byte_unnumbered places.Direct kw d = refl
byte_unnumbered (places.Base b) kw d = refl
byte_unnumbered (places.BaseByte b) kw d = refl
byte_unnumbered (places.BaseWord b) kw d = refl

word_unnumbered : (p : Place) (kw : _) (d : ℕ) → is_numbered (word_operand p kw d) ≡ false
word_unnumbered places.Absent kw d = refl
word_unnumbered (places.Register r) kw d = refl
word_unnumbered places.Direct kw d = refl
word_unnumbered (places.Base b) kw d = refl
word_unnumbered (places.BaseByte b) kw d = refl
word_unnumbered (places.BaseWord b) kw d = refl

unnumbered : (f : Form) (v : Values) (next : ℕ) (k l : Kind) → has_number k ≡ false → is_numbered (written_operand f v next k l) ≡ false
unfolding written_operand
unnumbered f v next kinds.One l e = cc
unnumbered f v next kinds.EscNumber l e = cc
unnumbered f v next kinds.Imm8 l e = cc
unnumbered f v next kinds.Imm16 l e = cc
unnumbered f v next kinds.Signed8 l e = cc
unnumbered f v next kinds.Rel8 l e = cc
unnumbered f v next kinds.Rel16 l e = cc
unnumbered f v next kinds.Far l e = cc
unnumbered f v next kinds.Rm8 l e = byte_unnumbered f.place (written_size keywords.Byte l) v.displacement
unnumbered f v next kinds.Rm16 l e = word_unnumbered f.place (written_size keywords.Word l) v.displacement
unnumbered f v next kinds.Memory l e = word_unnumbered f.place (far_size (operation_of f.row)) v.displacement
unnumbered f v next _ l e = refl

target_unremembered : (op : Operation) (n : ℕ) → is_remembered (target_operand op n) ≡ false
target_unremembered (Control control.Jmp) n = refl
target_unremembered _ n = refl

pub unremembered : (f : Form) (v : Values) (next : ℕ) (k l : Kind) → has_memory k ≡ false → is_remembered (written_operand f v next k l) ≡ false
unfolding written_operand
unremembered f v next kinds.Rm8 l e = cc
unremembered f v next kinds.Rm16 l e = cc
unremembered f v next kinds.Memory l e = cc
unremembered f v next kinds.At8 l e = cc
unremembered f v next kinds.At16 l e = cc
unremembered f v next kinds.Rel8 l e = target_unremembered (operation_of f.row) _
unremembered f v next _ l e = refl

not_both : (h j a b : Bool) → not (h && j) ≡ true → (h ≡ false → a ≡ false) → (j ≡ false → b ≡ false) → not (a && b) ≡ true
not_both false j a b e one two = rw (one refl) refl
not_both true true a b e one two = absurd (let never : false ≡ true = e in cc)
not_both true false true b e one two = rw (two refl) refl
not_both true false false b e one two = refl

-- ---- the operation that is meant
same_either : (b : Bool) (op : Operation) → (if b then op else op) ≡ op
same_either true op = refl
same_either false op = refl

abbrev pub IsFarAs : Operation → Bool → Type 0
IsFarAs (Control control.Jmp) b = b ≡ false
IsFarAs (Control control.Call) b = b ≡ false
IsFarAs (Control control.JmpFar) b = b ≡ true
IsFarAs (Control control.CallFar) b = b ≡ true
IsFarAs _ b = Unit {0}

operation_as_said : (op : Operation) (x : KnownOperand) → IsFarAs op (is_far x) → operation_meant (said_mnemonic op) x ≡ op
operation_as_said (Control control.Jmp) x is = ap (λ (b : Bool). if b then Control control.JmpFar else Control control.Jmp) is
operation_as_said (Control control.Call) x is = ap (λ (b : Bool). if b then Control control.CallFar else Control control.Call) is
operation_as_said (Control control.JmpFar) x is = ap (λ (b : Bool). if b then Control control.JmpFar else Control control.Jmp) is
operation_as_said (Control control.CallFar) x is = ap (λ (b : Bool). if b then Control control.CallFar else Control control.Call) is
operation_as_said op x is = same_either (is_far x) op

operand_as_said : (op : Operation) (x : KnownOperand) → operand_as_meant (said_mnemonic op) x ≡ x
operand_as_said (Control control.Jmp) x = refl
operand_as_said (Control control.Call) x = refl
operand_as_said (Control control.JmpFar) x = refl
operand_as_said (Control control.CallFar) x = refl
operand_as_said _ x = refl

target_near : (op : Operation) (n : ℕ) → is_far (asked_by (target_operand op n)) ≡ false
target_near (Control control.Jmp) n = refl
target_near _ n = refl

word_near : (p : Place) (told : Bool) (d : ℕ) → is_far (asked_by (word_operand p (if told then None else Some keywords.Word) d)) ≡ false
word_near places.Absent told d = refl
word_near (places.Register r) told d = refl
word_near places.Direct true d = refl
word_near places.Direct false d = refl
word_near (places.Base b) true d = refl
word_near (places.Base b) false d = refl
word_near (places.BaseByte b) true d = refl
word_near (places.BaseByte b) false d = refl
word_near (places.BaseWord b) true d = refl
word_near (places.BaseWord b) false d = refl

kind_near : (f : Form) (v : Values) (next : ℕ) (k l : Kind) → is_near_kind k ≡ true → is_far (asked_by (written_operand f v next k l)) ≡ false
unfolding written_operand
kind_near f v next kinds.Rel8 l e = target_near (operation_of f.row) _
kind_near f v next kinds.Rel16 l e = refl
kind_near f v next kinds.Rm16 l e = word_near f.place (tells_size l) v.displacement
kind_near f v next _ l e = cc

place_far : (p : Place) (d : ℕ) → IsMemory p → is_far (asked_by (word_operand p (Some keywords.Far) d)) ≡ true
place_far places.Absent d is = absurd is
place_far (places.Register r) d is = absurd is
place_far places.Direct d is = refl
place_far (places.Base b) d is = refl
place_far (places.BaseByte b) d is = refl
place_far (places.BaseWord b) d is = refl

kind_far : (f : Form) (v : Values) (next : ℕ) (k l : Kind) → is_far_kind k ≡ true → far_size (operation_of f.row) ≡ Some keywords.Far → FitsKind k f.place
    → is_far (asked_by (written_operand f v next k l)) ≡ true
unfolding written_operand
kind_far f v next kinds.Far l e far fits = refl
kind_far f v next kinds.Memory l e far fits = ap (λ s. is_far (asked_by (word_operand f.place s v.displacement))) far ∙ place_far f.place v.displacement fits
kind_far f v next _ l e far fits = cc

far_as : (f : Form) (v : Values) (next : ℕ) (op : Operation) (k l : Kind) → operation_of f.row ≡ op → far_agrees op k ≡ true → FitsKind k f.place
    → IsFarAs op (is_far (asked_by (written_operand f v next k l)))
far_as f v next (Control control.Jmp) k l is e fits = kind_near f v next k l e
far_as f v next (Control control.Call) k l is e fits = kind_near f v next k l e
far_as f v next (Control control.JmpFar) k l is e fits = kind_far f v next k l e (ap far_size is) fits
far_as f v next (Control control.CallFar) k l is e fits = kind_far f v next k l e (ap far_size is) fits
far_as f v next _ k l is e fits = tt

-- ---- the order of the operands
pub exchanged_is : (op : Operation) (x y : KnownOperand) → is_exchanged op x y ≡ true
    → (op ≡ Arithmetic Test → is_memory y ≡ false) → op ≡ Transfer transfer.Xchg
exchanged_is (Arithmetic Test) x y e not_memory = absurd (let never : false ≡ true = sym (not_memory refl) ∙ e in cc)
exchanged_is (Transfer transfer.Xchg) x y e not_memory = refl
exchanged_is _ x y e not_memory = absurd (let never : false ≡ true = e in cc)

pub remembered_is : (w : Written) → is_memory (asked_by w) ≡ is_remembered w
remembered_is Nothing = refl
remembered_is (Register r) = refl
remembered_is One = refl
remembered_is (Byte n) = refl
remembered_is (Word n) = refl
remembered_is (Short n) = refl
remembered_is (Far s o) = refl
remembered_is (Memory m) = refl

pub not_true : (b : Bool) → not b ≡ true → b ≡ false
not_true true e = absurd (let never : false ≡ true = e in cc)
not_true false e = refl

order_is : (op : Operation) (l : Kind) (w : Written) → order_agrees op l ≡ true
    → (has_memory l ≡ false → is_remembered w ≡ false) → op ≡ Arithmetic Test → is_memory (asked_by w) ≡ false
order_is op l w e says is =
    let agrees : not (has_memory l) ≡ true = subst (λ (o : Operation). order_agrees o l ≡ true) is e in
    remembered_is w ∙ says (not_true (has_memory l) agrees)

-- ---- both operands of an instruction ask what they mean
pub record AskBoth (f : Form) (v : Values) (next : ℕ) (n : Numbers) : Type 0 where
  pub first : Asks (operation_of f.row) (first_written f v next) (asked_by (second_written f v next)) n (operand_meant f v next (first_of f.row))
  pub second : Asks (operation_of f.row) (second_written f v next) (asked_by (first_written f v next)) n (operand_meant f v next (second_of f.row))
  pub order : operation_of f.row ≡ Arithmetic Test → is_memory (asked_by (second_written f v next)) ≡ false
  pub far : IsFarAs (operation_of f.row) (is_far (asked_by (first_written f v next)))
  pub has_first : Has (first_written f v next) n
  pub has_second : Has (second_written f v next) n
  pub size : HasSize (operation_of f.row) (first_of f.row) (second_of f.row) (asked_by (second_written f v next))

abbrev pub numbers_said : Form → Values → ℕ → Numbers
numbers_said f v next = numbers_by (second_written f v next) (numbers_by (first_written f v next) no_numbers)

small_values : (f : Form) (v : Values) → FitsForm f v → IsSmall v
small_values f v fits = record {
  displacement = (field_small (displacement_field f.place) v.displacement 0 fits.displacement).0;
  number = (field_small (field_part f.row) v.number v.segment fits.number).0;
  segment = (field_small (field_part f.row) v.number v.segment fits.number).1;
}

pub ask_both : (f : Form) (v : Values) (next : ℕ) → IsForm f → FitsForm f v → AskBoth f v next (numbers_said f v next)
ask_both f v next is fits =
    let r : Row = f.row in
    let op : Operation = operation_of r in
    let k : Kind = first_of r in
    let l : Kind = second_of r in
    let has : RowAgrees r = row_agrees r is.row in
    let one : Written = first_written f v next in
    let two : Written = second_written f v next in
    let small : IsSmall v = small_values f v fits in
    let first_fits : FitsKind k f.place = kind_fits (second_part r) k f.reg f.place is.second has.place_first in
    let second_fits : FitsKind l f.place = kind_fits (second_part r) l f.reg f.place is.second has.place_second in
    let numbers : not (is_numbered one && is_numbered two) ≡ true =
    not_both (has_number k) (has_number l) (is_numbered one) (is_numbered two) has.one_number (unnumbered f v next k l) (unnumbered f v next l k) in
    let memory : not (is_remembered one && is_remembered two) ≡ true =
    not_both (has_memory k) (has_memory l) (is_remembered one) (is_remembered two) has.one_memory (unremembered f v next k l) (unremembered f v next l k) in
    record {
      first = kind_asks f v next k l (asked_by two) (numbers_said f v next) small first_fits
          (has_first one two no_numbers numbers memory) (has_size f v next op k l has.size_first);
      second = kind_asks f v next l k (asked_by one) (numbers_said f v next) small second_fits
          (has_second two (numbers_by one no_numbers)) (has_size f v next op l k has.size_second);
      order = order_is op l two has.order (unremembered f v next l k);
      far = far_as f v next op k l refl has.far first_fits;
      has_first = has_first one two no_numbers numbers memory;
      has_second = has_second two (numbers_by one no_numbers);
      size = has_size f v next op k l has.size_first;
    }

-- ---- what a line with both operands is asked
pub both_said : (names : Names) (here : ℕ) (f : Form) (v : Values) (next : ℕ) → IsForm f → FitsForm f v
    → AreBoth names here (first_written f v next) (second_written f v next)
both_said names here f v next is fits =
    let r : Row = f.row in
    let k : Kind = first_of r in
    let l : Kind = second_of r in
    let has : RowAgrees r = row_agrees r is.row in
    let one : Written = first_written f v next in
    let two : Written = second_written f v next in
    let first_fits : FitsKind k f.place = kind_fits (second_part r) k f.reg f.place is.second has.place_first in
    by_first (is_none k) (is_none l) refl refl has.none first_fits
  where
    by_second : (s : Bool) → is_solid (second_written f v next) ≡ s → IsWritten (first_written f v next)
        → AreBoth names here (first_written f v next) (second_written f v next)
    by_second true e one =
        two_said names here (first_written f v next) (second_written f v next) one
        (solid_written (second_written f v next) e (operand_written f v next (second_of f.row) (first_of f.row) fits))
    by_second false e one =
        subst (AreBoth names here (first_written f v next)) (sym (empty_is (second_written f v next) e)) (one_said names here (first_written f v next) one)

    by_first : (a b : Bool) → is_none (first_of f.row) ≡ a → is_none (second_of f.row) ≡ b → (not a || b) ≡ true → FitsKind (first_of f.row) f.place
        → AreBoth names here (first_written f v next) (second_written f v next)
    by_first true true p q e first_fits =
        subst (λ (w : Written). AreBoth names here w (second_written f v next)) (sym (kind_empty f v next (first_of f.row) (second_of f.row) p))
        (subst (AreBoth names here Nothing) (sym (kind_empty f v next (second_of f.row) (first_of f.row) q)) (none_said names here))
    by_first true false p q e first_fits = absurd (let never : false ≡ true = e in cc)
    by_first false b p q e first_fits =
        by_second (is_solid (second_written f v next)) refl
        (solid_written (first_written f v next) (kind_solid f v next (first_of f.row) (second_of f.row) p first_fits)
        (operand_written f v next (first_of f.row) (second_of f.row) fits))

-- ---- the form that is chosen for what is asked
chosen_by : (b : Bool) (o : Option Asked) (a : Asked) → (if b then o else None) ≡ Some a → o ≡ Some a
chosen_by true o a e = e
chosen_by false o a e = absurd (let never : None ≡ Some a = e in cc)

some_asked : (a b : Asked) → Some a ≡ Some b → a ≡ b
some_asked a b e = cc

asked_is : (before : Names) (i : Instr) (ip : ℕ) (x y : KnownOperand) (a : Asked)
    → known_operands before (operands_in i.form i.values (next_of i ip)) ≡ Some (x, y)
    → instruction_asked before (said_instruction i ip) ≡ Some a → asked (mnemonic_in i.form) x y ≡ a
unfolding instruction_asked
asked_is before i ip x y a known_are is =
    some_asked (asked (mnemonic_in i.form) x y) a
    (sym (ap (option_map (λ os. asked (mnemonic_in i.form) os.0 os.1)) known_are)
    ∙ chosen_by (nat_le (length (prefixes_of (said_instruction i ip))) 7)
    (option_map (λ os. asked (mnemonic_in i.form) os.0 os.1) (known_operands before (operands_in i.form i.values (next_of i ip)))) a is)

plain_asked : (op : Operation) (x y : KnownOperand) → IsFarAs op (is_far x) → asked (said_mnemonic op) x y ≡ asked_of op x y
unfolding asked
plain_asked op x y far = rw (operation_as_said op x far, operand_as_said op x, operand_as_said op y) refl

prefixes_same : (i : Instr) (ip : ℕ) → override_of (operands_in i.form i.values (next_of i ip)) ≡ None → prefixes_of (said_instruction i ip) ≡ i.prefixes.items
unfolding prefixes_of
prefixes_same i ip none = ap (λ o. i.prefixes.items ++ override_prefix o) none ∙ append-nil i.prefixes.items

-- ---- what the text of an instruction says
-- the text has these operands, by the names before it, and these numbers, by all names; and this is what they ask
pub record Says (before names : Names) (here : ℕ) (i : Instr) (x y : KnownOperand) (n : Numbers) (a : Asked) : Type 0 where
  pub known_are : known_operands before (operands_in i.form i.values (next_of i here)) ≡ Some (x, y)
  pub numbers : numbers_of names here (operands_in i.form i.values (next_of i here)) ≡ Some n
  pub asks : asked (mnemonic_in i.form) x y ≡ a
  pub prefixes : prefixes_of (said_instruction i here) ≡ i.prefixes.items

pub chosen_said : (before names : Names) (here : ℕ) (i : Instr) (f : Form) (x y : KnownOperand) (n : Numbers) (a : Asked) → Says before names here i x y n a
    → IsFormFor (instruction_asked before (said_instruction i here)) (Some f) → IsChosen a f
chosen_said before names here i f x y n a says formed =
    let chosen = chosen_there (instruction_asked before (said_instruction i here)) f formed in
    subst (λ (b : Asked). IsChosen b f) (sym (asked_is before i here x y chosen.0 says.known_are chosen.1) ∙ says.asks) chosen.2

-- the text of XCHG AX,AX
abbrev pub ax : KnownOperand
ax = known.Register (registers.Word Ax)

pub nop_says : (before names : Names) (here : ℕ) (i : Instr) → is_nop i.form ≡ true
    → Says before names here i known.Nothing known.Nothing no_numbers (asked_in_order (Transfer transfer.Xchg) ax ax)
unfolding asked numbers_of
nop_says before names here i nop =
    let none : operands_in i.form i.values (next_of i here) ≡ [] =
    ap (λ (b : Bool). if b then [] else said_operands (first_written i.form i.values (next_of i here)) (second_written i.form i.values (next_of i here))) nop in
    record {
      known_are = ap (known_operands before) none;
      numbers = ap (numbers_of names here) none;
      asks = ap (λ (b : Bool). asked (if b then mnemonics.Nop else said_mnemonic (operation_of i.form.row)) known.Nothing known.Nothing) nop;
      prefixes = prefixes_same i here (ap override_of none);
    }

-- what the text of an instruction asks for its first operand, if it isn't XCHG AX,AX
abbrev pub first_asked : Instr → ℕ → KnownOperand
first_asked i ip = asked_by (first_written i.form i.values (next_of i ip))

abbrev pub second_asked : Instr → ℕ → KnownOperand
second_asked i ip = asked_by (second_written i.form i.values (next_of i ip))

pub plain_says : (before names : Names) (here : ℕ) (i : Instr) → IsInstr i → is_nop i.form ≡ false
    → Says before names here i (first_asked i here) (second_asked i here) (numbers_said i.form i.values (next_of i here))
    (asked_of (operation_of i.form.row) (first_asked i here) (second_asked i here))
plain_says before names here i is plain =
    let next : ℕ = next_of i here in
    let op : Operation = operation_of i.form.row in
    let one : Written = first_written i.form i.values next in
    let two : Written = second_written i.form i.values next in
    let are : AreBoth names here one two = both_said names here i.form i.values next is.form is.values in
    let operands : operands_in i.form i.values next ≡ said_operands one two = ap (λ (b : Bool). if b then [] else said_operands one two) plain in
    record {
      known_are = ap (known_operands before) operands ∙ (both_said before here i.form i.values next is.form is.values).asked;
      numbers = ap (numbers_of names here) operands ∙ are.numbers;
      asks = ap (λ (b : Bool). asked (if b then mnemonics.Nop else said_mnemonic op) (asked_by one) (asked_by two)) plain
          ∙ plain_asked op (asked_by one) (asked_by two) (ask_both i.form i.values next is.form is.values).far;
      prefixes = prefixes_same i here (ap override_of operands ∙ are.override);
    }

-- ---- the same meaning
-- the operands of the form that is chosen, by value
values_meant : (before names : Names) (location : Location) (size : ℕ) (i : Instr) (f : Form) (v : Values) (x y : KnownOperand) (n : Numbers) (a : Asked)
    → Says before names location.offset i x y n a → AreOf a.first n → AreOf a.second n
    → IsFormFor (instruction_asked before (said_instruction i location.offset)) (Some f)
    → fields_of names location size f (said_instruction i location.offset) ≡ Some v
    → IsOfValues a n f v ((location.offset + size) % 65536)
values_meant before names location size i f v x y n a says one two formed fields =
    forms_mean_what_is_asked a f v (location.offset + size) n (chosen_said before names location.offset i f x y n a says formed)
    (sym (ap (fields_for f (location.offset + size)) says.numbers) ∙ fields) one two

-- an operand that is asked, and what it means
abbrev Asks' : Operation → KnownOperand → KnownOperand → Numbers → Meant → Type 0
Asks' op x y n meant = AreOf (sized op x y) n × (meant ≡ asked_meant (sized op x y) n)

-- the operands in the order of the text
in_order : (op : Operation) (i j : Instr) (ip : ℕ) (n : Numbers) (x y : KnownOperand)
    → IsOfValues (asked_in_order op x y) n j.form j.values ((ip + instr_length j) % 65536) → op ≡ operation_of i.form.row → j.prefixes.items ≡ i.prefixes.items
    → first_meant i ip ≡ asked_meant (sized op x y) n → second_meant i ip ≡ asked_meant (sized op y x) n → MeansTheSame i j ip
in_order op i j ip n x y is op_is prefixes first second = record {
  operation = is.operation ∙ op_is;
  prefixes = prefixes;
  operands = inl (is.first ∙ sym first, is.second ∙ sym second);
}

exchanged : (op : Operation) (i j : Instr) (ip : ℕ) (n : Numbers) (x y : KnownOperand)
    → IsOfValues (asked_in_order op y x) n j.form j.values ((ip + instr_length j) % 65536)
    → op ≡ operation_of i.form.row → op ≡ Transfer transfer.Xchg → j.prefixes.items ≡ i.prefixes.items
    → first_meant i ip ≡ asked_meant (sized op x y) n → second_meant i ip ≡ asked_meant (sized op y x) n → MeansTheSame i j ip
exchanged op i j ip n x y is op_is xchg prefixes first second = record {
  operation = is.operation ∙ op_is;
  prefixes = prefixes;
  operands = inr (sym op_is ∙ xchg, is.first ∙ sym second, is.second ∙ sym first);
}

-- ---- NOP
pub record IsNop (f : Form) : Type 0 where
  pub operation : operation_of f.row ≡ Transfer transfer.Xchg
  pub first : first_of f.row ≡ kinds.Ax
  pub code : f.code ≡ 0

xchg_is : (op : Operation) → is_xchg op ≡ true → op ≡ Transfer transfer.Xchg
xchg_is (Transfer transfer.Xchg) e = refl
xchg_is _ e = cc

ax_is : (k : Kind) → is_ax k ≡ true → k ≡ kinds.Ax
ax_is kinds.Ax e = refl
ax_is _ e = cc

nop_is : (f : Form) → is_nop f ≡ true → IsNop f
nop_is f e =
    let one = and_parts _ _ e in
    let two = and_parts _ _ one.1 in
    record { operation = xchg_is (operation_of f.row) one.0; first = ax_is (first_of f.row) two.0; code = eqb-true f.code 0 two.1 }

code_word_is : (k : Kind) → is_code_word k ≡ true → k ≡ kinds.Code16
code_word_is kinds.Code16 e = refl
code_word_is _ e = cc

nop_second : (f : Form) → IsForm f → IsNop f → second_of f.row ≡ kinds.Code16
nop_second f is nop =
    let has : RowAgrees f.row = row_agrees f.row is.row in
    code_word_is (second_of f.row)
    (subst (λ (k : Kind). nop_agrees (Transfer transfer.Xchg) k (second_of f.row) ≡ true) nop.first
    (subst (λ (o : Operation). nop_agrees o (first_of f.row) (second_of f.row) ≡ true) nop.operation has.nop))

nop_first_meant : (f : Form) (v : Values) (next : ℕ) → IsNop f → operand_meant f v next (first_of f.row) ≡ a_register (registers.Word Ax)
unfolding operand_meant
nop_first_meant f v next nop = rw nop.first refl

nop_second_meant : (f : Form) (v : Values) (next : ℕ) → IsForm f → IsNop f → operand_meant f v next (second_of f.row) ≡ a_register (registers.Word Ax)
unfolding operand_meant
nop_second_meant f v next is nop = rw (nop_second f is nop, nop.code) refl

-- ---- the law
nop_means : (before names : Names) (location : Location) (i : Instr) (f : Form) (v : Values) → IsInstr i → is_nop i.form ≡ true
    → IsFormFor (instruction_asked before (said_instruction i location.offset)) (Some f)
    → fields_of names location (instruction_size f (said_instruction i location.offset)) f (said_instruction i location.offset) ≡ Some v
    → MeansTheSame i (instr_of f (said_instruction i location.offset) v) location.offset
nop_means before names location i f v is nop formed fields =
    let ip : ℕ = location.offset in
    let said = said_instruction i ip in
    let size : ℕ = instruction_size f said in
    let isnop : IsNop i.form = nop_is i.form nop in
    let says = nop_says before names ip i nop in
    in_order (Transfer transfer.Xchg) i (instr_of f said v) ip no_numbers ax ax
    (values_meant before names location size i f v known.Nothing known.Nothing no_numbers
    (asked_in_order (Transfer transfer.Xchg) ax ax) says tt tt formed fields)
    (sym isnop.operation) says.prefixes (nop_first_meant i.form i.values (next_of i ip) isnop) (nop_second_meant i.form i.values (next_of i ip) is.form isnop)

-- the two orders
by_order : (b : Bool) (op : Operation) (i j : Instr) (ip : ℕ) (n : Numbers) (x y : KnownOperand)
    → is_exchanged op x y ≡ b → op ≡ operation_of i.form.row → (op ≡ Arithmetic Test → is_memory y ≡ false)
    → ((a : Asked) → (if b then asked_in_order op y x else asked_in_order op x y) ≡ a → AreOf a.first n → AreOf a.second n
    → IsOfValues a n j.form j.values ((ip + instr_length j) % 65536))
    → j.prefixes.items ≡ i.prefixes.items → Asks' op x y n (first_meant i ip) → Asks' op y x n (second_meant i ip) → MeansTheSame i j ip
by_order false op i j ip n x y e op_is order meant prefixes first second =
    in_order op i j ip n x y (meant (asked_in_order op x y) refl first.0 second.0) op_is prefixes first.1 second.1
by_order true op i j ip n x y e op_is order meant prefixes first second =
    exchanged op i j ip n x y (meant (asked_in_order op y x) refl second.0 first.0) op_is (exchanged_is op x y e order) prefixes first.1 second.1

plain_means : (before names : Names) (location : Location) (i : Instr) (f : Form) (v : Values) → IsInstr i → is_nop i.form ≡ false
    → IsFormFor (instruction_asked before (said_instruction i location.offset)) (Some f)
    → fields_of names location (instruction_size f (said_instruction i location.offset)) f (said_instruction i location.offset) ≡ Some v
    → MeansTheSame i (instr_of f (said_instruction i location.offset) v) location.offset
plain_means before names location i f v is plain formed fields =
    let ip : ℕ = location.offset in
    let next : ℕ = next_of i ip in
    let said = said_instruction i ip in
    let size : ℕ = instruction_size f said in
    let op : Operation = operation_of i.form.row in
    let x : KnownOperand = first_asked i ip in
    let y : KnownOperand = second_asked i ip in
    let n : Numbers = numbers_said i.form i.values next in
    let both : AskBoth i.form i.values next n = ask_both i.form i.values next is.form is.values in
    let says = plain_says before names ip i is plain in
    by_order (is_exchanged op x y) op i (instr_of f said v) ip n x y refl refl both.order
    (λ a a_is first second. values_meant before names location size i f v x y n a (subst (Says before names ip i x y n) a_is says) first second formed fields)
    says.prefixes both.first both.second

pub texts_mean_the_same : TextsMeanTheSame
texts_mean_the_same before names location i f v is formed fields = by (is_nop i.form) refl
  where
    by : (b : Bool) → is_nop i.form ≡ b → MeansTheSame i (instr_of f (said_instruction i location.offset) v) location.offset
    by true nop = nop_means before names location i f v is nop formed fields
    by false plain = plain_means before names location i f v is plain formed fields
