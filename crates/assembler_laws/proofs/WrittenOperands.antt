-- What is written for operands is in range, and each is an operand that a line may have.
use Rattle.std.proofs.Common.{◌≡◌, ◌∙◌, ℕ, ◌+◌, ◌%◌, ◌<◌, List, [], ◌∷◌, refl, sym, ap, subst, arith}
use Rattle.std.proofs.Common.{inl, inr, Bool, true, false, nat_lt, if◌then◌else◌, Option, None, Some}
use Rattle.std.specs.Prelude.{◌⊎◌}
use Rattle.std.specs.List.{AllByRecursion}
use Rattle.std.specs.Option.{option_map}
use Rattle.std.proofs.lemmas.Bool.Decides.{nat_tests}
use Rattle.isa.specs.declared.operation.Operation.{Operation}
use Rattle.isa.specs.declared.operation.Operation.TheVariants.{Control}
use Rattle.isa.specs.declared.operation.Control.TheVariants as control
use Rattle.isa.specs.declared.layout.Field.{Field}
use Rattle.isa.specs.declared.layout.Field.TheVariants as fields
use Rattle.isa.specs.declared.form.Base.{Base}
use Rattle.isa.specs.declared.form.Place.{Place}
use Rattle.isa.specs.declared.form.Place.TheVariants as places
use Rattle.isa.specs.declared.form.Form.{Form}
use Rattle.isa.specs.declared.form.Values.{Values}
use Rattle.isa.specs.declared.row.Kind.{Kind}
use Rattle.isa.specs.declared.row.Kind.TheVariants as kinds
use Rattle.isa.specs.Row.{first_of, operation_of, second_of}
use Rattle.isa.specs.Layout.{field_part}
use Rattle.isa.specs.Encoding.{displacement_field, sign_extended, FitsField, FitsForm}
use Rattle.dialect.specs.declared.keyword.Keyword.{Keyword}
use Rattle.dialect.specs.declared.keyword.Keyword.TheVariants as keywords
use Rattle.disassembler.specs.declared.written.Written.{Written}
use Rattle.disassembler.specs.declared.written.Written.TheVariants.{Nothing, Register, One, Byte, Word, Short, Far, Memory}
use Rattle.disassembler.specs.Text.{is_nop}
use Rattle.disassembler.specs.Written.{byte_operand, far_size, size_beside, target_operand, tells_size, word_operand, written_operand}
use Rattle.assembler_syntax.specs.declared.operand.Operand.{Operand}
use Rattle.assembler_syntax.specs.declared.operand.Operand.TheVariants as operands
use Rattle.assembler_syntax.specs.Spelling.{IsInner, IsOperand}
use Rattle.assembler_laws.specs.SaidTexts.{first_written, number, operands_in, said_address, said_operand, said_operands, second_written}

abbrev pub IsAddress : Option Base → Option ℕ → Type 0
IsAddress None None = ⊥
IsAddress (Some base) None = Unit {0}
IsAddress base (Some displacement) = displacement < 65536

abbrev pub IsSizeWord : Option Keyword → Type 0
IsSizeWord None = Unit {0}
IsSizeWord (Some keywords.Byte) = Unit {0}
IsSizeWord (Some keywords.Word) = Unit {0}
IsSizeWord (Some keywords.Far) = Unit {0}
IsSizeWord (Some k) = ⊥

-- ---- operands
abbrev pub IsWritten : Written → Type 0
IsWritten Nothing = ⊥
IsWritten (Register r) = Unit {0}
IsWritten One = Unit {0}
IsWritten (Byte n) = n < 256
IsWritten (Word n) = n < 65536
IsWritten (Short n) = n < 65536
IsWritten (Far s o) = (s < 65536) × (o < 65536)
IsWritten (Memory m) = IsSizeWord m.size × IsAddress m.base m.displacement

-- the one operand that is said
abbrev pub operand_said : Written → Operand
operand_said Nothing = operands.One
operand_said (Register r) = operands.Register r
operand_said One = operands.One
operand_said (Byte n) = operands.Value (number n)
operand_said (Word n) = operands.Value (number n)
operand_said (Short n) = operands.Short (number n)
operand_said (Far s o) = operands.FarPointer (number s) (number o)
operand_said (Memory m) = operands.Memory (said_address m)

pub said_is : (w : Written) → IsWritten w → said_operand w ≡ operand_said w ∷ []
said_is Nothing is = absurd is
said_is (Register r) is = refl
said_is One is = refl
said_is (Byte n) is = refl
said_is (Word n) is = refl
said_is (Short n) is = refl
said_is (Far s o) is = refl
said_is (Memory m) is = refl

abbrev pub MayBeWritten : Written → Type 0
MayBeWritten w = (w ≡ Nothing) ⊎ IsWritten w

pub said_with_first : (v w : Written) → IsWritten v → said_operands v w ≡ operand_said v ∷ said_operand w
said_with_first Nothing w is = absurd is
said_with_first (Register r) w is = refl
said_with_first One w is = refl
said_with_first (Byte n) w is = refl
said_with_first (Word n) w is = refl
said_with_first (Short n) w is = refl
said_with_first (Far s o) w is = refl
said_with_first (Memory m) w is = refl

-- ---- what is written is in range
pub field_small : (field : Field) (n s : ℕ) → FitsField field n s → (n < 65536) × (s < 65536)
field_small fields.Absent n s fits = (omega (arith, fits.0), omega (arith, fits.1))
field_small fields.Byte n s fits = (omega (arith, fits.0), omega (arith, fits.1))
field_small fields.Word n s fits = (fits.0, omega (arith, fits.1))
field_small fields.Far n s fits = fits

pub signed_small : (n : ℕ) → sign_extended n < 65536
signed_small n = by (nat_lt n 128) refl
  where
    by : (b : Bool) → nat_lt n 128 ≡ b → (if b then n else (n + 65280) % 65536) < 65536
    by true is = grind (arith, nat_tests)
    by false is = omega arith

byte_written : (size : Option Keyword) → IsSizeWord size → (place : Place) (d : ℕ) → d < 65536 → MayBeWritten (byte_operand place size d)
byte_written size is places.Absent d small = inl refl
byte_written size is (places.Register n) d small = inr tt
byte_written size is places.Direct d small = inr (is, small)
byte_written size is (places.Base base) d small = inr (is, tt)
byte_written size is (places.BaseByte base) d small = inr (is, signed_small d)
byte_written size is (places.BaseWord base) d small = inr (is, small)

word_written : (size : Option Keyword) → IsSizeWord size → (place : Place) (d : ℕ) → d < 65536 → MayBeWritten (word_operand place size d)
word_written size is places.Absent d small = inl refl
word_written size is (places.Register n) d small = inr tt
word_written size is places.Direct d small = inr (is, small)
word_written size is (places.Base base) d small = inr (is, tt)
word_written size is (places.BaseByte base) d small = inr (is, signed_small d)
word_written size is (places.BaseWord base) d small = inr (is, small)

chosen_size : (b : Bool) (k : Keyword) → IsSizeWord (Some k) → IsSizeWord (if b then None else Some k)
chosen_size true k is = tt
chosen_size false k is = is

far_word : (o : Operation) → IsSizeWord (far_size o)
far_word (Control c) = tt
far_word _ = tt

target_written : (o : Operation) (n : ℕ) → n < 65536 → MayBeWritten (target_operand o n)
target_written (Control control.Jmp) n small = inr small
target_written _ n small = inr small

pub operand_written : (f : Form) (v : Values) (next : ℕ) (k other : Kind) → FitsForm f v → MayBeWritten (written_operand f v next k other)
unfolding written_operand
operand_written f v next kinds.Nothing other fits = inl refl
operand_written f v next kinds.Ten other fits = inl refl
operand_written f v next kinds.Al other fits = inr tt
operand_written f v next kinds.Ax other fits = inr tt
operand_written f v next kinds.Cl other fits = inr tt
operand_written f v next kinds.Dx other fits = inr tt
operand_written f v next kinds.One other fits = inr tt
operand_written f v next kinds.Code8 other fits = inr tt
operand_written f v next kinds.Code16 other fits = inr tt
operand_written f v next kinds.CodeSegment other fits = inr tt
operand_written f v next kinds.CodeSegmentNotCs other fits = inr tt
operand_written f v next kinds.EscNumber other fits = inr (omega arith)
operand_written f v next kinds.Reg8 other fits = inr tt
operand_written f v next kinds.Reg16 other fits = inr tt
operand_written f v next kinds.Segment other fits = inr tt
operand_written f v next kinds.SegmentNotCs other fits = inr tt
operand_written f v next kinds.Rm8 other fits =
    byte_written (size_beside keywords.Byte other) (chosen_size (tells_size other) keywords.Byte tt) f.place v.displacement
    (field_small (displacement_field f.place) v.displacement 0 fits.displacement).0
operand_written f v next kinds.Rm16 other fits =
    word_written (size_beside keywords.Word other) (chosen_size (tells_size other) keywords.Word tt) f.place v.displacement
    (field_small (displacement_field f.place) v.displacement 0 fits.displacement).0
operand_written f v next kinds.Memory other fits =
    word_written (far_size (operation_of f.row)) (far_word (operation_of f.row)) f.place v.displacement
    (field_small (displacement_field f.place) v.displacement 0 fits.displacement).0
operand_written f v next kinds.Imm8 other fits = inr (omega arith)
operand_written f v next kinds.Imm16 other fits = inr (field_small (field_part f.row) v.number v.segment fits.number).0
operand_written f v next kinds.Signed8 other fits = inr (signed_small v.number)
operand_written f v next kinds.Rel8 other fits = target_written (operation_of f.row) ((next + sign_extended v.number) % 65536) (omega arith)
operand_written f v next kinds.Rel16 other fits = inr (omega arith)
operand_written f v next kinds.At8 other fits = inr (tt, (field_small (field_part f.row) v.number v.segment fits.number).0)
operand_written f v next kinds.At16 other fits = inr (tt, (field_small (field_part f.row) v.number v.segment fits.number).0)
operand_written f v next kinds.Far other fits =
    inr ((field_small (field_part f.row) v.number v.segment fits.number).1, (field_small (field_part f.row) v.number v.segment fits.number).0)

-- ---- each is an operand
operand_fine : (w : Written) → IsWritten w → IsOperand (operand_said w)
operand_fine Nothing is = absurd is
operand_fine (Register r) is = tt
operand_fine One is = tt
operand_fine (Byte n) is = tt
operand_fine (Word n) is = tt
operand_fine (Short n) is = tt
operand_fine (Far s o) is = (tt, tt)
operand_fine (Memory m) is = inner_fine m.base m.displacement is.1
  where
    inner_fine : (b : Option Base) (d : Option ℕ) → IsAddress b d → IsInner b (option_map number d)
    inner_fine None None is = is
    inner_fine (Some b) None is = tt
    inner_fine None (Some d) is = tt
    inner_fine (Some b) (Some d) is = tt

operands_fine : (v w : Written) → MayBeWritten v → MayBeWritten w → AllByRecursion IsOperand (said_operands v w)
operands_fine v w (inl none) there = subst (λ (x : Written). AllByRecursion IsOperand (said_operands x w)) (sym none) tt
operands_fine v w (inr is) (inl none) =
    subst (λ (x : Written). AllByRecursion IsOperand (said_operands v x)) (sym none)
    (subst (AllByRecursion IsOperand) (sym (said_with_first v Nothing is)) (operand_fine v is, tt))
operands_fine v w (inr is) (inr there) =
    subst (AllByRecursion IsOperand) (sym (said_with_first v w is ∙ ap (λ (os : List Operand). operand_said v ∷ os) (said_is w there)))
    (operand_fine v is, (operand_fine w there, tt))

pub operands_in_fine : (f : Form) (v : Values) (next : ℕ) → FitsForm f v → AllByRecursion IsOperand (operands_in f v next)
operands_in_fine f v next fits = by (is_nop f)
  where
    by : (b : Bool) → AllByRecursion IsOperand (if b then [] else said_operands (first_written f v next) (second_written f v next))
    by true = tt
    by false =
        operands_fine (first_written f v next) (second_written f v next) (operand_written f v next (first_of f.row) (second_of f.row) fits)
        (operand_written f v next (second_of f.row) (first_of f.row) fits)
