-- CS:IP stands as it was after what an instruction is told to change, since no instruction of the table writes to CS.
use Rattle.std.proofs.Common.{◌≡◌, ◌≢◌, ℕ, ◌==◌, Bool, true, false, cond, refl, arith, Option, Some, None}
use Rattle.std.specs.Option.{option_map}
use Rattle.std.specs.List.{list_all}
use Rattle.digest.specs.Operands.{byte_by_place, operand_of, word_by_place}
use Rattle.execute_machine.specs.RegisterFile.{Registers}
use Rattle.execute_machine.specs.Registers.{with_byte_register, with_segment_register, with_word_register}
use Rattle.isa.proofs.Rows.{each}
use Rattle.isa.specs.Encoding.{FitsCode, FitsSecond, IsInstr}
use Rattle.isa.specs.Layout.{first_code, first_reg, kind_code, kind_reg, place_part, second_with}
use Rattle.isa.specs.RegisterNumbers.{segment_register_number, segment_register_of}
use Rattle.isa.specs.Row.{first_of, operation_of}
use Rattle.isa.specs.Table.{rows}
use Rattle.isa.specs.declared.form.Instr.{Instr}
use Rattle.isa.specs.declared.form.Place.{Place as PlaceType}
use Rattle.isa.specs.declared.form.Place.TheVariants as places
use Rattle.isa.specs.declared.layout.CodePart.{CodePart}
use Rattle.isa.specs.declared.layout.CodePart.TheVariants as code_parts
use Rattle.isa.specs.declared.layout.PlacePart.{PlacePart}
use Rattle.isa.specs.declared.layout.RegPart.{RegPart}
use Rattle.isa.specs.declared.layout.RegPart.TheVariants as reg_parts
use Rattle.isa.specs.declared.operation.Operation.{Operation}
use Rattle.isa.specs.declared.operation.Operation.TheVariants.{Transfer}
use Rattle.isa.specs.declared.operation.Transfer.TheVariants.{Mov, Pop}
use Rattle.isa.specs.declared.register.ByteRegister.{ByteRegister}
use Rattle.isa.specs.declared.register.ByteRegister.TheVariants.{Al}
use Rattle.isa.specs.declared.register.SegmentRegister.{SegmentRegister}
use Rattle.isa.specs.declared.register.SegmentRegister.TheVariants.{Es, Cs, Ss, Ds}
use Rattle.isa.specs.declared.register.WordRegister.{WordRegister}
use Rattle.isa.specs.declared.register.WordRegister.TheVariants.{Ax}
use Rattle.isa.specs.declared.row.Kind.{Kind}
use Rattle.isa.specs.declared.row.Kind.TheVariants as kinds
use Rattle.isa.specs.declared.row.Row.{Row}
use Rattle.forms.proofs.Spared.{SparesTold, never}
use Rattle.forms.specs.Changed.{operand_sets_segment, segment_set_by}
use Rattle.forms.specs.StackMove.{first_operand}

-- where the processor goes on
pub record Place : Type 0 where
  pub cs : ℕ
  pub ip : ℕ

abbrev pub place_of : Registers → Place
place_of r = record { cs = r.cs; ip = r.ip }

word_leaves : (register : WordRegister) (r : Registers) (value : ℕ) → place_of (with_word_register r register value) ≡ place_of r
unfolding with_word_register
word_leaves Ax r value = refl
word_leaves register r value = refl

half_leaves : (register : ByteRegister) (r : Registers) (value : ℕ) → place_of (with_byte_register r register value) ≡ place_of r
unfolding with_byte_register
half_leaves Al r value = refl
half_leaves register r value = refl

-- no instruction of the table has CS as an operand that it writes

not_cs_of : (n : ℕ) → n ≢ 1 → segment_register_number (segment_register_of n) == 1 ≡ false
not_cs_of n other = by_zero (n == 0) refl
  where
    by_two : (two : Bool) → segment_register_number (cond two Ss Ds) == 1 ≡ false
    by_two true = refl
    by_two false = refl

    by_one : (one : Bool) → n == 1 ≡ one → segment_register_number (cond one Cs (cond (n == 2) Ss Ds)) == 1 ≡ false
    by_one true is = absurd (other (grind (arith)))
    by_one false is = by_two (n == 2)

    by_zero : (zero : Bool) → n == 0 ≡ zero
        → segment_register_number (cond zero Es (cond (n == 1) Cs (cond (n == 2) Ss Ds))) == 1 ≡ false
    by_zero true is = refl
    by_zero false is = by_one (n == 1) refl

code_not_cs : (other : CodePart) (code : ℕ) → FitsCode (first_code code_parts.SegmentNotCs other) code → code ≢ 1
code_not_cs other code fits = fits.1

zero_not_one : (n : ℕ) → n ≡ 0 → n ≢ 1
zero_not_one n zero one = absurd (omega (arith, zero, one))

reg_not_cs : (digit : Option ℕ) (other : Option RegPart) (named : PlacePart) (kind : Kind) (reg : ℕ) (place : PlaceType)
    → FitsSecond (second_with (first_reg (option_map reg_parts.Digit digit) (first_reg (Some reg_parts.SegmentNotCs) other)) named kind) reg place
    → reg ≢ 1
reg_not_cs None other named kind reg place fits = fits.0.1
reg_not_cs (Some digit) other named kind reg place fits = zero_not_one reg fits.0

-- an operand that is written isn't a segment register, but for those that exclude CS
abbrev pub excludes_cs : Operation → Kind → Bool
excludes_cs (Transfer Mov) kinds.Segment = false
excludes_cs (Transfer Mov) kinds.CodeSegment = false
excludes_cs (Transfer Pop) kinds.Segment = false
excludes_cs (Transfer Pop) kinds.CodeSegment = false
excludes_cs op kind = true

all_exclude : list_all (λ (row : Row). excludes_cs row.operation row.first) rows ≡ true
unfolding rows
all_exclude = refl

byte_no_cs : (place : PlaceType) → operand_sets_segment (byte_by_place place) Cs ≡ false
byte_no_cs (places.Register number) = refl
byte_no_cs place = refl

word_no_cs : (place : PlaceType) → operand_sets_segment (word_by_place place) Cs ≡ false
word_no_cs (places.Register number) = refl
word_no_cs place = refl

operand_no_cs : (i : Instr) (kind second : Kind) (digit : Option ℕ) (named : PlacePart)
    → FitsCode (first_code (kind_code kind) (kind_code second)) i.form.code
    → FitsSecond (second_with (first_reg (option_map reg_parts.Digit digit) (first_reg (kind_reg kind) (kind_reg second))) named kind) i.form.reg i.form.place
    → excludes_cs (Transfer Mov) kind ≡ true → operand_sets_segment (operand_of i kind) Cs ≡ false
operand_no_cs i kinds.Segment second digit named code reg excludes = let none : false ≡ true = excludes in cc
operand_no_cs i kinds.CodeSegment second digit named code reg excludes = let none : false ≡ true = excludes in cc
operand_no_cs i kinds.SegmentNotCs second digit named code reg excludes =
    not_cs_of i.form.reg (reg_not_cs digit (kind_reg second) named kinds.SegmentNotCs i.form.reg i.form.place reg)
operand_no_cs i kinds.CodeSegmentNotCs second digit named code reg excludes = not_cs_of i.form.code (code_not_cs (kind_code second) i.form.code code)
operand_no_cs i kinds.Rm8 second digit named code reg excludes = byte_no_cs i.form.place
operand_no_cs i kinds.Rm16 second digit named code reg excludes = word_no_cs i.form.place
operand_no_cs i kinds.Memory second digit named code reg excludes = word_no_cs i.form.place
operand_no_cs i kind second digit named code reg excludes = refl

same_excludes : (kind : Kind) → excludes_cs (Transfer Pop) kind ≡ true → excludes_cs (Transfer Mov) kind ≡ true
same_excludes kinds.Segment is = is
same_excludes kinds.CodeSegment is = is
same_excludes kind is = refl

first_no_cs : (i : Instr) → IsInstr i → excludes_cs (Transfer Mov) (first_of i.form.row) ≡ true → operand_sets_segment (first_operand i) Cs ≡ false
first_no_cs i of_table excludes =
    operand_no_cs i i.form.row.first i.form.row.second i.form.row.digit (place_part i.form.row) of_table.form.code of_table.form.second excludes

no_cs : (i : Instr) (op : Operation) → IsInstr i → excludes_cs op (first_of i.form.row) ≡ true → segment_set_by i op Cs ≡ false
no_cs i (Transfer Mov) of_table excludes = first_no_cs i of_table excludes
no_cs i (Transfer Pop) of_table excludes = first_no_cs i of_table (same_excludes (first_of i.form.row) excludes)
no_cs i op of_table excludes = refl

segment_leaves : (i : Instr) (op : Operation) → segment_set_by i op Cs ≡ false
    → (register : SegmentRegister) → segment_set_by i op register ≡ true
    → (r : Registers) (value : ℕ) → place_of (with_segment_register r register value) ≡ place_of r
unfolding with_segment_register
segment_leaves i op none Cs told r value = never _ none told
segment_leaves i op none register told r value = refl

spares_when : (i : Instr) (op : Operation) → segment_set_by i op Cs ≡ false → SparesTold place_of i op
spares_when i op none = record {
  word = λ register told. word_leaves register;
  half = λ register told. half_leaves register;
  segment = segment_leaves i op none;
  flags = λ r g same. refl;
}

pub row_excludes : (i : Instr) → IsInstr i → excludes_cs (operation_of i.form.row) (first_of i.form.row) ≡ true
row_excludes i of_table = each (λ (row : Row). excludes_cs row.operation row.first) rows i.form.row all_exclude of_table.form.row

pub spares_place : (i : Instr) (op : Operation) → IsInstr i → excludes_cs op (first_of i.form.row) ≡ true → SparesTold place_of i op
spares_place i op of_table excludes = spares_when i op (no_cs i op of_table excludes)
