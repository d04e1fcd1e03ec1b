-- The numbers in a form's fields, once the operands' numbers are known. They are whole numbers: none is cut.
-- To be believed: the headline rests on it.
use Rattle.std.specs.Prelude.{ℕ, ℤ, pos, negsuc, ◌-◌, ◌%◌, ◌-ℤ◌, if◌then◌else◌, Option, Some, None}
use Rattle.isa.specs.declared.layout.Field.{Field}
use Rattle.isa.specs.declared.layout.Field.TheVariants.{Absent, Byte}
use Rattle.isa.specs.declared.row.Kind.{Kind}
use Rattle.isa.specs.declared.row.Kind.TheVariants as kinds
use Rattle.isa.specs.declared.row.Row.{Row}
use Rattle.isa.specs.declared.form.Form.{Form}
use Rattle.isa.specs.declared.form.Values.{Values}
use Rattle.isa.specs.Layout.{kind_field}
use Rattle.isa.specs.Row.{first_of, second_of}
use Rattle.isa.specs.Encoding.{displacement_field}
use Rattle.assembler_form.specs.declared.fields.Numbers.{Numbers}
use Rattle.assembler_form.specs.Takes.{is_within}

-- a whole number modulo m
abbrev pub modulo : ℕ → ℤ → ℕ
modulo m (pos n) = n % m
modulo m (negsuc n) = m - 1 - n % m

-- a number from -128 to 255 as a byte; another has none
abbrev pub byte_of : ℤ → Option ℕ
byte_of n = if is_within (negsuc 127) (pos 255) n then Some (modulo 256 n) else None

abbrev pub signed_byte_of : ℤ → Option ℕ
signed_byte_of n = if is_within (negsuc 127) (pos 127) n then Some (modulo 256 n) else None

abbrev pub word_of : ℤ → Option ℕ
word_of n = if is_within (negsuc 32767) (pos 65535) n then Some (modulo 65536 n) else None

-- the displacement after the addressing byte, by the field that it is in
abbrev pub displacement_in : Field → ℤ → Option ℕ
displacement_in Absent displacement = Some 0
displacement_in Byte displacement = signed_byte_of displacement
displacement_in _ displacement = word_of displacement

-- the kind of the operand in the row's own field: the second, if the first has no field
abbrev pub kind_in_field : Field → Kind → Kind → Kind
kind_in_field Absent _ second = second
kind_in_field _ first _ = first

abbrev pub field_kind_of : Kind → Kind → Kind
field_kind_of first second = kind_in_field (kind_field first) first second

abbrev pub field_kind : Row → Kind
field_kind r = field_kind_of (first_of r) (second_of r)

-- what an operand puts into the row's own field: a number, the offset of memory without registers, or a target, counted
-- from the next instruction on
abbrev pub number_in : Kind → ℤ → Numbers → Option ℕ
number_in kinds.Imm8 next n = byte_of n.number
number_in kinds.Signed8 next n = signed_byte_of n.number
number_in kinds.Imm16 next n = word_of n.number
number_in kinds.Far next n = word_of n.number
number_in kinds.At8 next n = word_of n.displacement
number_in kinds.At16 next n = word_of n.displacement
number_in kinds.Rel8 next n = signed_byte_of (n.number -ℤ next)
number_in kinds.Rel16 next n = Some (modulo 65536 (n.number -ℤ next))
number_in _ next n = Some 0

abbrev pub segment_in : Kind → ℤ → Option ℕ
segment_in kinds.Far segment = word_of segment
segment_in _ segment = Some 0

abbrev pub values_with : Option ℕ → Option ℕ → Option ℕ → Option Values
values_with (Some displacement) (Some number) (Some segment) =
    Some (record { displacement = displacement; number = number; segment = segment })
values_with _ _ _ = None

-- the numbers in the form's fields, if each is in range; the next instruction stands at the offset `next`
unfoldable pub values_of : Form → ℤ → Numbers → Option Values
values_of f next n =
    values_with (displacement_in (displacement_field f.place) n.displacement)
    (number_in (field_kind f.row) next n) (segment_in (field_kind f.row) n.segment)
