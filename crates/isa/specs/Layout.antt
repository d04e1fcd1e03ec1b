-- What each part of an instruction's bytes is, by the operands of its row (8086 Family User's Manual, "Machine
-- Instruction Encoding and Decoding"). An operand stands in at most one part, but an ESC's number in two.
-- To be believed: the headline rests on it.
use Rattle.std.specs.Option.{option_map}
use Rattle.std.specs.Prelude.{ℕ, Option, Some, None}
use Rattle.isa.specs.declared.row.Kind.{Kind}
use Rattle.isa.specs.declared.row.Kind.TheVariants.{Ten, Code8, Code16, CodeSegment, CodeSegmentNotCs, EscNumber}
use Rattle.isa.specs.declared.row.Kind.TheVariants.{Reg8, Reg16, Segment as SegmentKind}
use Rattle.isa.specs.declared.row.Kind.TheVariants.{SegmentNotCs as SegmentNotCsKind, Memory as MemoryKind, Imm8}
use Rattle.isa.specs.declared.row.Kind.TheVariants.{Imm16, Signed8, Rel8, Rel16, At8, At16, Far as FarKind}
use Rattle.isa.specs.declared.row.Row.{Row}
use Rattle.isa.specs.declared.layout.CodePart.{CodePart}
use Rattle.isa.specs.declared.layout.CodePart.TheVariants as code_parts
use Rattle.isa.specs.declared.layout.RegPart.{RegPart}
use Rattle.isa.specs.declared.layout.RegPart.TheVariants as reg_parts
use Rattle.isa.specs.declared.layout.PlacePart.{PlacePart}
use Rattle.isa.specs.declared.layout.PlacePart.TheVariants as place_parts
use Rattle.isa.specs.declared.layout.Second.{Second}
use Rattle.isa.specs.declared.layout.Second.TheVariants as seconds
use Rattle.isa.specs.declared.layout.Field.{Field}
use Rattle.isa.specs.declared.layout.Field.TheVariants.{Absent, Byte, Word, Far}

-- what an operand puts into the opcode
abbrev pub kind_code : Kind → CodePart
kind_code Code8 = code_parts.Register
kind_code Code16 = code_parts.Register
kind_code EscNumber = code_parts.Register
kind_code CodeSegment = code_parts.Segment
kind_code CodeSegmentNotCs = code_parts.SegmentNotCs
kind_code _ = code_parts.Fixed

-- what an operand puts into reg
abbrev pub kind_reg : Kind → Option RegPart
kind_reg Reg8 = Some reg_parts.Register
kind_reg Reg16 = Some reg_parts.Register
kind_reg EscNumber = Some reg_parts.Register
kind_reg SegmentKind = Some reg_parts.Segment
kind_reg SegmentNotCsKind = Some reg_parts.SegmentNotCs
kind_reg _ = None

-- what an operand puts into the field at the end
abbrev pub kind_field : Kind → Field
kind_field Imm8 = Byte
kind_field Signed8 = Byte
kind_field Rel8 = Byte
kind_field Imm16 = Word
kind_field Rel16 = Word
kind_field At8 = Word
kind_field At16 = Word
kind_field FarKind = Far
kind_field _ = Absent

-- the first operand's part, or the second's if the first has none there
abbrev pub first_code : CodePart → CodePart → CodePart
first_code code_parts.Fixed other = other
first_code part _ = part

abbrev pub first_reg : Option RegPart → Option RegPart → Option RegPart
first_reg None other = other
first_reg (Some part) _ = Some part

abbrev pub first_field : Field → Field → Field
first_field Absent other = other
first_field field _ = field

abbrev pub code_part : Row → CodePart
code_part r = first_code (kind_code r.first) (kind_code r.second)

abbrev pub field_part : Row → Field
field_part r = first_field (kind_field r.first) (kind_field r.second)

-- what stands in reg: a row's digit, or what an operand puts there
abbrev pub reg_part : Row → Option RegPart
reg_part r = first_reg (option_map reg_parts.Digit r.digit) (first_reg (kind_reg r.first) (kind_reg r.second))

abbrev pub places : Kind → Kind → PlacePart
places MemoryKind _ = place_parts.Memory
places _ MemoryKind = place_parts.Memory
places _ _ = place_parts.Any

abbrev pub place_part : Row → PlacePart
place_part r = places r.first r.second

-- the second byte: the addressing byte if something stands in reg, or the 0Ah of AAM and AAD
abbrev pub second_with : Option RegPart → PlacePart → Kind → Second
second_with (Some reg) place _ = seconds.Addressing reg place
second_with None _ Ten = seconds.Exactly 0x0A
second_with None _ _ = seconds.Absent

abbrev pub second_part : Row → Second
second_part r = second_with (reg_part r) (place_part r) r.first

abbrev pub second_size : Second → ℕ
second_size seconds.Absent = 0
second_size _ = 1

abbrev pub field_size : Field → ℕ
field_size Absent = 0
field_size Byte = 1
field_size Word = 2
field_size Far = 4
