-- Whether the opcode and the byte after it are a row's.
-- To be believed: the headline rests on it.
use Rattle.std.specs.Prelude.{ℕ, ◌+◌, ◌-◌, ◌/◌, ◌%◌, ◌==◌, Bool, true, not, ◌&&◌, nat_le, nat_lt, Option, find}
use Rattle.isa.specs.declared.layout.CodePart.{CodePart}
use Rattle.isa.specs.declared.layout.CodePart.TheVariants as code_parts
use Rattle.isa.specs.declared.layout.RegPart.{RegPart}
use Rattle.isa.specs.declared.layout.RegPart.TheVariants as reg_parts
use Rattle.isa.specs.declared.layout.PlacePart.{PlacePart}
use Rattle.isa.specs.declared.layout.PlacePart.TheVariants as place_parts
use Rattle.isa.specs.declared.layout.Second.{Second}
use Rattle.isa.specs.declared.layout.Second.TheVariants as seconds
use Rattle.isa.specs.declared.row.Row.{Row}
use Rattle.isa.specs.Table.{rows}
use Rattle.isa.specs.Layout.{code_part, second_part}

-- whether a number names a segment register, and one other than CS
abbrev pub is_segment : ℕ → Bool
is_segment n = nat_lt n 4

abbrev pub is_segment_not_cs : ℕ → Bool
is_segment_not_cs n = nat_lt n 4 && not (n == 1)

-- whether a byte is this opcode, alone or with what an operand puts into it
abbrev pub is_code : CodePart → ℕ → ℕ → Bool
is_code code_parts.Fixed opcode byte = byte == opcode
is_code code_parts.Register opcode byte = nat_le opcode byte && nat_lt byte (opcode + 8)
is_code code_parts.Segment opcode byte =
    nat_le opcode byte && (byte % 8 == opcode % 8 && is_segment ((byte - opcode) / 8))
is_code code_parts.SegmentNotCs opcode byte =
    nat_le opcode byte && (byte % 8 == opcode % 8 && is_segment_not_cs ((byte - opcode) / 8))

abbrev pub is_reg : RegPart → ℕ → Bool
is_reg (reg_parts.Digit digit) reg = reg == digit
is_reg reg_parts.Register reg = true
is_reg reg_parts.Segment reg = is_segment reg
is_reg reg_parts.SegmentNotCs reg = is_segment_not_cs reg

-- whether mod may have this number; 3 names a register
abbrev pub is_named : PlacePart → ℕ → Bool
is_named place_parts.Any mode = true
is_named place_parts.Memory mode = nat_lt mode 3

abbrev pub is_second : Second → ℕ → Bool
is_second seconds.Absent byte = true
is_second (seconds.Exactly wanted) byte = byte == wanted
is_second (seconds.Addressing part named) byte = is_reg part (byte / 8 % 8) && is_named named (byte / 64)

-- whether the opcode, and the byte after it, are the row's
abbrev pub begins : Row → ℕ → ℕ → Bool
begins r opcode next = is_code (code_part r) r.opcode opcode && is_second (second_part r) next

-- the row that an opcode, with the byte after it, begins, if there is one
unfoldable pub row_at : ℕ → ℕ → Option Row
row_at opcode next = find (λ r. begins r opcode next) rows
