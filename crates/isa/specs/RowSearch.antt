-- What is needed to write an instruction and to find a row: each digit fits reg, and the rows before the first that has
-- an opcode are passed over.
-- For proofs alone: no public contract rests on it.
use Rattle.std.specs.Prelude.{ℕ, ◌<◌, Bool, not, ◌&&◌, nat_le, length, take}
use Rattle.std.specs.List.{list_all}
use Rattle.isa.specs.declared.layout.RegPart.TheVariants as reg_parts
use Rattle.isa.specs.declared.layout.Second.{Second}
use Rattle.isa.specs.declared.layout.Second.TheVariants as seconds
use Rattle.isa.specs.declared.row.Row.{Row}
use Rattle.isa.specs.Table.{rows}
use Rattle.isa.specs.Layout.{code_part}
use Rattle.isa.specs.OpcodeBytes.{is_code}

-- a digit, if there is one, is one that reg can hold
abbrev pub HasDigit : Second → Type 0
HasDigit (seconds.Addressing (reg_parts.Digit digit) _) = digit < 8
HasDigit _ = Unit {0}

-- whether a row has the opcode
abbrev pub has_opcode : ℕ → Row → Bool
has_opcode opcode r = is_code (code_part r) r.opcode opcode

-- whether none of the first `count` rows has the opcode
abbrev pub is_before : ℕ → ℕ → Bool
is_before opcode count = nat_le count (length rows) && list_all (λ r. not (has_opcode opcode r)) (take count rows)
