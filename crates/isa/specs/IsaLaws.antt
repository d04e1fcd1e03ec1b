-- The laws of the encoding table.
-- Laws: claims above the definitions, each proved as the contract of a function.
use Rattle.std.specs.Prelude.{ℕ, ◌≡◌, ◌<◌, true, false, length, Contains}
use Rattle.isa.specs.declared.row.Row.{Row}
use Rattle.isa.specs.declared.form.Form.{Form}
use Rattle.isa.specs.declared.form.Values.{Values}
use Rattle.isa.specs.declared.form.Prefix.{Prefix}
use Rattle.isa.specs.Table.{rows}
use Rattle.isa.specs.Encoding.{encoding, form_length, prefix_byte}
use Rattle.isa.specs.OpcodeBytes.{begins}

-- no bytes fit two rows
abbrev pub OneRowFits : Type 0
OneRowFits =
    (opcode next : ℕ) (r s : Row) → opcode < 256 → Contains rows r → Contains rows s → begins r opcode next ≡ true
    → begins s opcode next ≡ true → r ≡ s

-- an instruction is as long as its form, whatever the numbers in its fields
abbrev pub LengthIsTheForms : Type 0
LengthIsTheForms = (f : Form) (v : Values) → length (encoding f v) ≡ form_length f

-- no row's opcode is a prefix
abbrev pub NoPrefixIsARow : Type 0
NoPrefixIsARow = (p : Prefix) (next : ℕ) (r : Row) → Contains rows r → begins r (prefix_byte p) next ≡ false
