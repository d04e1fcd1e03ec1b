-- The text of an instruction gets its numbers.
-- Laws: claims above the definitions, each proved as the contract of a function.
use Rattle.std.specs.Prelude.{ℕ, pos, negsuc, ◌-ℤ◌, ◌≡◌, ◌+◌, ◌%◌, true, Some}
use Rattle.isa.specs.declared.form.Form.{Form}
use Rattle.isa.specs.declared.form.Values.{Values}
use Rattle.isa.specs.declared.form.Instr.{Instr}
use Rattle.isa.specs.declared.row.Kind.TheVariants as kinds
use Rattle.isa.specs.Row.{first_of}
use Rattle.isa.specs.Encoding.{instr_length, sign_extended, IsInstr}
use Rattle.assembler_form.specs.Takes.{is_within}
use Rattle.assembler_meaning.specs.declared.symbol.Location.{Location}
use Rattle.assembler_meaning.specs.Instructions.{instruction_asked, instruction_size, IsFormFor}
use Rattle.assembler_meaning.specs.Values.{Names}
use Rattle.assembler.specs.Placement.{fields_of}
use Rattle.assembler_laws.specs.SaidTexts.{next_of, said_instruction}

-- a short jump's target doesn't wrap: as an offset it is -128 to 127 after the next instruction
abbrev pub HasNearTarget : Instr → ℕ → Type 0
HasNearTarget i ip =
    first_of i.form.row ≡ kinds.Rel8
    → is_within (negsuc 127) (pos 127)
    (pos ((next_of i ip + sign_extended i.values.number) % 65536) -ℤ pos (ip + instr_length i)) ≡ true

-- whichever form the text of an instruction takes at its offset, its numbers are in range there, whatever the names
-- are, if a short jump's target doesn't wrap
abbrev pub TextsGetNumbers : Type 0
TextsGetNumbers =
    (before names : Names) (location : Location) (i : Instr) (f : Form) → IsInstr i → HasNearTarget i location.offset
    → IsFormFor (instruction_asked before (said_instruction i location.offset)) (Some f)
    → (v : Values)
    × (fields_of names location (instruction_size f (said_instruction i location.offset)) f
    (said_instruction i location.offset) ≡ Some v)
