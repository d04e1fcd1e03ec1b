-- The texts of instructions have forms.
-- Laws: claims above the definitions, each proved as the contract of a function.
use Rattle.std.specs.Prelude.{ℕ, Some}
use Rattle.isa.specs.declared.form.Form.{Form}
use Rattle.isa.specs.declared.form.Instr.{Instr}
use Rattle.isa.specs.Encoding.{IsInstr}
use Rattle.assembler_meaning.specs.Instructions.{instruction_asked, IsFormFor}
use Rattle.assembler_meaning.specs.Values.{Names}
use Rattle.assembler_laws.specs.SaidTexts.{said_instruction}

-- whatever names are known, some row takes what the text of an instruction asks, at any offset
abbrev pub TextsTakeAForm : Type 0
TextsTakeAForm =
    (before : Names) (i : Instr) (ip : ℕ) → IsInstr i
    → (f : Form) × IsFormFor (instruction_asked before (said_instruction i ip)) (Some f)
