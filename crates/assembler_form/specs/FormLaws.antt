-- The laws of choosing a row.
-- Laws: claims above the definitions, each proved as the contract of a function.
use Rattle.std.specs.Prelude.{◌≡◌}
use Rattle.isa.specs.declared.form.Form.{Form}
use Rattle.assembler_form.specs.declared.asked.Asked.{Asked}
use Rattle.assembler_form.specs.Choice.{IsChosen}

-- what a line asks has at most one form
abbrev pub OneForm : Type 0
OneForm = (a : Asked) (f g : Form) → IsChosen a f → IsChosen a g → f ≡ g
