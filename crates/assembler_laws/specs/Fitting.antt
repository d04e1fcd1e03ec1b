-- When the numbers of the form that is chosen are in range.
-- Laws: claims above the definitions, each proved as the contract of a function.
use Rattle.std.specs.Prelude.{ℕ, pos, negsuc, ◌-ℤ◌, ◌≡◌, ◌<◌, true, Some}
use Rattle.isa.specs.declared.form.Form.{Form}
use Rattle.isa.specs.declared.form.Values.{Values}
use Rattle.isa.specs.declared.row.Kind.{Kind}
use Rattle.isa.specs.declared.row.Kind.TheVariants as kinds
use Rattle.assembler_form.specs.declared.asked.Asked.{Asked}
use Rattle.assembler_form.specs.declared.fields.Numbers.{Numbers}
use Rattle.assembler_form.specs.Choice.{IsChosen}
use Rattle.assembler_form.specs.Fields.{field_kind, values_of}
use Rattle.assembler_form.specs.Takes.{is_within}
use Rattle.assembler_laws.specs.SameMeaning.{AreOf}

-- the number that goes into a byte fits it, as does the distance to a short jump's target
abbrev pub FitsByte : Kind → ℕ → Numbers → Type 0
FitsByte kinds.Imm8 next n = (x : ℕ) × (n.number ≡ pos x) × (x < 256)
FitsByte kinds.Rel8 next n = is_within (negsuc 127) (pos 127) (n.number -ℤ pos next) ≡ true
FitsByte _ next n = Unit {0}

-- The numbers of the form that is chosen are in range if those that go into a byte are: all others that are asked have
-- room.
abbrev pub NumbersFit : Type 0
NumbersFit =
    (a : Asked) (f : Form) (next : ℕ) (n : Numbers) → IsChosen a f → AreOf a.first n → AreOf a.second n
    → FitsByte (field_kind f.row) next n → (v : Values) × (values_of f (pos next) n ≡ Some v)
