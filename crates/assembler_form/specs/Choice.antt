-- Which row of the encoding table a line takes: the first in the table's order that takes what it asks.
-- To be believed: the headline rests on it.
use Rattle.std.specs.Prelude.{ℕ, ◌≡◌, ◌<◌, Some, List, Contains, slice_get}
use Rattle.isa.specs.declared.row.Row.{Row}
use Rattle.isa.specs.declared.form.Form.{Form}
use Rattle.isa.specs.Table.{rows}
use Rattle.assembler_form.specs.declared.asked.Asked.{Asked}
use Rattle.assembler_form.specs.Takes.{Takes}
use Rattle.assembler_form.specs.OperandBytes.{form_with}

-- The row is the first of the list that takes what is asked: it stands at a place in the list, and no row before that
-- place takes it.
pub record IsFirst (rs : List Row) (a : Asked) (r : Row) : Type 0 where
  pub place : ℕ
  pub stands : slice_get rs place ≡ Some r
  pub takes : Takes r a
  pub earlier : (i : ℕ) (s : Row) → i < place → slice_get rs i ≡ Some s → ¬ Takes s a

-- the form that is chosen: the table's first row that takes what is asked, with the operands in the row's parts
pub record IsChosen (a : Asked) (f : Form) : Type 0 where
  pub first : IsFirst rows a f.row
  pub parts : f ≡ form_with f.row a

abbrev pub NoneTakes : List Row → Asked → Type 0
NoneTakes rs a = (r : Row) → Contains rs r → ¬ Takes r a
