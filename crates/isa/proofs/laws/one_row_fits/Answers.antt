use Rattle.isa.proofs.Rows.{one_row}
use Rattle.isa.proofs.laws.one_row_fits.Goals as goal

pub returns : goal.returns
returns c = one_row
