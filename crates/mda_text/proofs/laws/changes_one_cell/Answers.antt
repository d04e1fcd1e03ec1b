use Rattle.mda_text.proofs.ScreenLaws.{changes_one_cell}
use Rattle.mda_text.proofs.laws.changes_one_cell.Goals as goal

pub returns : goal.returns
returns c = changes_one_cell
