use Rattle.isa.proofs.Rows.{no_prefix}
use Rattle.isa.proofs.laws.no_prefix_is_a_row.Goals as goal

pub returns : goal.returns
returns c = no_prefix
