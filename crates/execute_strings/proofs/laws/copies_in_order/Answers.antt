use Rattle.execute_strings.proofs.Copies.{copies_in_order}
use Rattle.execute_strings.proofs.laws.copies_in_order.Goals as goal

pub returns : goal.returns
returns g c = copies_in_order g.B.Bus.meaning g.met.B.Bus.keeps_bytes
