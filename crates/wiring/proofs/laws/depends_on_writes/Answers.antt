use Rattle.wiring.proofs.Alike.{depends_on_writes}
use Rattle.wiring.proofs.laws.depends_on_writes.Goals as goal

pub returns : goal.returns
returns c = depends_on_writes
