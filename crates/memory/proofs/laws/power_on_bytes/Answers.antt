use Rattle.memory.proofs.Writes.{on_at_power_on}
use Rattle.memory.proofs.laws.power_on_bytes.Goals as goal

pub returns : goal.returns
returns c = on_at_power_on
