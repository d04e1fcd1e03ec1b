use Rattle.memory.proofs.Writes.{ram_written}
use Rattle.memory.proofs.laws.ram_is_writable.Goals as goal

pub returns : goal.returns
returns c = ram_written
