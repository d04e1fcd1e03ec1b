use Rattle.memory.proofs.Writes.{write_changes}
use Rattle.memory.proofs.laws.write_changes_ram_alone.Goals as goal

pub returns : goal.returns
returns c = write_changes
