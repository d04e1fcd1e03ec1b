use Rattle.events.proofs.Told.{memory_is_written}
use Rattle.events.proofs.clock_laws.memory_is_written.Goals as goal

pub returns : goal.returns
returns c = memory_is_written
