use Rattle.wiring.proofs.Entries.{no_entry_touches}
use Rattle.wiring.proofs.laws.no_entry_touches.Goals as goal

pub returns : goal.returns
returns c = no_entry_touches
