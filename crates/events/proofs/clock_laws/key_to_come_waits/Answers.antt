use Rattle.events.proofs.KeyToCome.{lists_stay, waits, was_there}
use Rattle.events.proofs.clock_laws.key_to_come_waits.Goals as goal

pub returns-clause-waits : goal.returns-clause-waits
returns-clause-waits c = waits

pub returns-clause-lists : goal.returns-clause-lists
returns-clause-lists c = lists_stay

pub returns-clause-first : goal.returns-clause-first
returns-clause-first c = was_there
