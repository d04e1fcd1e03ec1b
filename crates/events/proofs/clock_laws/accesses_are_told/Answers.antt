use Rattle.events.proofs.Reaching.{accesses_are_told, reads_are_told}
use Rattle.events.proofs.clock_laws.accesses_are_told.Goals as goal

pub returns-clause-accesses : goal.returns-clause-accesses
returns-clause-accesses c = accesses_are_told

pub returns-clause-reads : goal.returns-clause-reads
returns-clause-reads c = reads_are_told
