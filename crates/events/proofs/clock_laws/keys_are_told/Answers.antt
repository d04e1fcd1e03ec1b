use Rattle.events.proofs.Keyed.{codes_are_told, losses_are_told, queue_is_told}
use Rattle.events.proofs.clock_laws.keys_are_told.Goals as goal

pub returns-clause-codes : goal.returns-clause-codes
returns-clause-codes c = codes_are_told

pub returns-clause-queue : goal.returns-clause-queue
returns-clause-queue c = queue_is_told

pub returns-clause-losses : goal.returns-clause-losses
returns-clause-losses c = losses_are_told
