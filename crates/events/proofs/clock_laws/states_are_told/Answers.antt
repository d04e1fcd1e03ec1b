use Rattle.events.proofs.Turning.{states_alternate, states_are_told}
use Rattle.events.proofs.clock_laws.states_are_told.Goals as goal

pub returns-clause-states : goal.returns-clause-states
returns-clause-states c = states_are_told

pub returns-clause-turns : goal.returns-clause-turns
returns-clause-turns c = states_alternate
