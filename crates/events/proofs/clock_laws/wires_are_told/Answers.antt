use Rattle.events.proofs.Settled.{levels_are_told}
use Rattle.events.proofs.Turning.{wires_alternate, wires_are_told}
use Rattle.events.proofs.clock_laws.wires_are_told.Goals as goal

pub returns-clause-levels : goal.returns-clause-levels
returns-clause-levels c = wires_are_told

pub returns-clause-turns : goal.returns-clause-turns
returns-clause-turns c = wires_alternate

pub returns-clause-settled : goal.returns-clause-settled
returns-clause-settled c = levels_are_told
