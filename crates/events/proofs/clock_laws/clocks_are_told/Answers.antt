use Rattle.events.proofs.Dating.{clocks_are_told}
use Rattle.events.proofs.Rising.{clocks_never_fall}
use Rattle.events.proofs.clock_laws.clocks_are_told.Goals as goal

pub returns-clause-clocks : goal.returns-clause-clocks
returns-clause-clocks c = clocks_are_told

pub returns-clause-rising : goal.returns-clause-rising
returns-clause-rising c = clocks_never_fall
