use Rattle.wiring.proofs.Ticks.{clocks_tick}
use Rattle.wiring.proofs.laws.clocks_tick.Goals as goal

pub returns : goal.returns
returns c = clocks_tick
