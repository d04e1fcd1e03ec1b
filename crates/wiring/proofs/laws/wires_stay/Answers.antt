use Rattle.wiring.proofs.FixedWires.{wires_stay}
use Rattle.wiring.proofs.laws.wires_stay.Goals as goal

pub returns : goal.returns
returns c = wires_stay
