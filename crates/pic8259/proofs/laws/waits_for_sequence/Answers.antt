use Rattle.pic8259.proofs.Taking.{waits_for_sequence}
use Rattle.pic8259.proofs.laws.waits_for_sequence.Goals as goal

pub returns : goal.returns
returns c = waits_for_sequence
