use Rattle.pic8259.proofs.Words.{sequence_ends}
use Rattle.pic8259.proofs.laws.sequence_ends.Goals as goal

pub returns : goal.returns
returns c = sequence_ends
