use Rattle.pit8253.proofs.Latches.{reads_both}
use Rattle.pit8253.proofs.laws.reads_both.Goals as goal

pub returns : goal.returns
returns c = reads_both
