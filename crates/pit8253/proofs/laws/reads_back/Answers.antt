use Rattle.pit8253.proofs.ReadBack.{reads_back}
use Rattle.pit8253.proofs.laws.reads_back.Goals as goal

pub returns-clause-reads : goal.returns-clause-reads
returns-clause-reads c = reads_back
