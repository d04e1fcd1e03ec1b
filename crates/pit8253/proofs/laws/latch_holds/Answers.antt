use Rattle.pit8253.proofs.Latches.{latch_holds_both}
use Rattle.pit8253.proofs.laws.latch_holds.Goals as goal

pub returns-clause-two_bytes : goal.returns-clause-two_bytes
returns-clause-two_bytes c = latch_holds_both
