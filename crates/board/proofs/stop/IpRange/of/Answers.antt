use Rattle.std.proofs.Common.{arith}
use Rattle.board.proofs.stop.IpRange.of.Goals as goal

pub loop-condition-init : goal.loop-condition-init
loop-condition-init c = λ k below. absurd (omega (arith, below))
