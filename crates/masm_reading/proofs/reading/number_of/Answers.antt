use Rattle.std.proofs.Common.{arith}
use Rattle.masm_reading.proofs.reading.number_of.Goals as goal

pub loop-text-init : goal.loop-text-init
loop-text-init c = λ k below. absurd (omega (arith, below))
