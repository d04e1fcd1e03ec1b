use Rattle.std.proofs.Common.{length}
use Rattle.masm_text.proofs.raw.with_arguments.Given as goal

abbrev pub decreases-loop-rest : goal.decreases-loop-rest
decreases-loop-rest l = length l.rest
