use Rattle.std.proofs.Common.{length}
use Rattle.masm_text.proofs.raw.bare.Given as goal

abbrev pub decreases-loop-argument : goal.decreases-loop-argument
decreases-loop-argument l = length l.argument
