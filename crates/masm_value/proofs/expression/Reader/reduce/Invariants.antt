use Rattle.std.proofs.Common.{length}
use Rattle.masm_value.proofs.expression.Reader.reduce.Given as goal

abbrev pub decreases-loop-waiting : goal.decreases-loop-waiting
decreases-loop-waiting l = length l.self.waiting.items
