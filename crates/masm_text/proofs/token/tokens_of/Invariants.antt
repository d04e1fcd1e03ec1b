use Rattle.std.proofs.Common.{length}
use Rattle.masm_text.proofs.token.tokens_of.Given as goal

abbrev pub decreases-loop-tokens : goal.decreases-loop-tokens
decreases-loop-tokens l = length l.rest
