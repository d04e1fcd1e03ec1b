use Rattle.std.proofs.Common.{◌≤◌, ◌+◌, length}
use Rattle.masm_text.proofs.token.text_length.Given as goal

abbrev pub invariant-loop-rest : goal.invariant-loop-rest
invariant-loop-rest l = l.length + length l.rest ≤ length l.text

abbrev pub decreases-loop-rest : goal.decreases-loop-rest
decreases-loop-rest l = length l.rest
