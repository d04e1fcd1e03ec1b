use Rattle.std.proofs.Common.{◌≤◌}
use Rattle.masm_line.proofs.output.write_digits.Given as goal

abbrev pub invariant-loop-index : goal.invariant-loop-index
invariant-loop-index l = l.first ≤ 63
