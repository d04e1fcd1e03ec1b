use Rattle.std.proofs.Common.{◌≡◌, length}
use Rattle.assembler_syntax.specs.OperandSteps.{with_parts}
use Rattle.assembler_syntax.proofs.read.operand.with_parts.Given as goal

abbrev pub invariant-loop-is_negative : goal.invariant-loop-is_negative
invariant-loop-is_negative l = with_parts l.address l.parts ≡ with_parts l.fn.address l.fn.parts

abbrev pub decreases-loop-is_negative : goal.decreases-loop-is_negative
decreases-loop-is_negative l = length l.parts
