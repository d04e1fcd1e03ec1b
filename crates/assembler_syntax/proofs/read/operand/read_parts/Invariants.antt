use Rattle.std.proofs.Common.{◌≡◌, length}
use Rattle.assembler_lexeme.specs.Faults.{all_of, with_front}
use Rattle.assembler_syntax.specs.OperandSteps.{operand_of}
use Rattle.assembler_syntax.proofs.read.operand.read_parts.Given as goal

abbrev pub invariant-loop-part : goal.invariant-loop-part
invariant-loop-part l = with_front l.operands (all_of operand_of l.parts) ≡ all_of operand_of l.fn.parts

abbrev pub decreases-loop-part : goal.decreases-loop-part
decreases-loop-part l = length l.parts
