use Rattle.std.proofs.Common.{◌≡◌, drop}
use Rattle.assembler_meaning.specs.Instructions.{override_of}
use Rattle.assembler_meaning.proofs.instruction.override_of.Given as goal

abbrev pub invariant-loop-operand : goal.invariant-loop-operand
invariant-loop-operand l = override_of (drop l.operand-index l.operand-items) ≡ override_of l.instruction.operands
