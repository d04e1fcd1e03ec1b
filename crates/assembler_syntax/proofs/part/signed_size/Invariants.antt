use Rattle.std.proofs.Common.{◌≡◌, ◌+◌, length}
use Rattle.assembler_syntax.specs.PartSteps.{signed_size}
use Rattle.assembler_syntax.proofs.part.signed_size.Given as goal

abbrev pub invariant-loop-rest : goal.invariant-loop-rest
invariant-loop-rest l = record { rest : l.size + signed_size l.rest ≡ signed_size l.fn.tokens; all : l.size + length l.rest ≡ length l.fn.tokens }

abbrev pub decreases-loop-rest : goal.decreases-loop-rest
decreases-loop-rest l = length l.rest
