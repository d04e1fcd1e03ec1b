use Rattle.std.proofs.Common.{◌≡◌, ◌+◌, length, false}
use Rattle.assembler_syntax.specs.PartSteps.{part_size}
use Rattle.assembler_syntax.proofs.part.part_size.Given as goal

abbrev pub invariant-loop-rest : goal.invariant-loop-rest
invariant-loop-rest l = record { rest : l.size + part_size l.is_open l.rest ≡ part_size false l.fn.tokens; all : l.size + length l.rest ≡ length l.fn.tokens }

abbrev pub decreases-loop-rest : goal.decreases-loop-rest
decreases-loop-rest l = length l.rest
