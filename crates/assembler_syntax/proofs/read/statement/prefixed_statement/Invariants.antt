use Rattle.std.proofs.Common.{◌≡◌, ◌++◌, ◌≤◌, length}
use Rattle.assembler_syntax.specs.StatementSteps.{prefixes_of}
use Rattle.assembler_syntax.proofs.read.statement.prefixed_statement.Given as goal

abbrev pub invariant-loop-prefix : goal.invariant-loop-prefix
invariant-loop-prefix l = record {
  front : l.prefixes ++ (prefixes_of l.rest).0 ≡ (prefixes_of l.fn.tokens).0;
  back : (prefixes_of l.rest).1 ≡ (prefixes_of l.fn.tokens).1;
  within : length l.rest ≤ length l.fn.tokens;
}

abbrev pub decreases-loop-prefix : goal.decreases-loop-prefix
decreases-loop-prefix l = length l.rest
