use Rattle.std.proofs.Common.{◌≡◌, ◌≤◌, length, false}
use Rattle.assembler_lexeme.specs.Lexemes.{lexemes_from}
use Rattle.assembler_lexeme.proofs.lexeme.skip_blanks.Given as goal

abbrev pub invariant-loop-rest : goal.invariant-loop-rest
invariant-loop-rest l = record { same : lexemes_from false l.rest ≡ lexemes_from false l.fn.text; shorter : length l.rest ≤ length l.fn.text }

abbrev pub decreases-loop-rest : goal.decreases-loop-rest
decreases-loop-rest l = length l.rest
