use Rattle.std.proofs.Common.{◌≡◌, ◌+◌, length}
use Rattle.assembler_lexeme.specs.Lexemes.{text_size}
use Rattle.assembler_lexeme.proofs.lexeme.text_length.Given as goal

abbrev pub invariant-loop-rest : goal.invariant-loop-rest
invariant-loop-rest l = record { rest : l.length + text_size l.rest ≡ text_size l.fn.text; all : l.length + length l.rest ≡ length l.fn.text }

abbrev pub decreases-loop-rest : goal.decreases-loop-rest
decreases-loop-rest l = length l.rest
