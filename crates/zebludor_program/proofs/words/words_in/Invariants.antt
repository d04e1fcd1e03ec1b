use Rattle.std.proofs.Common.{◌≡◌, ◌++◌, map, length}
use Rattle.board_types.specs.TextLines.{text_lines}
use Rattle.zebludor_program.proofs.words.words_in.Given as goal

abbrev pub invariant-loop-line : goal.invariant-loop-line
invariant-loop-line l = text_lines l.fn.text ≡ map (λ word. word.now) l.words.items ++ text_lines l.rest

abbrev pub decreases-loop-line : goal.decreases-loop-line
decreases-loop-line l = length l.rest
