use Rattle.std.proofs.Common.{◌≡◌, ◌++◌, length}
use Rattle.zebludor_program.specs.Translations.{lines_text}
use Rattle.zebludor_program.proofs.printing.push_lines.Given as goal

abbrev pub invariant-loop-rest : goal.invariant-loop-rest
invariant-loop-rest l = l.to.items ++ lines_text l.fn.has_map l.fn.texts l.rest ≡ l.fn.to.items ++ lines_text l.fn.has_map l.fn.texts l.fn.lines

abbrev pub decreases-loop-rest : goal.decreases-loop-rest
decreases-loop-rest l = length l.rest
