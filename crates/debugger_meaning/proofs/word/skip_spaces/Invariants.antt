use Rattle.std.proofs.Common.{◌≡◌, length}
use Rattle.debugger_meaning.specs.CommandWords.{words_from}
use Rattle.debugger_meaning.proofs.word.skip_spaces.Given as goal

abbrev pub invariant-loop-rest : goal.invariant-loop-rest
invariant-loop-rest l = words_from l.rest ≡ words_from l.fn.line

abbrev pub decreases-loop-rest : goal.decreases-loop-rest
decreases-loop-rest l = length l.rest
