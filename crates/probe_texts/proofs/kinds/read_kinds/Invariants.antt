use Rattle.std.proofs.Common.{◌≡◌, [], length}
use Rattle.debugger_meaning.specs.CommandWords.{words_of}
use Rattle.probe_texts.specs.Kinds.{kinds_from}
use Rattle.probe_texts.proofs.kinds.read_kinds.Given as goal

abbrev pub invariant-loop-word : goal.invariant-loop-word
invariant-loop-word l = kinds_from l.kinds.items (words_of l.rest) ≡ kinds_from [] (words_of l.line)

abbrev pub decreases-loop-word : goal.decreases-loop-word
decreases-loop-word l = length (words_of l.rest)
