use Rattle.std.proofs.Common.{◌≡◌, [], length}
use Rattle.debugger_meaning.specs.CommandWords.{words_of}
use Rattle.probe_texts.specs.Wishes.{bytes_from}
use Rattle.probe_texts.proofs.wishes.read_bytes.Given as goal

abbrev pub invariant-loop-word : goal.invariant-loop-word
invariant-loop-word l = bytes_from l.bytes.items (words_of l.rest) ≡ bytes_from [] (words_of l.words)

abbrev pub decreases-loop-word : goal.decreases-loop-word
decreases-loop-word l = length (words_of l.rest)
