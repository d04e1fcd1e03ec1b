use Rattle.mda_text.proofs.Keeping.{IsKeptTo}
use Rattle.mda_text.proofs.mda.Mda.keep_characters.Given as goal

abbrev pub invariant-loop-n : goal.invariant-loop-n
invariant-loop-n l = IsKeptTo l.initial.self l.self l.n
