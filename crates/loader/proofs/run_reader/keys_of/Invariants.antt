use Rattle.std.proofs.Common.{◌≡◌, drop, []}
use Rattle.loader.proofs.Entries.{keys_after}
use Rattle.loader.proofs.run_reader.keys_of.Given as goal

-- the keys so far, with those that the rest brings, are all
abbrev pub invariant-loop-entry : goal.invariant-loop-entry
invariant-loop-entry l = keys_after l.keys (drop l.entry-index l.entries) ≡ keys_after [] l.entries
