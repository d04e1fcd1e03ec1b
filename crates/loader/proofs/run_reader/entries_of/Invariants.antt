use Rattle.std.proofs.Common.{◌≡◌, drop}
use Rattle.serde_json.specs.View.{items_view}
use Rattle.loader.specs.RunFile.{entries_of}
use Rattle.loader.proofs.Entries.{after_front}
use Rattle.loader.proofs.run_reader.entries_of.Given as goal

-- the entries so far stand in front of the rest's
abbrev pub invariant-loop-value : goal.invariant-loop-value
invariant-loop-value l =
    after_front l.entries.items (entries_of (items_view (drop l.value-index l.values))) ≡ entries_of (items_view l.values)
