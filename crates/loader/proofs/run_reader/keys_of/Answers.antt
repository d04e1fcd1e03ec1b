use Rattle.std.proofs.Common.{◌∙◌, ◌+◌, ap, drop, sym}
use Rattle.loader.proofs.Entries.{keys_after, keys_step, next_item}
use Rattle.loader.proofs.run_reader.keys_of.Goals as goal

pub loop-entry-preserved : goal.loop-entry-preserved
loop-entry-preserved c =
    keys_step c.loop-entry.keys c.push_key.new.keys c.entry-item.result
    (drop (c.loop-entry.entry-index + 1) c.args.entries.now) c.in_ok-push_key.ensures.pushed c.in_ok-push_key.ensures.taken
    ∙ ap (keys_after c.loop-entry.keys) (sym (next_item c.args.entries.now c.loop-entry.entry-index c.entry-item.result c.loop-entry-test.true c.entry-item.is))
    ∙ c.loop-entry.invariant
