use Rattle.std.proofs.Common.{◌≡◌, ℕ, ◌<◌, true}
use Rattle.std.specs.Prelude.{slice_index_or}
use Rattle.board_plain.specs.declared.stop.Condition.TheVariants.{Free}
use Rattle.board.specs.AwaitFree.{awaits_free}
use Rattle.board.proofs.stop.all_await_free.Given as goal

abbrev pub invariant-loop-condition : goal.invariant-loop-condition
invariant-loop-condition l = (k : ℕ) → k < l.condition-index → awaits_free (slice_index_or l.conditions k Free) ≡ true
