use Rattle.std.proofs.Common.{ℕ, ◌<◌}
use Rattle.std.specs.Prelude.{slice_index_or}
use Rattle.board_plain.specs.declared.stop.Condition.TheVariants.{Free}
use Rattle.board.specs.IpRange.{IsWithin}
use Rattle.board.proofs.stop.IpRange.of.Given as goal

abbrev pub invariant-loop-condition : goal.invariant-loop-condition
invariant-loop-condition l = (k : ℕ) → k < l.condition-index → IsWithin l.ip_range (slice_index_or l.conditions k Free)
