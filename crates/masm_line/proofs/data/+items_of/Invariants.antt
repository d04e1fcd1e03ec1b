use Rattle.std.proofs.Common.{◌+◌, length}
use Rattle.std.specs.Option.{option_map_or}
use Rattle.masm_line.proofs.data.+items_of.Given as goal

abbrev pub decreases-items_of : goal.decreases-items_of
decreases-items_of l = l.depth

abbrev pub decreases-loop-left : goal.decreases-loop-left
decreases-loop-left l = option_map_or (λ tokens. 1 + length tokens.now) l.left 0
