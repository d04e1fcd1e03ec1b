use Rattle.std.proofs.Common.{◌+◌, length}
use Rattle.std.specs.Option.{option_map_or}
use Rattle.masm_reading.proofs.macros.names_of.Given as goal

abbrev pub decreases-loop-left : goal.decreases-loop-left
decreases-loop-left l = option_map_or (λ part. 1 + length part.now) l.left 0
