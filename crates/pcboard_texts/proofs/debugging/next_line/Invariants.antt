use Rattle.std.proofs.Common.{◌-◌, ◌^◌, length}
use Rattle.streams.specs.ByteInput.{CountsNone}
use Rattle.pcboard_texts.proofs.Sessions.{LineSoFar}
use Rattle.pcboard_texts.proofs.debugging.next_line.Given as goal

abbrev pub invariant-bytes : goal.invariant-bytes
invariant-bytes g l =
    LineSoFar (g.I.ByteInput.gave l.initial.input l.input) l.line.items
    × CountsNone (g.I.ByteInput.failures l.initial.input) (g.I.ByteInput.failures l.input)

-- no line in memory is longer
abbrev pub decreases-bytes : goal.decreases-bytes
decreases-bytes g l = 2 ^ 63 - length l.line.items
