use Rattle.std.proofs.Common.{◌≤◌, length, ◌-◌}
use Rattle.streams.specs.ByteInput.{CountsNone}
use Rattle.streams.proofs.byte_input.read_all.Given as goal

abbrev pub invariant-pieces : goal.invariant-pieces
invariant-pieces g l =
    g.I.ByteInput.gave l.fn.input l.input l.bytes.items
    × CountsNone (g.I.ByteInput.failures l.fn.input) (g.I.ByteInput.failures l.input)
    × (length l.bytes.items ≤ l.limit)

abbrev pub decreases-pieces : goal.decreases-pieces
decreases-pieces g l = l.limit - length l.bytes.items
