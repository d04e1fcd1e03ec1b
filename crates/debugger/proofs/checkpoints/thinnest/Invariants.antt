use Rattle.std.proofs.Common.{◌<◌, length}
use Rattle.debugger.proofs.checkpoints.thinnest.Given as goal

abbrev pub invariant-loop-index : goal.invariant-loop-index
invariant-loop-index l = l.best < length l.kept
