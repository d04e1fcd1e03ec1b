use Rattle.debugger.proofs.Adding.{Adds}
use Rattle.debugger.proofs.checkpoints.give_key.Given as goal

abbrev pub invariant-loop-index : goal.invariant-loop-index
invariant-loop-index g l = Adds l.key l.fn.boards.items l.index l.boards.items

abbrev pub decreases-loop-index : goal.decreases-loop-index
decreases-loop-index g l = l.index
