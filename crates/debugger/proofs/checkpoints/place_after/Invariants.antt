use Rattle.std.proofs.Common.{◌≤◌, All, take}
use Rattle.board_plain.specs.Plain.{clock_of}
use Rattle.debugger.proofs.checkpoints.place_after.Given as goal

abbrev pub invariant-loop-index : goal.invariant-loop-index
invariant-loop-index l = All (λ board. clock_of board.plain ≤ l.clock) (take l.index l.kept)
