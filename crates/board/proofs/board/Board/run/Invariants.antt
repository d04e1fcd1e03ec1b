use Rattle.std.proofs.Common.{◌-◌}
use Rattle.board_plain.specs.Plain.{clock_of}
use Rattle.board.proofs.Turns.{SoFar}
use Rattle.board.proofs.board.Board.run.Given as goal

abbrev pub invariant-turns : goal.invariant-turns
invariant-turns g l = SoFar 1 l.end l.fn.self l.self

abbrev pub decreases-turns : goal.decreases-turns
decreases-turns g l = l.end - clock_of l.self.plain
