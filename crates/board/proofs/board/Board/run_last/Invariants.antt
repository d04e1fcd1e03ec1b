use Rattle.std.proofs.Common.{◌-◌}
use Rattle.board_plain.specs.Plain.{clock_of}
use Rattle.board.proofs.Latest.{Looked}
use Rattle.board.proofs.board.Board.run_last.Given as goal

abbrev pub invariant-turns : goal.invariant-turns
invariant-turns g l = Looked l.stops.items l.end l.fn.self l.self l.last

abbrev pub decreases-turns : goal.decreases-turns
decreases-turns g l = l.end - clock_of l.self.plain
