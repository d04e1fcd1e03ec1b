use Rattle.debugger_meaning.proofs.Pieces.{Went}
use Rattle.debugger.proofs.session.Session.go.Given as goal

abbrev pub invariant-pieces : goal.invariant-pieces
invariant-pieces g l = Went l.count l.left l.fn.self l.self

abbrev pub decreases-pieces : goal.decreases-pieces
decreases-pieces g l = l.left
