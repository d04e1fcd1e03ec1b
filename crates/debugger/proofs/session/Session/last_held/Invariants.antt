use Rattle.debugger_meaning.specs.Stands.{gone}
use Rattle.debugger_meaning.proofs.Following.{Searched}
use Rattle.debugger.proofs.session.Session.last_held.Given as goal

abbrev pub invariant-stretches : goal.invariant-stretches
invariant-stretches g l = Searched l.stops.items l.bound (gone l.self) l.self.first.plain

abbrev pub decreases-stretches : goal.decreases-stretches
decreases-stretches g l = l.bound
