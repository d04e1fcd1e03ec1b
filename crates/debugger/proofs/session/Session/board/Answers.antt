use Rattle.std.proofs.Common.{◌≤◌, length, subst}
use Rattle.debugger_meaning.specs.Stands.{SessionState, Stands, shown_of}
use Rattle.debugger_meaning.proofs.Standing.{few_of}
use Rattle.debugger.proofs.session.Session.board.Goals as goal

pub returns-clause-few : goal.returns-clause-few
returns-clause-few g c =
    subst (λ (s : SessionState). length s.board.trail ≤ 32) c.self.view_is (few_of (shown_of c.self.inside.first) c.self.inside.board c.self.invariant.stands)

pub returns-clause-stands : goal.returns-clause-stands
returns-clause-stands g c = subst (λ (s : SessionState). Stands s) c.self.view_is c.self.invariant.stands
