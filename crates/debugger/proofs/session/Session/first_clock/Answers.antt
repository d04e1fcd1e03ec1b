use Rattle.std.proofs.Common.{◌≤◌, subst, arith}
use Rattle.board_plain.specs.Plain.{clock_of}
use Rattle.debugger_meaning.specs.Stands.{SessionState}
use Rattle.debugger.proofs.session.Session.first_clock.Goals as goal

pub returns-clause-earlier : goal.returns-clause-earlier
returns-clause-earlier g c =
    subst (λ (s : SessionState). clock_of s.first.plain ≤ clock_of s.board.plain) c.self.view_is (omega (arith, c.self.invariant.stands.1.clock))
