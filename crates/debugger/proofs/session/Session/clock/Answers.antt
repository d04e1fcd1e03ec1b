use Rattle.std.specs.Prelude.{All}
use Rattle.std.proofs.Common.{subst}
use Rattle.board_plain.specs.Stops.{HasAddress}
use Rattle.debugger_meaning.specs.Stands.{SessionState, Stands}
use Rattle.debugger.proofs.session.Session.clock.Goals as goal

pub returns-clause-addresses : goal.returns-clause-addresses
returns-clause-addresses g c = subst (λ (s : SessionState). All HasAddress s.stops) c.self.view_is c.self.invariant.addresses

pub returns-clause-stands : goal.returns-clause-stands
returns-clause-stands g c = subst (λ (s : SessionState). Stands s) c.self.view_is c.self.invariant.stands
