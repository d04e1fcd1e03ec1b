use Rattle.std.proofs.Common.{sym, ap, subst}
use Rattle.board_plain.specs.Board.{BoardState}
use Rattle.debugger_meaning.specs.SessionInvariant.{IsSession, StandsNow}
use Rattle.debugger_meaning.specs.Stands.{SessionState, shown_of}
use Rattle.debugger_meaning.specs.Stands.{Shown, StandsAfter}
use Rattle.debugger_meaning.proofs.Standing.{at_board}
use Rattle.board_plain.specs.Plain.{clock_of}
use Rattle.debugger.proofs.session.Session.stand.Goals as goal

pub invariant_of-self : goal.invariant_of-self
invariant_of-self g c =
    subst (λ (board : BoardState). IsSession c.self.inside.first board c.self.inside.checkpoints c.self.inside.stops.items) (sym c.replace.ensures.after)
    (at_board c.self.inside.first c.self.inside.board c.args.board c.self.inside.checkpoints c.self.inside.stops.items c.self.invariant
    (subst (λ (f : Shown). StandsAfter f c.args.board) (sym (ap (λ (s : SessionState). s.first) c.self.view_is)) c.requires))

pub returns : goal.returns
returns g c =
    subst (λ (board : BoardState).
    StandsNow (clock_of c.args.board.plain) c.args.self.now (record { first = shown_of c.self.inside.first; board = board; stops = c.self.inside.stops.items }))
    (sym c.replace.ensures.after)
    (record {
      passed = c.requires.0;
      clock_is = c.requires.1.clock;
      stands = c.requires.1;
      first = ap (λ (s : SessionState). s.first) c.self.view_is;
      stops = ap (λ (s : SessionState). s.stops) c.self.view_is;
    })
