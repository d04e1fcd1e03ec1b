use Rattle.debugger_meaning.proofs.Standing.{copied, first_stands, kept_stand}
use Rattle.debugger.proofs.session.Session.board_before.Goals as goal

pub returns-in-Some-clause-stands : goal.returns-in-Some-clause-stands
returns-in-Some-clause-stands g c =
    copied c.args.self.now.first c.in-Some.kept.now c.copy_of.result c.copy_of.ensures.same
    (kept_stand c.self.inside.first c.self.inside.board c.self.inside.checkpoints c.self.inside.stops.items
    c.args.self.now c.in-Some.kept.now c.self.view_is c.self.invariant c.in-Some.ensures.0)

pub returns-in-None-clause-stands : goal.returns-in-None-clause-stands
returns-in-None-clause-stands g c =
    copied c.args.self.now.first c.self.inside.first c.copy_of-in-None.result c.copy_of-in-None.ensures.same
    (first_stands c.self.inside.first c.self.inside.board c.self.inside.checkpoints
    c.self.inside.stops.items c.args.self.now c.self.view_is c.copy_of-in-None.ensures.few)
