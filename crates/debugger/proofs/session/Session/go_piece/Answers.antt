use Rattle.debugger_meaning.proofs.Standing.{after_refusal, after_run}
use Rattle.debugger.proofs.session.Session.go_piece.Goals as goal

pub invariant_of-self : goal.invariant_of-self
invariant_of-self g c =
    after_refusal c.self.inside.first c.self.inside.board c.run.new.board c.self.inside.checkpoints c.self.inside.stops.items
    c.self.inside.stops.items c.args.count c.in_err-stopped.field-0.0 c.self.invariant c.in_err-stopped.ensures

pub invariant_of-self-2 : goal.invariant_of-self-2
invariant_of-self-2 g c =
    after_run c.self.inside.first c.self.inside.board c.run.new.board c.self.inside.checkpoints c.keep.new.self c.self.inside.stops.items
    c.self.inside.stops.items c.args.count c.in_ok-stopped.stopped c.self.invariant c.in_ok-stopped.ensures c.keep.ensures
