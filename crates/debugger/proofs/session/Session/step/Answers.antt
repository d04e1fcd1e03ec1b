use Rattle.debugger_meaning.proofs.Standing.{after_refusal, after_run}
use Rattle.debugger.proofs.session.Session.step.Goals as goal

pub invariant_of-self : goal.invariant_of-self
invariant_of-self g c =
    after_refusal c.self.inside.first c.self.inside.board c.run.new.board c.self.inside.checkpoints
    c.self.inside.stops.items _ _ c.in_err-run.field-0.0 c.self.invariant c.in_err-run.ensures

pub invariant_of-self-2 : goal.invariant_of-self-2
invariant_of-self-2 g c =
    after_run c.self.inside.first c.self.inside.board c.run.new.board c.self.inside.checkpoints c.keep.new.self
    c.self.inside.stops.items _ _ c.in_ok-run.field-0 c.self.invariant c.in_ok-run.ensures c.keep.ensures
