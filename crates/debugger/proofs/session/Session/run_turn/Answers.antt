use Rattle.debugger_meaning.proofs.Standing.{after_keeping, after_turn}
use Rattle.debugger.proofs.session.Session.run_turn.Goals as goal

pub invariant_of-self : goal.invariant_of-self
invariant_of-self g c =
    let turn = c.in-Ok.ensures.ok in
    after_keeping c.self.inside.first c.run_turn.new.self c.self.inside.checkpoints c.keep.new.self c.self.inside.stops.items
    (after_turn c.self.inside.first c.self.inside.board c.run_turn.new.self
    c.self.inside.checkpoints c.self.inside.stops.items turn.passed c.self.invariant turn.ran)
    c.keep.ensures

pub invariant_of-self-else-is_multiple_of : goal.invariant_of-self-else-is_multiple_of
invariant_of-self-else-is_multiple_of g c =
    let turn = c.in-Ok.ensures.ok in
    after_turn c.self.inside.first c.self.inside.board c.run_turn.new.self
    c.self.inside.checkpoints c.self.inside.stops.items turn.passed c.self.invariant turn.ran
