use Rattle.pic8259.specs.Levels.{order_with_lowest}
use Rattle.pic8259.proofs.Order.{up_to_place}
use Rattle.pic8259.proofs.controller.Pic.order.Goals as goal

pub returns-clause-places : goal.returns-clause-places
unfolding order_with_lowest
returns-clause-places c = λ place within. up_to_place place c.self.inside.lowest within c.self.invariant.0
