-- What is left of the ticks to the turn, at the timer as it is now.
use Rattle.std.proofs.Common.{sym, subst}
use Rattle.board_types.specs.Timed.{IsUntilTurn}
use Rattle.pit8253.specs.Counter as one
use Rattle.pit8253.specs.Counter.{out_of}
use Rattle.pit8253.specs.Pit.{PitState, after_ticks}
use Rattle.wiring.proofs.Lagging.{turns_later_0}
use Rattle.wiring.proofs.timer.Timer.until_turn_0.Goals as goal

pub returns : goal.returns
returns c =
    subst (λ (p : PitState). IsUntilTurn one.after_ticks out_of p.counter_0 c.later_turn.result) c.self.view_is
    (subst (λ turn. IsUntilTurn one.after_ticks out_of (after_ticks c.self.inside.pit c.self.inside.lag).counter_0 turn) (sym c.later_turn.ensures.turn)
    (turns_later_0 c.self.inside.pit c.self.inside.turn_0 c.self.inside.lag c.self.invariant.0))
