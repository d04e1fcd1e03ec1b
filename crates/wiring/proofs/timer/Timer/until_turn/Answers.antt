use Rattle.std.proofs.Common.{◌≡◌, ◌+◌, true, ◌∙◌, ap, sym, subst}
use Rattle.board_types.specs.Timed.{IsSteady}
use Rattle.pit8253.specs.Counter as one
use Rattle.pit8253.specs.Counter.{out_of}
use Rattle.pit8253.specs.Pit.{PitState}
use Rattle.wiring.specs.LaggingTimer.{is_before, IsSoon}
use Rattle.wiring.proofs.Lagging.{before_later, soon_later, steady_while_0, steady_while_2}
use Rattle.wiring.proofs.timer.Timer.until_turn.Goals as goal

pub later_turn-requires : goal.later_turn-requires
later_turn-requires c = c.earlier_turn.ensures.both c.self.inside.lag c.self.invariant.0.before c.self.invariant.1.before

pub returns-clause-out_0 : goal.returns-clause-out_0
returns-clause-out_0 c = λ ticks before.
    let lag = c.self.inside.lag in
    let now = c.earlier_turn.ensures.both lag c.self.invariant.0.before c.self.invariant.1.before in
    let later : is_before (lag + ticks) c.earlier_turn.result ≡ true =
    before_later c.earlier_turn.result lag ticks now (ap (λ t. is_before ticks t) (sym c.later_turn.ensures.turn) ∙ before) in
    subst (λ (p : PitState). IsSteady one.after_ticks out_of p.counter_0 ticks) c.self.view_is
    (steady_while_0 c.self.inside.pit c.self.inside.turn_0 lag ticks c.self.invariant.0 (c.earlier_turn.ensures.first (lag + ticks) later).0)

pub returns-clause-out_2 : goal.returns-clause-out_2
returns-clause-out_2 c = λ ticks before.
    let lag = c.self.inside.lag in
    let now = c.earlier_turn.ensures.both lag c.self.invariant.0.before c.self.invariant.1.before in
    let later : is_before (lag + ticks) c.earlier_turn.result ≡ true =
    before_later c.earlier_turn.result lag ticks now (ap (λ t. is_before ticks t) (sym c.later_turn.ensures.turn) ∙ before) in
    subst (λ (p : PitState). IsSteady one.after_ticks out_of p.counter_2 ticks) c.self.view_is
    (steady_while_2 c.self.inside.pit c.self.inside.turn_2 lag ticks c.self.invariant.1 (c.earlier_turn.ensures.first (lag + ticks) later).1)

pub returns-clause-soon : goal.returns-clause-soon
returns-clause-soon c =
    subst IsSoon (sym c.later_turn.ensures.turn)
    (soon_later c.earlier_turn.result c.self.inside.lag (c.earlier_turn.ensures.soon c.self.invariant.0.soon c.self.invariant.1.soon))
