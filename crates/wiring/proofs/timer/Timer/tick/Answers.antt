use Rattle.std.proofs.Common.{◌≡◌, true, ◌∙◌, sym, subst, Option, ℕ}
use Rattle.board_types.specs.Timed.{IsUntilTurn}
use Rattle.pit8253.specs.Counter as one
use Rattle.pit8253.specs.Counter.{out_of}
use Rattle.pit8253.specs.Pit.{PitState, after_ticks}
use Rattle.wiring.specs.LaggingTimer.{is_before, later_turn, IsSoon}
use Rattle.wiring.proofs.Lagging.{no_lag, soon_later, lags_still, turns_later_2}
use Rattle.wiring.proofs.timer.Timer.tick.Goals as goal
use Rattle.wiring.proofs.timer.Timer.tick.Goals.{then-is_before, else-is_before}

pub invariant_of-self : goal.invariant_of-self
invariant_of-self c =
    let was : PitState = c.self.inside.pit in
    let p : PitState = c.advance.new.self in
    let turn : Option ℕ = c.if-is_before.self in
    let all : ℕ = c.in-Some.all in
    let turn_2 : IsUntilTurn one.after_ticks out_of p.counter_2 turn =
    elim c.if-is_before.branch [
      | then-is_before w ↦
          let before : is_before all c.self.inside.turn_2 ≡ true = sym c.is_before.ensures ∙ w.if-is_before.true in
          let left : IsUntilTurn one.after_ticks out_of (after_ticks was all).counter_2 (later_turn c.self.inside.turn_2 all) =
          turns_later_2 was c.self.inside.turn_2 all (lags_still was.counter_2 c.self.inside.turn_2 c.self.inside.lag all c.self.invariant.1 before) in
          subst (λ (q : PitState). IsUntilTurn one.after_ticks out_of q.counter_2 turn) (sym c.advance.ensures)
          (subst (λ t. IsUntilTurn one.after_ticks out_of (after_ticks was all).counter_2 t) (sym (w.self-is ∙ w.later_turn-self-inside.ensures.turn)) left)
      | else-is_before w ↦
          subst (λ t. IsUntilTurn one.after_ticks out_of p.counter_2 t) (sym w.self-is) w.until_change-self-inside-else-is_before.ensures.turn
    ]
    in
    let soon_2 : IsSoon turn =
    elim c.if-is_before.branch [
      | then-is_before w ↦
          subst IsSoon (sym (w.self-is ∙ w.later_turn-self-inside.ensures.turn)) (soon_later c.self.inside.turn_2 all c.self.invariant.1.soon)
      | else-is_before w ↦ subst IsSoon (sym w.self-is) w.until_change-self-inside-else-is_before.ensures.bound
    ]
    in (
      no_lag p.counter_0 c.until_change-self-inside.result c.until_change-self-inside.ensures.turn c.until_change-self-inside.ensures.bound,
      no_lag p.counter_2 turn turn_2 soon_2,
    )
