-- No tick, a load that is due and then the rest, or no such load.
use Rattle.std.proofs.Common.{◌≡◌, ◌-◌, ◌∙◌, sym, ap, subst, arith, true, false}
use Rattle.board_types.proofs.Iterate.{iterate_zero}
use Rattle.pit8253.specs.Counter.{after_tick, after_ticks}
use Rattle.pit8253.specs.Ahead.{after_run}
use Rattle.pit8253.proofs.Ahead.{Sound, runs_ahead, goes_ahead}
use Rattle.pit8253.proofs.counter.CounterTimed.advance.Goals as goal

pub returns-then-ticks-eq0 : goal.returns-then-ticks-eq0
returns-then-ticks-eq0 c =
    sym (ap (λ k. after_ticks c.args.self.now k) c.if-ticks-eq0.true ∙ iterate_zero after_tick c.args.self.now)

pub returns-then-self : goal.returns-then-self
returns-then-self c =
    let sound : Sound c.args.self.now = subst Sound c.self.view_is (record { newest = c.self.invariant.0; count = c.self.invariant.1 }) in
    let due : c.args.self.now.load_due ≡ true = ap (λ s. s.load_due) (sym c.self.view_is) ∙ c.if-self.true in
    c.run.ensures ∙ ap (λ s. after_run s (c.args.ticks - 1)) c.load_due_count.ensures
    ∙ sym (goes_ahead c.args.self.now c.args.ticks sound due (omega (arith, c.if-ticks-eq0.false)))

pub returns-else-self : goal.returns-else-self
returns-else-self c =
    let sound : Sound c.args.self.now = subst Sound c.self.view_is (record { newest = c.self.invariant.0; count = c.self.invariant.1 }) in
    let due : c.args.self.now.load_due ≡ false = ap (λ s. s.load_due) (sym c.self.view_is) ∙ c.if-self.false in
    c.run-else-self.ensures ∙ sym (runs_ahead c.args.self.now sound due c.args.ticks)
