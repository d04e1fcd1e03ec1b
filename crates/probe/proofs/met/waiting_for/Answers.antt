use Rattle.std.proofs.Common.{◌∙◌, Some, sym, ap, arith}
use Rattle.probe.specs.declared.watched.Watched.{Watched}
use Rattle.probe.specs.Met.{waiting_for, waits_for}
use Rattle.probe.proofs.Places.{below_also, none_before, there_first}
use Rattle.probe.proofs.met.waiting_for.Goals as goal

pub loop-index-init : goal.loop-index-init
loop-index-init c = λ k d below. absurd (omega (arith, below))

pub returns-then-waits_for : goal.returns-then-waits_for
unfolding waiting_for
returns-then-waits_for c =
    ap Some (omega arith)
    ∙ sym (there_first (λ (w : Watched). waits_for c.args.event.now w.stop) 1 c.loop-index.index c.args.watches.now c.index-watches-index.result
    (omega arith) c.loop-index.invariant (sym c.waits_for.ensures ∙ c.if-waits_for.true))

pub loop-index-preserved : goal.loop-index-preserved
loop-index-preserved c =
    below_also (λ (w : Watched). waits_for c.args.event.now w.stop) c.loop-index.index c.args.watches.now c.index-watches-index.result
    (omega arith) c.loop-index.invariant (sym c.waits_for.ensures ∙ c.if-waits_for.false)

pub returns : goal.returns
unfolding waiting_for
returns c =
    sym (none_before (λ (w : Watched). waits_for c.args.event.now w.stop) 1 c.args.watches.now
    (λ k d below. c.loop-index.invariant k d (omega (arith, below, c.loop-index-test.false))))
