use Rattle.std.proofs.Common.{◌∙◌, Some, sym, ap, arith}
use Rattle.probe_texts.specs.declared.stops.Stop.{Stop}
use Rattle.probe.specs.declared.watched.Watched.{Watched}
use Rattle.probe.specs.ProbeStops.{standing, stands}
use Rattle.probe.proofs.Places.{below_also, none_before, of_each, there_first}
use Rattle.probe.proofs.met.standing.Goals as goal

pub loop-index-init : goal.loop-index-init
loop-index-init c = λ k d below. absurd (omega (arith, below))

pub returns-then-stands : goal.returns-then-stands
unfolding standing
returns-then-stands c =
    let s = c.args.board.now.plain in
    ap Some (omega arith)
    ∙ sym (of_each (λ (stop : Stop). stands stop s) (λ (w : Watched). w.stop) 1 c.args.watches.now
    ∙ there_first (λ (w : Watched). stands w.stop s) 1 c.loop-index.index c.args.watches.now c.index-watches-index.result
    (omega arith) c.loop-index.invariant (sym c.stands.ensures ∙ c.if-stands.true))

pub loop-index-preserved : goal.loop-index-preserved
loop-index-preserved c =
    below_also (λ (w : Watched). stands w.stop c.args.board.now.plain) c.loop-index.index c.args.watches.now c.index-watches-index.result
    (omega arith) c.loop-index.invariant (sym c.stands.ensures ∙ c.if-stands.false)

pub returns : goal.returns
unfolding standing
returns c =
    let s = c.args.board.now.plain in
    sym (of_each (λ (stop : Stop). stands stop s) (λ (w : Watched). w.stop) 1 c.args.watches.now
    ∙ none_before (λ (w : Watched). stands w.stop s) 1 c.args.watches.now
    (λ k d below. c.loop-index.invariant k d (omega (arith, below, c.loop-index-test.false))))
