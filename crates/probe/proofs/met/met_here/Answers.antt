use Rattle.std.proofs.Common.{◌∙◌, Bool, Some, sym, ap, arith}
use Rattle.probe.specs.declared.watched.Watched.{Watched}
use Rattle.probe.specs.Met.{is_there, met_here}
use Rattle.probe.proofs.Places.{below_also, none_before, there_first}
use Rattle.probe.proofs.met.met_here.Goals as goal

pub loop-index-init : goal.loop-index-init
loop-index-init c = λ k d below. absurd (omega (arith, below))

pub returns-then-is_there : goal.returns-then-is_there
unfolding met_here
returns-then-is_there c =
    let here : Watched → Bool = λ w. is_there w.stop w.copied c.args.accesses.now c.args.board.now.plain in
    ap Some (omega arith)
    ∙ sym (there_first here 1 c.loop-index.index c.args.watches.now
    c.index-watches-index.result (omega arith) c.loop-index.invariant (ap here (sym c.index-watches-index.is) ∙ sym c.is_there.ensures ∙ c.if-is_there.true))

pub loop-index-preserved : goal.loop-index-preserved
loop-index-preserved c =
    let here : Watched → Bool = λ w. is_there w.stop w.copied c.args.accesses.now c.args.board.now.plain in
    below_also here c.loop-index.index c.args.watches.now
    c.index-watches-index.result (omega arith) c.loop-index.invariant (ap here (sym c.index-watches-index.is) ∙ sym c.is_there.ensures ∙ c.if-is_there.false)

pub returns : goal.returns
unfolding met_here
returns c =
    sym (none_before (λ (w : Watched). is_there w.stop w.copied c.args.accesses.now c.args.board.now.plain) 1 c.args.watches.now
    (λ k d below. c.loop-index.invariant k d (omega (arith, below, c.loop-index-test.false))))
