use Rattle.std.proofs.Common.{◌<◌, length, find, sym, ap, ◌∙◌, arith}
use Rattle.std.proofs.lemmas.List.{take_all}
use Rattle.pic8259.specs.Pic.{blocks, highest_served}
use Rattle.pic8259.proofs.Walk.{none_more, found_next}
use Rattle.pic8259.proofs.controller.Pic.highest_served.Goals as goal

pub returns-then-blocks-clause-level : goal.returns-then-blocks-clause-level
unfolding highest_served
returns-then-blocks-clause-level c =
    let within : c.loop-served.served-index < length c.order-served-items.result = omega arith in
    sym (found_next (blocks c.args.self.now) _ _ 0 within c.loop-served.invariant (sym c.blocks-in-loop-served.ensures ∙ c.if-blocks.true))
    ∙ ap (find (blocks c.args.self.now)) c.order-served-items.ensures.order

pub loop-served-preserved : goal.loop-served-preserved
loop-served-preserved c =
    let within : c.loop-served.served-index < length c.order-served-items.result = omega arith in
    none_more (blocks c.args.self.now) _ _ 0 within c.loop-served.invariant (sym c.blocks-in-loop-served.ensures ∙ c.if-blocks.false)

pub returns-clause-level : goal.returns-clause-level
unfolding highest_served
returns-clause-level c =
    sym c.loop-served.invariant ∙ ap (find (blocks c.args.self.now)) (take_all _ _ (omega arith) ∙ c.order-served-items.ensures.order)
