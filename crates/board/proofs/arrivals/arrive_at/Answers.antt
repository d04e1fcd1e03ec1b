use Rattle.std.proofs.Common.{◌≢◌, ◌∙◌, refl, sym, ap, get_or}
use Rattle.board_types.specs.declared.keys.StampedKey.{StampedKey}
use Rattle.wiring.specs.Wires.{after_arrivals}
use Rattle.board.proofs.KeyOrder.{arrived_none, codes_none, arrived_before}
use Rattle.board.proofs.arrivals.arrive_at.Goals as goal

pub loop-index-init : goal.loop-index-init
loop-index-init c = (
  ap (λ codes. after_arrivals c.args.chips.now codes) (sym (codes_none c.args.next c.args.clock c.args.keys.now c.requires.awaits)),
  refl,
  arrived_none c.args.next c.args.clock c.args.keys.now c.requires.awaits,
)

pub returns-then-get-clock-clause-chips : goal.returns-then-get-clock-clause-chips
returns-then-get-clock-clause-chips c =
    let differs : (get_or c.args.keys.now c.loop-index.index c.index-keys-index.result).stamp ≢ c.args.clock =
    λ e. c.if-get-clock.true (c.get.ensures.value ∙ ap (λ (k : StampedKey). k.stamp) c.index-keys-index.is ∙ e) in
    let all = arrived_before c.args.next c.loop-index.index c.args.clock c.args.keys.now c.index-keys-index.result
    c.requires.in_order c.requires.awaits c.loop-index.invariant.2 c.loop-index-test.true differs in
    c.loop-index.invariant.0 ∙ ap (λ codes. after_arrivals c.args.chips.now codes) (sym all.codes)

pub returns-then-get-clock-clause-awaits : goal.returns-then-get-clock-clause-awaits
returns-then-get-clock-clause-awaits c =
    let differs : (get_or c.args.keys.now c.loop-index.index c.index-keys-index.result).stamp ≢ c.args.clock =
    λ e. c.if-get-clock.true (c.get.ensures.value ∙ ap (λ (k : StampedKey). k.stamp) c.index-keys-index.is ∙ e) in
    (arrived_before c.args.next c.loop-index.index c.args.clock c.args.keys.now c.index-keys-index.result
    c.requires.in_order c.requires.awaits c.loop-index.invariant.2 c.loop-index-test.true differs).awaits
