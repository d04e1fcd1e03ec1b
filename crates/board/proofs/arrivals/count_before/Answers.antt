use Rattle.std.proofs.Common.{◌≡◌, ◌-◌, get_or, sym, arith}
use Rattle.board.proofs.KeyOrder.{awaits_from, earlier_than, later_at}
use Rattle.board.proofs.arrivals.count_before.Goals as goal

pub loop-before-init : goal.loop-before-init
loop-before-init c = (omega arith, λ j d from within. later_at c.args.count c.args.clock c.args.keys.now c.requires.later j d from within)

pub returns-else-get-clock-clause-awaits : goal.returns-else-get-clock-clause-awaits
returns-else-get-clock-clause-awaits c =
    let some = c.loop-before-test.true in
    let fewer = c.loop-before.invariant.0 in
    let within = c.requires.within in
    let stamp : (get_or c.args.keys.now (c.loop-before.before - 1) c.index-keys-before.result).stamp ≡ c.get.result = sym c.get.ensures.value in
    awaits_from c.loop-before.before c.args.clock c.args.keys.now (omega (arith, fewer, within))
    (λ j d before.
    earlier_than (c.loop-before.before - 1) c.args.clock c.args.keys.now c.index-keys-before.result c.requires.in_order (omega (arith, fewer, within, some))
    (omega (arith, stamp, c.if-get-clock.false)) j d (omega (arith, before, some)))
    (λ j d from inside. c.loop-before.invariant.1 j d from inside)
