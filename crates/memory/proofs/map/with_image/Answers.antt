use Rattle.std.proofs.Common.{◌≡◌, ◌∙◌}
use Rattle.memory.proofs.Laying.{laid_first, laid_more}
use Rattle.memory.proofs.map.with_image.Goals as goal

pub loop-addr-init : goal.loop-addr-init
loop-addr-init c =
    let start : c.into_iter-addr-iterator.result ≡ c.args.image.now = c.into_iter-addr-iterator.ensures.into_iter_gives ∙ c.iter-addr-items.ensures.entries in
    rw start (laid_first _ _ _ c.iter-addr-items.ensures.found)

pub loop-addr-preserved : goal.loop-addr-preserved
loop-addr-preserved c =
    laid_more _ _ _ _ _ _ (c.in-Some.addr.now, c.in-Some.byte.now) (rw c.in-Some.ensures.steps at c.loop-addr.invariant)
    c.put_byte.ensures.length c.put_byte.ensures.there c.put_byte.ensures.others
