use Rattle.std.proofs.Common.{◌≡◌, ◌∙◌, arith}
use Rattle.memory.proofs.Laying.{passed_more}
use Rattle.memory.proofs.map.fits_ram.Goals.{else-ram_size-addr-via-then-ram_size-addr+else-addr-lt-RAM_LIMIT, else-ram_size-addr-via-else-ram_size-addr}
use Rattle.memory.proofs.map.fits_ram.Goals as goal

pub loop-addr-init : goal.loop-addr-init
loop-addr-init c =
    let start : c.into_iter-addr-iterator.result ≡ c.args.image.now = c.into_iter-addr-iterator.ensures.into_iter_gives ∙ c.iter-addr-items.ensures.entries in
    rw start (record { found = c.iter-addr-items.ensures.found; passed = λ a from below none. none })

pub loop-addr-preserved : goal.loop-addr-preserved
loop-addr-preserved c =
    passed_more _ _ _ (c.in-Some.addr.now, c.in-Some.field-0-1.now) (rw c.in-Some.ensures.steps at c.loop-addr.invariant)
    (λ from below. elim c.else-ram_size-addr.branch [
      | else-ram_size-addr-via-then-ram_size-addr+else-addr-lt-RAM_LIMIT w ↦ omega arith
      | else-ram_size-addr-via-else-ram_size-addr w ↦ omega arith
    ])
