use Rattle.memory.proofs.Laying.{Laid}
use Rattle.memory.proofs.map.with_image.Given as goal

abbrev pub invariant-loop-addr : goal.invariant-loop-addr
invariant-loop-addr l = Laid l.image l.addr-iterator l.start l.fn.bare.items l.bytes.items
