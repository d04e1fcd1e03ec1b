use Rattle.memory.proofs.Laying.{Passed}
use Rattle.memory.proofs.map.fits_ram.Given as goal

abbrev pub invariant-loop-addr : goal.invariant-loop-addr
invariant-loop-addr l = Passed l.image l.ram_size l.addr-iterator
