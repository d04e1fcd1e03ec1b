-- None of the accesses so far has changed a byte for which the stop waits.
use Rattle.std.proofs.Common.{◌≡◌, false, take}
use Rattle.std.specs.List.{list_any}
use Rattle.probe.specs.Met.{write_differs}
use Rattle.probe.proofs.met.one_differs.Given as goal

abbrev pub invariant-loop-access : goal.invariant-loop-access
invariant-loop-access l = list_any (write_differs l.address l.count l.copied l.board.plain) (take l.access-index l.accesses) ≡ false
