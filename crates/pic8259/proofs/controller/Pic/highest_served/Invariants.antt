use Rattle.std.proofs.Common.{◌≡◌, None, find, take}
use Rattle.pic8259.specs.Pic.{blocks}
use Rattle.pic8259.proofs.controller.Pic.highest_served.Given as goal

abbrev pub invariant-loop-served : goal.invariant-loop-served
invariant-loop-served l = find (blocks l.self) (take l.served-index l.served-items) ≡ None
