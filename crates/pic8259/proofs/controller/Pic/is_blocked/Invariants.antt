use Rattle.std.proofs.Common.{◌≡◌, take}
use Rattle.std.specs.List.{list_any}
use Rattle.pic8259.specs.Pic.{blocks}
use Rattle.pic8259.proofs.controller.Pic.is_blocked.Given as goal

abbrev pub invariant-loop-place : goal.invariant-loop-place
invariant-loop-place l = record { blocked : l.is_blocked ≡ list_any (blocks l.self) (take l.place l.order) }
