use Rattle.std.proofs.Common.{◌≡◌, None, find, take}
use Rattle.std.specs.List.{list_any}
use Rattle.pic8259.specs.Pic.{blocks, may_be_taken}
use Rattle.pic8259.proofs.controller.Pic.first_to_take.Given as goal

abbrev pub invariant-loop-level : goal.invariant-loop-level
invariant-loop-level l = record {
  none_yet : find (may_be_taken l.self) (take l.level-index l.level-items) ≡ None;
  blocked : l.is_blocked ≡ list_any (blocks l.self) (take l.level-index l.level-items);
}
