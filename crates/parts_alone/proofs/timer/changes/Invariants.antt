use Rattle.std.proofs.Common.{◌≡◌}
use Rattle.pit8253.specs.Pit.{after_ticks}
use Rattle.parts_alone.specs.Timer.{changes, level_after}
use Rattle.parts_alone.proofs.timer.changes.Given as goal

abbrev pub invariant-loop-tick : goal.invariant-loop-tick
invariant-loop-tick l = record {
  pit : l.pit ≡ after_ticks l.fn.pit l.tick;
  level : l.level ≡ level_after l.fn.pit l.tick;
  found : l.found.items ≡ changes (level_after l.fn.pit) l.tick;
}
