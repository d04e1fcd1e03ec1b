-- What the stops so far look for is asked for.
use Rattle.std.proofs.Common.{◌≡◌, map, take}
use Rattle.probe.specs.Met.{asked_by}
use Rattle.probe.specs.declared.watched.Watched.{Watched}
use Rattle.probe.proofs.looking.asked_by.Given as goal

abbrev pub invariant-loop-watched : goal.invariant-loop-watched
invariant-loop-watched l = l.asked ≡ asked_by (map (λ (w : Watched). w.stop) (take l.watched-index l.watches))
