-- The conditions of the stops so far are listed.
use Rattle.std.proofs.Common.{◌≡◌, take}
use Rattle.probe.specs.Probe.{conditions_of}
use Rattle.probe.specs.Watched.{stops_of}
use Rattle.probe.proofs.watched.conditions_of.Given as goal

abbrev pub invariant-loop-watched : goal.invariant-loop-watched
invariant-loop-watched l = l.conditions.items ≡ conditions_of (stops_of (take l.watched-index l.watches))
