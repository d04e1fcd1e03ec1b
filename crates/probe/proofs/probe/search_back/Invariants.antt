-- No stop was met at the clocks from this bound on.
use Rattle.debugger_meaning.specs.Stands.{gone}
use Rattle.probe.specs.Watched.{KeepsStops, stops_of}
use Rattle.probe.proofs.Searching.{SearchedBack}
use Rattle.probe.proofs.probe.search_back.Given as goal

abbrev pub invariant-stretches : goal.invariant-stretches
invariant-stretches l = KeepsStops l.fn.watches l.watches × SearchedBack (stops_of l.fn.watches) l.bound (gone l.session) l.session.first.plain

abbrev pub decreases-stretches : goal.decreases-stretches
decreases-stretches l = l.bound
