-- The accesses so far are heard.
use Rattle.std.proofs.Common.{◌≡◌, ◌++◌, List, map, take}
use Rattle.events.specs.declared.event.Event.{Event}
use Rattle.events.specs.declared.event.Event.TheVariants.{Reached}
use Rattle.probe_texts.proofs.telling.tell_accesses.Given as goal

abbrev pub invariant-loop-access : goal.invariant-loop-access
invariant-loop-access g l = record {
  told : (events : List Event) → g.L.Listener.has l.initial.listener events
      → g.L.Listener.has l.listener (events ++ map (Reached l.clock) (take l.access-index l.accesses));
  manner : g.L.Listener.manner l.listener ≡ g.L.Listener.manner l.initial.listener;
}
