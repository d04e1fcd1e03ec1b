-- What became of the keys so far is heard, and how many codes wait is known.
use Rattle.std.proofs.Common.{◌≡◌, ◌≤◌, ◌++◌, List, map, take}
use Rattle.board_types.specs.declared.keys.StampedKey.{StampedKey}
use Rattle.events.specs.declared.event.Event.{Event}
use Rattle.probe_texts.specs.Told.{arrivals_from, held_from}
use Rattle.probe_texts.proofs.telling.tell_arrivals.Given as goal

abbrev pub invariant-loop-key : goal.invariant-loop-key
invariant-loop-key g l = record {
  told : (events : List Event) → g.L.Listener.has l.initial.listener events
      → g.L.Listener.has l.listener (events ++ arrivals_from l.clock l.waiting (map (λ (k : StampedKey). k.code) (take l.key-index l.keys)));
  held : l.held ≡ held_from l.waiting (map (λ (k : StampedKey). k.code) (take l.key-index l.keys));
  few : l.held ≤ 16;
  manner : g.L.Listener.manner l.listener ≡ g.L.Listener.manner l.initial.listener;
}
