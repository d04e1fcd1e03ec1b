-- The accesses of a clock, against what they leave.
-- Laws: claims above the definitions, each proved as the contract of a function.
use Rattle.std.specs.Prelude.{◌≡◌, List, [], ◌∷◌, fold}
use Rattle.std.specs.List.{flat_map}
use Rattle.wiring.specs.Chips.{ChipsState}
use Rattle.wiring.specs.Ports.{chips_bus}
use Rattle.wiring.specs.Wires.{after_acknowledge}
use Rattle.board_plain.specs.declared.act.Act.{Act}
use Rattle.board_plain.specs.declared.act.Act.TheVariants.{Request}
use Rattle.board_plain.specs.Plain.{Plain, after_act, next_act}
use Rattle.events.specs.declared.access.Access.{Access}
use Rattle.events.specs.declared.event.Event.{Event}
use Rattle.events.specs.declared.event.Event.TheVariants.{Reached}
use Rattle.events.specs.EventLaws.{AreOwn}
use Rattle.events.specs.Events.{events_next}
use Rattle.events.specs.Noting.{after_access}

-- the chips as the processor's part of a clock finds them: a request that it takes is acknowledged
abbrev pub chips_met : ChipsState → Act → ChipsState
chips_met chips Request = after_acknowledge chips
chips_met chips _ = chips

-- the accesses among a clock's events
abbrev pub accessed_by : Event → List Access
accessed_by (Reached _ access) = access ∷ []
accessed_by _ = []

abbrev pub accesses_told : Plain → List Access
accesses_told s = flat_map accessed_by (events_next s)

-- the accesses of a clock, made in order by the board's own reads and writes, leave what the processor's part leaves
abbrev pub AccessesAreTold : Type 0
AccessesAreTold =
    (s : Plain)
    → (after_act s.clocks s.cpu s.busy s.chips (next_act s)).bus
    ≡ fold (after_access chips_bus) (chips_met s.chips (next_act s)) (accesses_told s)

-- each byte that is read of a port is the one that the board gives there at that point
abbrev pub ReadsAreTold : Type 0
ReadsAreTold = (s : Plain) → AreOwn chips_bus (chips_met s.chips (next_act s)) (accesses_told s)
