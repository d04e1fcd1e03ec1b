-- The accesses of a clock leave what the processor's part of it leaves.
use Rattle.wiring.specs.EachWire.{requested_type}
use Rattle.std.proofs.Common.{◌≡◌, ℕ, ◌+◌, List, [], ◌∷◌, ◌++◌, map, refl, sym, ap, subst, ◌∙◌, append-nil}
use Rattle.std.specs.Prelude.{fold}
use Rattle.std.specs.List.{flat_map}
use Rattle.board_types.specs.declared.choice.ClockTable.{ClockTable}
use Rattle.execute_meaning.specs.Cpu.{CpuState}
use Rattle.execute_meaning.specs.declared.boundary.Cause.TheVariants as causes
use Rattle.wiring.specs.Chips.{ChipsState}
use Rattle.wiring.specs.Ports.{chips_bus}
use Rattle.wiring.specs.Wires.{after_acknowledge}
use Rattle.board_plain.specs.declared.act.Act.{Act}
use Rattle.board_plain.specs.declared.act.Act.TheVariants.{Nothing, Request, SingleStep, Iteration, Instruction}
use Rattle.board_plain.specs.Plain.{Plain, after_act, after_clock, clock_of, next_act, state_of}
use Rattle.board_plain.specs.Trail.{trail_next}
use Rattle.events.specs.declared.access.Access.{Access}
use Rattle.events.specs.declared.event.Event.TheVariants.{Became, Began, Reached}
use Rattle.events.specs.Accesses.{accesses_next, after_noted}
use Rattle.events.specs.EventLaws.{AreOwn}
use Rattle.events.specs.Events.{all_wires, chips_reached, codes_next}
use Rattle.events.specs.Noting.{after_access}
use Rattle.events.specs.PortLaws.{accessed_by, accesses_told, AccessesAreTold, chips_met, ReadsAreTold}
use Rattle.events.proofs.Noted.{makes_accesses}
use Rattle.events.proofs.Parts.{joined, none_arrives, none_if, none_in, none_latched, none_wired}
use Rattle.events.proofs.Told.{keeps_state, latched_next}

left_by : (table : ClockTable) (cpu : CpuState) (busy : ℕ) (c : ChipsState) (act : Act)
    → (after_act table cpu busy c act).bus ≡ fold (after_access chips_bus) (chips_met c act) (after_noted table cpu busy c act).bus.accesses
left_by table cpu busy c Nothing = refl
left_by table cpu busy c Request = ((makes_accesses chips_bus).enter table cpu (after_acknowledge c) (requested_type c) causes.Request).made
left_by table cpu busy c SingleStep = ((makes_accesses chips_bus).enter table cpu c 1 causes.SingleStep).made
left_by table cpu busy c Iteration = ((makes_accesses chips_bus).again cpu c).made
left_by table cpu busy c (Instruction decoded) = ((makes_accesses chips_bus).step table cpu c decoded).made

own_by : (table : ClockTable) (cpu : CpuState) (busy : ℕ) (c : ChipsState) (act : Act)
    → AreOwn chips_bus (chips_met c act) (after_noted table cpu busy c act).bus.accesses
own_by table cpu busy c Nothing = tt
own_by table cpu busy c Request = ((makes_accesses chips_bus).enter table cpu (after_acknowledge c) (requested_type c) causes.Request).own
own_by table cpu busy c SingleStep = ((makes_accesses chips_bus).enter table cpu c 1 causes.SingleStep).own
own_by table cpu busy c Iteration = ((makes_accesses chips_bus).again cpu c).own
own_by table cpu busy c (Instruction decoded) = ((makes_accesses chips_bus).step table cpu c decoded).own

-- the accesses among a clock's events are all that are made in it

all_reached : (clock : ℕ) (accesses : List Access) → flat_map accessed_by (map (Reached clock) accesses) ≡ accesses
all_reached clock [] = refl
all_reached clock (a ∷ more) = ap (λ xs. a ∷ xs) (all_reached clock more)

accesses_of_clock : (s : Plain) → accesses_told s ≡ accesses_next s
accesses_of_clock s =
    joined accessed_by s [] (accesses_next s) [] [] [] []
    (none_in accessed_by Began (λ entry. refl) (trail_next s))
    (all_reached (clock_of s) (accesses_next s))
    (none_if accessed_by (Became (clock_of s) (state_of (after_clock s))) refl (keeps_state s))
    (none_arrives accessed_by (λ clock what code. refl) (clock_of s + 1) (chips_reached s).keyboard (codes_next s))
    (none_latched accessed_by (λ clock code. refl) (clock_of s + 1) (latched_next s))
    (none_wired accessed_by (λ clock wire level. refl) (clock_of s + 1) s (after_clock s) all_wires)
    ∙ append-nil (accesses_next s ++ []) ∙ append-nil (accesses_next s)

pub accesses_are_told : AccessesAreTold
unfolding accesses_next
accesses_are_told s =
    left_by s.clocks s.cpu s.busy s.chips (next_act s)
    ∙ ap (fold (after_access chips_bus) (chips_met s.chips (next_act s))) (sym (accesses_of_clock s))

pub reads_are_told : ReadsAreTold
unfolding accesses_next
reads_are_told s =
    subst (AreOwn chips_bus (chips_met s.chips (next_act s))) (sym (accesses_of_clock s)) (own_by s.clocks s.cpu s.busy s.chips (next_act s))
