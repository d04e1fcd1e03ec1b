-- The accesses that a plain board's processor makes in a clock, in order (8086 Family User's Manual, "Instruction
-- Set"): those of its step, of the next iteration of a repeat, or of an entry, made over a bus that notes them.
-- To be believed by callers of this crate: the headline does not rest on it.
use Rattle.wiring.specs.EachWire.{requested_type}
use Rattle.std.specs.Prelude.{ℕ, List}
use Rattle.board_types.specs.declared.choice.ClockTable.{ClockTable}
use Rattle.board_plain.specs.declared.act.Act.{Act}
use Rattle.board_plain.specs.declared.act.Act.TheVariants.{Nothing, Request, SingleStep, Iteration, Instruction}
use Rattle.board_plain.specs.Plain.{Plain, next_act}
use Rattle.execute_meaning.specs.Boundaries.{after_enter}
use Rattle.execute_meaning.specs.Cpu.{CpuState}
use Rattle.execute_meaning.specs.Meaning.{StepResult, step_result, after_step, after_again}
use Rattle.execute_meaning.specs.declared.boundary.Cause.TheVariants as causes
use Rattle.wiring.specs.Chips.{ChipsState}
use Rattle.wiring.specs.Ports.{chips_bus}
use Rattle.wiring.specs.Wires.{after_acknowledge}
use Rattle.events.specs.declared.access.Access.{Access}
use Rattle.events.specs.Noting.{Noted, noting, unnoted}

-- the processor's part of a clock over the chips' bus, with its accesses noted
abbrev pub after_noted : ClockTable → CpuState → ℕ → ChipsState → Act → StepResult (Noted ChipsState)
after_noted table cpu busy chips Nothing = step_result cpu (unnoted chips) busy
after_noted table cpu busy chips Request =
    after_enter (noting chips_bus) table cpu (unnoted (after_acknowledge chips)) (requested_type chips) causes.Request
after_noted table cpu busy chips SingleStep =
    after_enter (noting chips_bus) table cpu (unnoted chips) 1 causes.SingleStep
after_noted table cpu busy chips Iteration = after_again (noting chips_bus) cpu (unnoted chips)
after_noted table cpu busy chips (Instruction decoded) = after_step (noting chips_bus) table cpu (unnoted chips) decoded

-- the accesses of the next clock
unfoldable pub accesses_next : Plain → List Access
accesses_next s = (after_noted s.clocks s.cpu s.busy s.chips (next_act s)).bus.accesses
