-- Which act the board's code makes.
-- For proofs alone: no public contract rests on it.
use Rattle.board_plain.specs.CodeAtIp.{decoded_at}
use Rattle.board_plain.specs.declared.act.Act.{Act}
use Rattle.board_plain.specs.declared.act.Act.TheVariants as acts
use Rattle.decode.specs.DecodedSlots.{IsSlotAt}
use Rattle.execute_meaning.specs.Cpu.{CpuState}
use Rattle.wiring.specs.Chips.{ChipsState}
use Rattle.board.specs.declared.doing.Doing.{Doing}
use Rattle.board.specs.declared.doing.Doing.TheVariants.{Nothing, Request, SingleStep, Iteration, Instruction}

-- the act, of which the instruction is the one that stands at CS:IP
abbrev pub act_of : CpuState → ChipsState → Doing → Act
act_of cpu chips Nothing = acts.Nothing
act_of cpu chips Request = acts.Request
act_of cpu chips SingleStep = acts.SingleStep
act_of cpu chips Iteration = acts.Iteration
act_of cpu chips (Instruction slot) = acts.Instruction (decoded_at cpu chips)

-- its slot is that instruction's
abbrev pub IsReadyToRun : CpuState → ChipsState → Doing → Type 0
IsReadyToRun cpu chips (Instruction slot) = IsSlotAt slot (decoded_at cpu chips)
IsReadyToRun cpu chips doing = Unit {0}
