-- Answers as they are printed, and the numbers and names of faults.
-- To be believed: the headline rests on it.
use Rattle.std.specs.Prelude.{ℕ, List, ◌++◌, codes, Option, None}
use Rattle.std.specs.Fmt.{decimal}
use Rattle.std.specs.String.{string_bytes}
use Rattle.debugger_meaning.specs.declared.answer.Answer.{Answer}
use Rattle.debugger_meaning.specs.declared.answer.Answer.TheVariants.{Stop, Clock, StopAt, Text}
use Rattle.debugger_meaning.specs.declared.fault.DebugFault.{DebugFault}
use Rattle.debugger_meaning.specs.declared.fault.DebugFault.TheVariants.{BadScan, StampsFall, ClockLimit, BadCommand}
use Rattle.debugger_meaning.specs.declared.fault.DebugFault.TheVariants.{TooManyStops, Memory, BeforeStart, NoCell}

-- an answer as text, each line of it ended by a line feed
abbrev pub answer_text : Answer → List ℕ
answer_text (Stop number) = codes "stop " ++ (decimal number ++ codes "\n")
answer_text (Clock clock) = codes "clock " ++ (decimal clock ++ codes "\n")
answer_text (StopAt number clock) =
    codes "stop " ++ (decimal number ++ (codes " clock " ++ (decimal clock ++ codes "\n")))
answer_text (Text text) = string_bytes text

-- a fault's title: its number and its name
abbrev pub fault_title : DebugFault → ℕ × List ℕ
fault_title BadScan = (33, codes "BadScan")
fault_title StampsFall = (34, codes "StampsFall")
fault_title ClockLimit = (42, codes "ClockLimit")
fault_title BadCommand = (51, codes "BadCommand")
fault_title TooManyStops = (52, codes "TooManyStops")
fault_title (Memory clock) = (53, codes "Memory")
fault_title BeforeStart = (54, codes "BeforeStart")
fault_title NoCell = (55, codes "NoCell")

abbrev pub fault_number : DebugFault → ℕ
fault_number fault = (fault_title fault).0

abbrev pub fault_name : DebugFault → List ℕ
fault_name fault = (fault_title fault).1

-- the clock that a refusal for want of memory names, if it names one
abbrev pub fault_clock : DebugFault → Option ℕ
fault_clock (Memory clock) = clock
fault_clock _ = None
