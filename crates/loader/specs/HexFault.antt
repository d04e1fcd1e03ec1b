-- The numbers, names and lines of the faults of a HEX text.
-- To be believed: the headline rests on it.
use Rattle.std.specs.Prelude.{ℕ, List, codes, Option, None, Some}
use Rattle.loader.specs.declared.hex_fault.RecordFault.{RecordFault}
use Rattle.loader.specs.declared.hex_fault.RecordFault.TheVariants.{BadRecord, BadSum, BadType, AfterEnd, NotLoadable}
use Rattle.loader.specs.declared.hex_fault.HexFault.{HexFault}
use Rattle.loader.specs.declared.hex_fault.HexFault.TheVariants.{InLine, NoEnd, Memory}

-- a fault's title: its number and its name
abbrev pub line_fault_title : RecordFault → ℕ × List ℕ
line_fault_title BadRecord = (21, codes "BadRecord")
line_fault_title BadSum = (22, codes "BadSum")
line_fault_title BadType = (23, codes "BadType")
line_fault_title AfterEnd = (25, codes "AfterEnd")
line_fault_title NotLoadable = (26, codes "NotLoadable")

abbrev pub line_fault_number : RecordFault → ℕ
line_fault_number fault = (line_fault_title fault).0

abbrev pub line_fault_name : RecordFault → List ℕ
line_fault_name fault = (line_fault_title fault).1

abbrev pub hex_fault_title : HexFault → ℕ × List ℕ
hex_fault_title (InLine fault line) = line_fault_title fault
hex_fault_title NoEnd = (24, codes "NoEnd")
hex_fault_title Memory = (27, codes "Memory")

abbrev pub hex_fault_number : HexFault → ℕ
hex_fault_number fault = (hex_fault_title fault).0

abbrev pub hex_fault_name : HexFault → List ℕ
hex_fault_name fault = (hex_fault_title fault).1

abbrev pub hex_fault_line : HexFault → Option ℕ
hex_fault_line (InLine fault line) = Some line
hex_fault_line _ = None
