-- The numbers and names of the faults of a run file.
-- To be believed: the headline rests on it.
use Rattle.std.specs.Prelude.{ℕ, List, codes}
use Rattle.loader.specs.declared.run_fault.RunFault.{RunFault}
use Rattle.loader.specs.declared.run_fault.RunFault.TheVariants.{NotJson, BadField, BadScan}
use Rattle.loader.specs.declared.run_fault.RunFault.TheVariants.{StampsFall, BudgetTooLarge, Memory}

-- a fault's title: its number and its name
abbrev pub run_fault_title : RunFault → ℕ × List ℕ
run_fault_title NotJson = (31, codes "NotJson")
run_fault_title BadField = (32, codes "BadField")
run_fault_title BadScan = (33, codes "BadScan")
run_fault_title StampsFall = (34, codes "StampsFall")
run_fault_title BudgetTooLarge = (35, codes "BudgetTooLarge")
run_fault_title Memory = (37, codes "Memory")

abbrev pub run_fault_number : RunFault → ℕ
run_fault_number fault = (run_fault_title fault).0

abbrev pub run_fault_name : RunFault → List ℕ
run_fault_name fault = (run_fault_title fault).1
