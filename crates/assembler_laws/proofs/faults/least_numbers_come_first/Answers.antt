use Rattle.assembler_laws.proofs.FaultOrder.{least_numbers_come_first}
use Rattle.assembler_laws.proofs.faults.least_numbers_come_first.Goals as goal

pub returns : goal.returns
returns c = least_numbers_come_first
