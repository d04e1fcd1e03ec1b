use Rattle.assembler_laws.proofs.Uniqueness.{one_fault_is_first}
use Rattle.assembler_laws.proofs.faults.one_fault_is_first.Goals as goal

pub returns : goal.returns
returns c = one_fault_is_first
