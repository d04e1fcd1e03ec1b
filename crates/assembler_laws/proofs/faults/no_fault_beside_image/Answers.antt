use Rattle.assembler.proofs.AnsweringFaults.{only_memory}
use Rattle.assembler_laws.proofs.faults.no_fault_beside_image.Goals as goal

pub returns : goal.returns
returns c = only_memory
