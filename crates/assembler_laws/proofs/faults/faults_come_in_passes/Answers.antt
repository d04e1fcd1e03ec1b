use Rattle.assembler_laws.proofs.FaultOrder.{faults_come_in_passes}
use Rattle.assembler_laws.proofs.faults.faults_come_in_passes.Goals as goal

pub returns : goal.returns
returns c = faults_come_in_passes
