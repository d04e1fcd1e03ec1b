use Rattle.assembler_laws.proofs.Outcome.{each_source_has_an_outcome}
use Rattle.assembler_laws.proofs.faults.each_source_has_an_outcome.Goals as goal

pub returns : goal.returns
returns c = each_source_has_an_outcome
