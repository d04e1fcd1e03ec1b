use Rattle.assembler_laws.proofs.LinesBefore.{lines_before_are_clean}
use Rattle.assembler_laws.proofs.faults.lines_before_are_clean.Goals as goal

pub returns : goal.returns
returns c = lines_before_are_clean
