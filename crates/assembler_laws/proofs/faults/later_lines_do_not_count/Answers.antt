use Rattle.assembler_laws.proofs.Uniqueness.{later_lines_do_not_count}
use Rattle.assembler_laws.proofs.faults.later_lines_do_not_count.Goals as goal

pub returns : goal.returns
returns c = later_lines_do_not_count
