use Rattle.std.proofs.Common.{rules}
use Rattle.pcboard_program.proofs.run.run_image.Goals as goal

pub returns-in-Err-clause-accepted : goal.returns-in-Err-clause-accepted
returns-in-Err-clause-accepted c = λ fits. search rules
