use Rattle.pit8253.proofs.ReadBack.{program_ends_latches}
use Rattle.pit8253.proofs.laws.program_ends_latches.Goals as goal

pub returns : goal.returns
returns c = program_ends_latches
