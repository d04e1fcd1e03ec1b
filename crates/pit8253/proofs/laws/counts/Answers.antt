use Rattle.pit8253.proofs.Waves.{counts_period, counts_half}
use Rattle.pit8253.proofs.laws.counts.Goals as goal

pub returns-clause-mode_2 : goal.returns-clause-mode_2
returns-clause-mode_2 c = counts_period

pub returns-clause-mode_3 : goal.returns-clause-mode_3
returns-clause-mode_3 c = counts_half
