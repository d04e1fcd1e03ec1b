use Rattle.board_plain.proofs.Working.{at_most_one_step, at_most_two_edges, idle_has_no_work}
use Rattle.board_plain.proofs.laws.idle_has_no_work.Goals as goal

pub returns-clause-step : goal.returns-clause-step
returns-clause-step c = at_most_one_step

pub returns-clause-edges : goal.returns-clause-edges
returns-clause-edges c = at_most_two_edges

pub returns-clause-idle : goal.returns-clause-idle
returns-clause-idle c = idle_has_no_work
