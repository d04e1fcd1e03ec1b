use Rattle.debugger_meaning.proofs.Walking.{sessions_stand}
use Rattle.debugger_meaning.proofs.laws.sessions_stand.Goals as goal

pub returns : goal.returns
returns c = sessions_stand
