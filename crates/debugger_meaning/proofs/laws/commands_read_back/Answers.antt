use Rattle.debugger_meaning.proofs.Reading.{read_back}
use Rattle.debugger_meaning.proofs.laws.commands_read_back.Goals as goal

pub returns : goal.returns
returns c = read_back
