use Rattle.debugger_meaning.proofs.SpelledCommands.{commands_said}
use Rattle.debugger_meaning.proofs.laws.commands_are_said.Goals as goal

pub returns : goal.returns
returns c = commands_said
