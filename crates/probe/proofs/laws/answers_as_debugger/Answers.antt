use Rattle.probe.proofs.AsDebugger.{answers_as_debugger}
use Rattle.probe.proofs.laws.answers_as_debugger.Goals as goal

pub returns : goal.returns
returns c = answers_as_debugger
