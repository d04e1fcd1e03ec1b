use Rattle.debugger_meaning.proofs.Parting.{words_are}
use Rattle.debugger_meaning.proofs.laws.words_are_read.Goals as goal

pub returns : goal.returns
returns c = words_are
