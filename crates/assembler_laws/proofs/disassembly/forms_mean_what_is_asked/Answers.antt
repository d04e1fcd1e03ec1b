use Rattle.assembler_laws.proofs.ChosenRows.{forms_mean_what_is_asked}
use Rattle.assembler_laws.proofs.disassembly.forms_mean_what_is_asked.Goals as goal

pub returns : goal.returns
returns c = forms_mean_what_is_asked
