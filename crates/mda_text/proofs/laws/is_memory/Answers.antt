use Rattle.mda_text.proofs.ScreenLaws.{is_memory}
use Rattle.mda_text.proofs.laws.is_memory.Goals as goal

pub returns : goal.returns
returns c = is_memory
