use Rattle.mda_text.proofs.MarkLaws.{tells_changes}
use Rattle.mda_text.proofs.laws.tells_changes.Goals as goal

pub returns : goal.returns
returns c = tells_changes
