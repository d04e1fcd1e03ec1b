use Rattle.mda_text.proofs.ScreenLaws.{starts_at}
use Rattle.mda_text.proofs.laws.starts_at.Goals as goal

pub returns : goal.returns
returns c = starts_at
