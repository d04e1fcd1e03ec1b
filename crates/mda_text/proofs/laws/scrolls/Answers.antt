use Rattle.mda_text.proofs.ScreenLaws.{scrolls}
use Rattle.mda_text.proofs.laws.scrolls.Goals as goal

pub returns : goal.returns
returns c = scrolls
