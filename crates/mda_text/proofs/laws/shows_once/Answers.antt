use Rattle.mda_text.proofs.ScreenLaws.{shows_once}
use Rattle.mda_text.proofs.laws.shows_once.Goals as goal

pub returns : goal.returns
returns c = shows_once
