use Rattle.mda_text.proofs.ScreenLaws.{shows_alike}
use Rattle.mda_text.proofs.laws.shows_alike.Goals as goal

pub returns : goal.returns
returns c = shows_alike
