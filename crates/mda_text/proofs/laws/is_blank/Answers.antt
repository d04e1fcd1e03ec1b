use Rattle.mda_text.proofs.ScreenLaws.{is_blank}
use Rattle.mda_text.proofs.laws.is_blank.Goals as goal

pub returns : goal.returns
returns c = is_blank
