use Rattle.mda_text.proofs.ScreenLaws.{tells_beam}
use Rattle.mda_text.proofs.laws.tells_beam.Goals as goal

pub returns : goal.returns
returns c = tells_beam
