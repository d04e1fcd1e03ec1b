use Rattle.events.proofs.Told.{speaker_is_told}
use Rattle.events.proofs.clock_laws.speaker_is_told.Goals as goal

pub returns : goal.returns
returns c = speaker_is_told
